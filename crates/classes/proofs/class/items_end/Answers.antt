-- `classes::class::items_end` meets its contract.
use Rattle.classes.specs.ClassItems.{one_more_passed, passed_ended, passed_broken}
use Rattle.classes.proofs.class.items_end.Goals as goal

pub returns-in_err-item : goal.returns-in_err-item
returns-in_err-item c =
    rw c.from_residual.ensures (passed_broken c.loop-item.invariant c.in_err-item.ensures)

pub loop-item-preserved : goal.loop-item-preserved
loop-item-preserved c =
    one_more_passed c.loop-item.invariant (rw c.in-Item.is at c.in_ok-item.ensures)

pub returns : goal.returns
returns c =
    passed_ended c.loop-item.invariant (rw c.in_default.is at c.in_ok-item.ensures)
