-- `classes::class::items` meets its contract.
use Rattle.classes.specs.ClassItems.{items_ended, items_broken}
use Rattle.classes.proofs.class.items.Goals as goal

pub returns-in_err-item : goal.returns-in_err-item
returns-in_err-item c =
    rw c.from_residual.ensures (items_broken c.loop-item.invariant c.in_err-item.ensures)

pub returns : goal.returns
returns c =
    items_ended c.loop-item.invariant (rw c.in_default.is at c.in_ok-item.ensures)
