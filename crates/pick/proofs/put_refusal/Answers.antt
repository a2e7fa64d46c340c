-- A check's refusal is the one that the output has.
use Rattle.std.proofs.Common.{length, sym, ◌∙◌, arith}
use Rattle.printing.specs.PrintingLaws.{prints_none}
use Rattle.pick.specs.SaidLaws.{said_counted, said_refused, lent_whole}
use Rattle.pick.proofs.Told.{says}
use Rattle.pick.proofs.put_refusal.Goals as goal

pub returns-in-Ok : goal.returns-in-Ok
returns-in-Ok c = says (said_counted _ _ _ _ c.in-Ok.ensures) (prints_none c.args.out.now 0 (omega arith))

pub returns-in-Err : goal.returns-in-Err
returns-in-Err c =
    let bytes = c.args.expression.now in
    says (said_refused bytes _ _ c.in-Err.ensures ∙ sym (lent_whole (length c.args.out.now) bytes _ _ c.requires.room))
    (rw c.number.ensures at c.refusal.ensures)
