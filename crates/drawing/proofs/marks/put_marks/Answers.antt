-- `drawing::marks::put_marks` meets its contract: before byte i the first i marks are printed.
use Rattle.std.proofs.Common.{arith, add-one}
use Rattle.printing.specs.PrinterLaws.{puts_join, puts_none}
use Rattle.drawing.specs.MarksLaws.{marks_none, marks_next, marks_room}
use Rattle.drawing.proofs.marks.put_marks.Goals as goal

pub loop-i-init : goal.loop-i-init
loop-i-init c = rw (marks_none _ _ _) (puts_none (omega arith))

pub put_mark-requires : goal.put_mark-requires
put_mark-requires c =
    rw c.mark.ensures
    (omega (arith, marks_room c.args.rule.now c.args.list.now c.args.records c.loop-i.i (omega arith)))

pub loop-i-preserved : goal.loop-i-preserved
loop-i-preserved c =
    rw (add-one, marks_next c.args.rule.now c.args.list.now c.args.records c.loop-i.i, ← c.mark.ensures)
    (puts_join c.loop-i.invariant c.put_mark.ensures)
