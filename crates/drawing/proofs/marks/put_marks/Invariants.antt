-- `drawing::marks::put_marks` meets its contract: before byte i the first i marks are printed.
use Rattle.printing.specs.Printer.{Puts}
use Rattle.drawing.specs.Marks.{marks}
use Rattle.drawing.proofs.marks.put_marks.Given as goal

abbrev pub invariant-loop-i : goal.invariant-loop-i
invariant-loop-i l = Puts l.initial.printer (marks l.rule l.list l.records l.i) l.printer
