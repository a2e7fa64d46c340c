-- `drawing::put_records` meets its contract: before each turn the lines printed so far, with those still to come, are
-- all lines.
use Rattle.std.proofs.Common.{◌≡◌, length}
use Rattle.tree.specs.Limits.{most_records}
use Rattle.drawing.specs.Drawing.{record_lines}
use Rattle.drawing.specs.DrawingLaws.{DrawnSoFar}
use Rattle.drawing.proofs.put_records.Given as goal

abbrev pub invariant-loop-i : goal.invariant-loop-i
invariant-loop-i l =
    (length l.table ≡ most_records)
    × DrawnSoFar (record_lines l.list l.records) l.initial.printer l.list l.table l.above l.i l.printer
