-- `drawing::marks::placed` meets its contract: the records passed have other places.
use Rattle.std.proofs.Common.{◌≡◌}
use Rattle.drawing.specs.Marks.{placed}
use Rattle.drawing.proofs.marks.placed.Given as goal

abbrev pub invariant-loop-i : goal.invariant-loop-i
invariant-loop-i l = placed l.list l.i l.place ≡ placed l.list l.records l.place
