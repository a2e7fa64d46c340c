-- `deciding::good::take_labels` meets its contract. The loop's invariant: the first `i` labels are those that the first
-- `i` records ask for, and `classes` of these are class leaves'.
use Rattle.std.proofs.Common.{◌≤◌, ◌≡◌}
use Rattle.tree.specs.Layout.{class_records}
use Rattle.deciding.specs.LabelsTaken.{Taken}
use Rattle.deciding.proofs.good.take_labels.Given as goal

abbrev pub invariant-loop-i : goal.invariant-loop-i
invariant-loop-i l =
    Taken l.list l.labels l.i × (l.classes ≡ class_records l.list l.i) × (l.classes ≤ l.i)
