-- `columns::columns::columns_of` meets its contract. The loop's invariant: each byte has the least that the leaves
-- before this entry take alike, and only their numbers are noted.
use Prim.Native.Nat.{◌*◌, ◌≤◌}
use Rattle.tree.specs.Limits.{most_states}
use Rattle.columns.specs.Parting.{PartedSoFar}
use Rattle.columns.proofs.columns.columns_of.Given as goal

abbrev pub invariant-loop-entry : goal.invariant-loop-entry
invariant-loop-entry l =
    (l.entry ≤ most_states * l.count) × PartedSoFar l.rows l.classes l.entry l.known l.least
