-- `ordering::order::one_tree` meets its contract. The loop's invariant: the machine that reads a tree from its labels
-- has read those before this one, and its stack is `depth` deep.
use Rattle.std.proofs.Common.{◌≤◌}
use Rattle.ordering.specs.Depth.{TreesWaiting}
use Rattle.ordering.proofs.order.one_tree.Given as goal

abbrev pub invariant-loop-label : goal.invariant-loop-label
invariant-loop-label l = (l.depth ≤ l.label-index) × TreesWaiting l.labels l.label-index l.depth
