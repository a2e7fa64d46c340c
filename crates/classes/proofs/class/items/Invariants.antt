-- The loop's invariant: the items from `at` up to `place` are read, and `members` tells their values.
use Prim.Native.Nat.{◌-◌}
use lib.ListN.{length}
use Rattle.classes.specs.ClassItems.{ItemsSoFar}
use Rattle.classes.proofs.class.items.Given as goal

abbrev pub invariant-loop-item : goal.invariant-loop-item
invariant-loop-item l =
    ItemsSoFar l.expr l.at l.all_but l.place l.count l.members

abbrev pub decreases-loop-item : goal.decreases-loop-item
decreases-loop-item l =
    length l.expr - l.place
