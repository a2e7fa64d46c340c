-- The loop's invariant: the items from `at` up to `place` are passed.
use Prim.Native.Nat.{◌-◌}
use lib.ListN.{length}
use Rattle.classes.specs.ClassItems.{ItemsPassed}
use Rattle.classes.proofs.class.items_end.Given as goal

abbrev pub invariant-loop-item : goal.invariant-loop-item
invariant-loop-item l =
    ItemsPassed l.expr l.at l.place l.count

abbrev pub decreases-loop-item : goal.decreases-loop-item
decreases-loop-item l =
    length l.expr - l.place
