-- `exploring::explore::explore_on` meets its contract: the room holds the states that were found and p entries. The
-- measure is how many entries there is still room for.
use Prim.Native.Nat.{◌-◌, ◌*◌}
use mathlib.Core.Path.{◌≡◌}
use lib.ListN.{length, take}
use Rattle.language.specs.Tree.{Tree}
use Rattle.tree.specs.Leaf.{Leaf}
use Rattle.tables.specs.Tables.{Prepared}
use Rattle.exploring.specs.FindingStates.{Progress, Exploring}
use Rattle.exploring.proofs.explore.explore_on.Given as goal

abbrev pub invariant-loop-p : goal.invariant-loop-p
invariant-loop-p l =
    Exploring l.rows l.layout.count l.layout.masks l.firsts l.columns l.layout.most l.room l.words l.states l.p
    × (length l.room ≡ length l.initial.room)
    × ((t : Tree Leaf) → Prepared t l.rows l.layout.count
    → Progress l.classes t (take l.columns l.firsts) l.layout.count l.layout.most l.room l.states l.p)

abbrev pub decreases-loop-p : goal.decreases-loop-p
decreases-loop-p l =
    l.columns * l.layout.most - l.p
