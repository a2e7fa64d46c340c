-- `marks::along::advance_along`, its loop: the steps along the bytes so far are made.
use Rattle.std.proofs.Common.{ℕ, List, take}
use Rattle.language.specs.Tree.{Tree}
use Rattle.tree.specs.Leaf.{Leaf}
use Rattle.tables.specs.Tables.{Prepared}
use Rattle.marks.specs.Along.{Steppable, Walkable, WentAlong}
use Rattle.marks.proofs.along.advance_along.Given as goal

abbrev pub invariant-loop-byte : goal.invariant-loop-byte
invariant-loop-byte l =
    Walkable l.rows l.count l.words
    × ((list : List ℕ) (t : Tree Leaf) → Prepared t l.rows l.count
    → Steppable list l.classes t l.initial.words
    → WentAlong list l.classes t l.initial.words (take l.byte-index l.bytes) l.words l.told.accepting l.told.nothing)
