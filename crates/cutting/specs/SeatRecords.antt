-- What the records of a tree hold, told by its seats, and that the numbers of a seat are small.
use Rattle.std.specs.Prelude.{ℕ, suc, ◌+◌, ◌-◌, ◌≤◌, ◌<◌, cond, List, [], ◌∷◌, ◌++◌, eqb}
use Rattle.language.specs.Tree.{Tree, leaf, catenation, union, star, nodes}
use Rattle.tree.specs.Leaf.{Leaf}
use Rattle.tree.specs.Layout.{record_of, no_child, catenation_kind, union_kind, star_kind}
use Rattle.tree.specs.Records.{leaf_kind, leaf_character, leaf_number}
use Rattle.cutting.specs.Seats.{Seat, label, of_right, left_slot, right_slot, cut_edges}

-- the kind of a tree's root
abbrev pub root_kind : Tree Leaf → ℕ
root_kind (leaf a) = leaf_kind a
root_kind (catenation s t) = catenation_kind
root_kind (union s t) = union_kind
root_kind (star s) = star_kind

-- the character of a tree's root, 0 for the other kinds
abbrev pub root_character : Tree Leaf → ℕ
root_character (leaf a) = leaf_character a
root_character (catenation s t) = 0
root_character (union s t) = 0
root_character (star s) = 0

-- the record number that a slot stands for, 65,535 for none
abbrev pub child_number : ℕ → ℕ
child_number slot = cond (eqb slot 0) no_child (slot - 1)

-- what stands in the place of a left or only child whose slot is given: a leaf has there what is its own
abbrev pub left_number : Tree Leaf → (slot : ℕ) → ℕ
left_number (leaf a) slot = leaf_number a
left_number (catenation s t) slot = child_number slot
left_number (union s t) slot = child_number slot
left_number (star s) slot = child_number slot

-- the record of a seat, when its number is i
abbrev pub seat_record : ℕ → Seat → List ℕ
seat_record i x =
    record_of (root_kind x.tree) (root_character x.tree)
    (left_number x.tree (left_slot (label x) i (of_right nodes x.tree))) (child_number (right_slot (label x) i))
    x.piece

-- the records of some seats, the first of which has the number i
abbrev pub written : ℕ → List Seat → List ℕ
written i [] = []
written i (x ∷ xs) = seat_record i x ++ written (suc i) xs

-- a seat's numbers stay below those that its tree was given: its piece is older than its new pieces, and these end in
-- time
pub record SeatWithin (limit : ℕ) (x : Seat) : Type 0 where
  pub older : x.piece < x.new
  pub bounded : x.new + cut_edges x.tree ≤ limit
