-- A tree with a place at every node: where in the written expression the node comes from.
use Rattle.std.specs.Prelude.{ℕ, List, [], ◌∷◌, ◌++◌}
use Rattle.language.specs.Tree.{Tree}

pub data PlacedTree (A : Type 0) : Type 0 where
  leaf : (place : ℕ) → A → PlacedTree A
  catenation : (place : ℕ) → PlacedTree A → PlacedTree A → PlacedTree A
  union : (place : ℕ) → PlacedTree A → PlacedTree A → PlacedTree A
  star : (place : ℕ) → PlacedTree A → PlacedTree A

-- the tree without the places
abbrev pub unplaced : {A : Type 0} → PlacedTree A → Tree A
unplaced (leaf place a) = Tree.leaf a
unplaced (catenation place s t) = Tree.catenation (unplaced s) (unplaced t)
unplaced (union place s t) = Tree.union (unplaced s) (unplaced t)
unplaced (star place s) = Tree.star (unplaced s)

-- the places of the nodes, in postorder
abbrev pub places : {A : Type 0} → PlacedTree A → List ℕ
places (leaf place a) = place ∷ []
places (catenation place s t) = places s ++ places t ++ (place ∷ [])
places (union place s t) = places s ++ places t ++ (place ∷ [])
places (star place s) = places s ++ (place ∷ [])

-- the tree with f a in place of each leaf a, and the same places
abbrev pub placed_with_leaves : {A B : Type 0} → (A → B) → PlacedTree A → PlacedTree B
placed_with_leaves f (leaf place a) = leaf place (f a)
placed_with_leaves f (catenation place s t) = catenation place (placed_with_leaves f s) (placed_with_leaves f t)
placed_with_leaves f (union place s t) = union place (placed_with_leaves f s) (placed_with_leaves f t)
placed_with_leaves f (star place s) = star place (placed_with_leaves f s)

-- the tree with this one place at every node
abbrev pub all_at : {A : Type 0} → (place : ℕ) → PlacedTree A → PlacedTree A
all_at place (leaf own a) = leaf place a
all_at place (catenation own s t) = catenation place (all_at place s) (all_at place t)
all_at place (union own s t) = union place (all_at place s) (all_at place t)
all_at place (star own s) = star place (all_at place s)
