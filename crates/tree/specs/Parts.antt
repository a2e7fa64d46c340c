-- The pieces of a tree that is cut: how many there are, how large each is, and what holds of every one.
use Rattle.std.specs.Prelude.{ℕ, ◌+◌, ◌≤◌, List, [], ◌∷◌, ◌++◌}
use Rattle.language.specs.Tree.{nodes}
use Rattle.language.specs.Nested.{
  Nested,
  below,
  own,
  leaf as nested-leaf,
  catenation as nested-catenation,
  union as nested-union,
  star as nested-star,
}
use Rattle.tree.specs.Limits.{most_nodes, most_own_nodes}

-- how many pieces there are below the top piece
abbrev pub pieces_below : {A : Type 0} → Nested A → ℕ
pieces_below (nested-leaf a) = 0
pieces_below (nested-catenation x y) = pieces_below x + pieces_below y
pieces_below (nested-union x y) = pieces_below x + pieces_below y
pieces_below (nested-star x) = pieces_below x
pieces_below (below x) = 1 + pieces_below x

-- how many nodes of the tree the top piece has
abbrev pub top_nodes : {A : Type 0} → Nested A → ℕ
top_nodes (nested-leaf a) = 1
top_nodes (nested-catenation x y) = 1 + top_nodes x + top_nodes y
top_nodes (nested-union x y) = 1 + top_nodes x + top_nodes y
top_nodes (nested-star x) = 1 + top_nodes x
top_nodes (below x) = 0

-- how many child pieces the top piece has: its stand-ins
abbrev pub child_pieces : {A : Type 0} → Nested A → ℕ
child_pieces (nested-leaf a) = 0
child_pieces (nested-catenation x y) = child_pieces x + child_pieces y
child_pieces (nested-union x y) = child_pieces x + child_pieces y
child_pieces (nested-star x) = child_pieces x
child_pieces (below x) = 1

-- P holds of every piece below the top piece, where a piece is told with those below it
abbrev pub EveryBelow : {A : Type 0} → (Nested A → Type 0) → Nested A → Type 0
EveryBelow P (nested-leaf a) = Unit {0}
EveryBelow P (nested-catenation x y) = EveryBelow P x × EveryBelow P y
EveryBelow P (nested-union x y) = EveryBelow P x × EveryBelow P y
EveryBelow P (nested-star x) = EveryBelow P x
EveryBelow P (below x) = P x × EveryBelow P x

-- P holds of every piece
abbrev pub EveryPiece : {A : Type 0} → (Nested A → Type 0) → Nested A → Type 0
EveryPiece P x = P x × EveryBelow P x

-- how many pieces there are below each node, in the order of the records
abbrev pub below_each : {A : Type 0} → Nested A → List ℕ
below_each (nested-leaf a) = 0 ∷ []
below_each (nested-catenation x y) = below_each x ++ below_each y ++ ((pieces_below x + pieces_below y) ∷ [])
below_each (nested-union x y) = below_each x ++ below_each y ++ ((pieces_below x + pieces_below y) ∷ [])
below_each (nested-star x) = below_each x ++ (pieces_below x ∷ [])
below_each (below x) = below_each x

-- a piece is small: 1 to 15 nodes and at most 16 child pieces, so its own tree has at most 31 nodes and 62 states
pub record Small {A : Type 0} (x : Nested A) : Type 0 where
  pub some_node : 1 ≤ top_nodes x
  pub few_nodes : top_nodes x ≤ most_nodes
  pub few_child_pieces : child_pieces x ≤ 16
  pub few_own_nodes : nodes (own x) ≤ most_own_nodes
