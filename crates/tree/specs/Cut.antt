-- Cuts of a tree into connected pieces, and the cut that is wanted.
use Rattle.std.specs.Prelude.{ℕ, ◌+◌, ◌≤◌, Bool, true, false, ◌&&◌, ◌||◌, leb, ltb}
use Rattle.tree.specs.Limits.{most_nodes}
use Rattle.language.specs.Tree.{Tree, leaf, catenation, union, star}
use Rattle.language.specs.Nested.{
  Nested,
  below,
  leaf as nested-leaf,
  catenation as nested-catenation,
  union as nested-union,
  star as nested-star,
}

-- a cut: for each edge of the tree, whether it is cut
abbrev pub Cut : {A : Type 0} → Tree A → Type 0
Cut (leaf a) = Unit {0}
Cut (catenation s t) = Bool × Cut s × Bool × Cut t
Cut (union s t) = Bool × Cut s × Bool × Cut t
Cut (star s) = Bool × Cut s

-- what a child adds to its parent's piece: nothing where the edge is cut
abbrev pub kept : Bool → ℕ → ℕ
kept true n = 0
kept false n = n

-- one for a cut edge
abbrev pub one : Bool → ℕ
one true = 1
one false = 0

-- the nodes at and below the root that are in the root's piece
abbrev pub root_piece_nodes : {A : Type 0} (t : Tree A) → Cut t → ℕ
root_piece_nodes (leaf a) c = 1
root_piece_nodes (catenation s t) c = 1 + kept c.0 (root_piece_nodes s c.1) + kept c.2
    (root_piece_nodes t c.3)
root_piece_nodes (union s t) c = 1 + kept c.0 (root_piece_nodes s c.1) + kept c.2 (root_piece_nodes t c.3)
root_piece_nodes (star s) c = 1 + kept c.0 (root_piece_nodes s c.1)

-- how many edges are cut
abbrev pub cuts : {A : Type 0} (t : Tree A) → Cut t → ℕ
cuts (leaf a) c = 0
cuts (catenation s t) c = one c.0 + cuts s c.1 + (one c.2 + cuts t c.3)
cuts (union s t) c = one c.0 + cuts s c.1 + (one c.2 + cuts t c.3)
cuts (star s) c = one c.0 + cuts s c.1

-- how many pieces there are: the root's, and one below each cut edge
abbrev pub pieces : {A : Type 0} (t : Tree A) → Cut t → ℕ
pieces t c = 1 + cuts t c

-- every piece has at most 15 nodes: asked at every node of what its piece has at and below it, which at a piece's top
-- node is the whole piece
abbrev pub Fits : {A : Type 0} (t : Tree A) → Cut t → Type 0
Fits (leaf a) c = Unit {0}
Fits (catenation s t) c = (root_piece_nodes (catenation s t) c ≤ most_nodes) × Fits s c.1 × Fits t c.3
Fits (union s t) c = (root_piece_nodes (union s t) c ≤ most_nodes) × Fits s c.1 × Fits t c.3
Fits (star s) c = (root_piece_nodes (star s) c ≤ most_nodes) × Fits s c.1

-- whether the left child, of open size l, is cut off: the sum passes 15, and it is the larger, or as large, or still
-- passes 15 without the right one
abbrev pub cut_left : ℕ → ℕ → Bool
cut_left l r = ltb most_nodes (1 + l + r) && (leb r l || ltb most_nodes (1 + l))

-- whether the right child, of open size r, is cut off: the sum passes 15, and it is the larger, or still passes 15
-- without the left one
abbrev pub cut_right : ℕ → ℕ → Bool
cut_right l r = ltb most_nodes (1 + l + r) && (ltb l r || ltb most_nodes (1 + r))

-- whether a star's operand, of open size n, is cut off
abbrev pub cut_only : ℕ → Bool
cut_only n = ltb most_nodes (1 + n)

-- the open size: 1 plus the open sizes of the children that are not cut off
abbrev pub open_size : {A : Type 0} → Tree A → ℕ
open_size (leaf a) = 1
open_size (catenation s t) = 1 + kept (cut_left (open_size s) (open_size t)) (open_size s)
    + kept (cut_right (open_size s) (open_size t)) (open_size t)
open_size (union s t) = 1 + kept (cut_left (open_size s) (open_size t)) (open_size s)
    + kept (cut_right (open_size s) (open_size t)) (open_size t)
open_size (star s) = 1 + kept (cut_only (open_size s)) (open_size s)

-- the cut wanted, from the leaves up
abbrev pub wanted : {A : Type 0} (t : Tree A) → Cut t
wanted (leaf a) = tt
wanted (catenation s t) = (
  cut_left (open_size s) (open_size t),
  wanted s,
  cut_right (open_size s) (open_size t),
  wanted t,
)
wanted (union s t) = (cut_left (open_size s) (open_size t), wanted s, cut_right (open_size s) (open_size t), wanted t)
wanted (star s) = (cut_only (open_size s), wanted s)

-- a cut edge has a stand-in, with the child piece below it
abbrev pub edge : {A : Type 0} → Bool → Nested A → Nested A
edge true x = below x
edge false x = x

-- the tree cut into its pieces
abbrev pub nest : {A : Type 0} (t : Tree A) → Cut t → Nested A
nest (leaf a) c = nested-leaf a
nest (catenation s t) c = nested-catenation (edge c.0 (nest s c.1)) (edge c.2 (nest t c.3))
nest (union s t) c = nested-union (edge c.0 (nest s c.1)) (edge c.2 (nest t c.3))
nest (star s) c = nested-star (edge c.0 (nest s c.1))
