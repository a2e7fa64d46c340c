-- Leaves that take two bytes alike: each takes both of them or neither.
use Rattle.std.specs.Prelude.{ℕ, ◌+◌, ◌*◌, ◌/◌, ◌%◌, ◌^◌, ◌<◌, cond, ◌↔◌, List, [], ◌∷◌, eqb}
use Rattle.language.specs.Tree.{Tree}
use Rattle.language.specs.Nested.{Nested, leaf, catenation, union, star, below}
use Rattle.tree.specs.Leaf.{Leaf}
use Rattle.tree.specs.Limits.{most_states}
use Rattle.tables.specs.Words.{Bit}
use Rattle.tables.specs.Plan.{IsLeaf, start_code, leaves_mask, classes_mask, byte_of, class_of}
use Rattle.moving.specs.Codes.{CodeTakes}

-- the leaf of the number n takes b exactly where it takes c
pub record Alike (classes : List ℕ) (n b c : ℕ) : Type 0 where
  pub taken : CodeTakes classes n b ↔ CodeTakes classes n c

module _ (classes : List ℕ) (b c : ℕ) where
  -- so does each leaf of the tree
  abbrev pub LeavesAlike : Tree Leaf → Type 0
  LeavesAlike (Tree.leaf a) = Alike classes (start_code a) b c
  LeavesAlike (Tree.catenation s t) = LeavesAlike s × LeavesAlike t
  LeavesAlike (Tree.union s t) = LeavesAlike s × LeavesAlike t
  LeavesAlike (Tree.star s) = LeavesAlike s

  -- so does each leaf of the top piece
  abbrev pub OwnAlike : Nested Leaf → Type 0
  OwnAlike (leaf a) = Alike classes (start_code a) b c
  OwnAlike (catenation x y) = OwnAlike x × OwnAlike y
  OwnAlike (union x y) = OwnAlike x × OwnAlike y
  OwnAlike (star x) = OwnAlike x
  OwnAlike (below x) = Unit {0}

  -- so does each leaf of the child pieces below
  abbrev pub BelowAlike : Nested Leaf → Type 0
  BelowAlike (leaf a) = Unit {0}
  BelowAlike (catenation x y) = BelowAlike x × BelowAlike y
  BelowAlike (union x y) = BelowAlike x × BelowAlike y
  BelowAlike (star x) = BelowAlike x
  BelowAlike (below x) = OwnAlike x × BelowAlike x

  -- so does each leaf among these codes
  abbrev pub CodesAlike : List ℕ → Type 0
  CodesAlike [] = Unit {0}
  CodesAlike (code ∷ codes) = (IsLeaf code → Alike classes (code / 4) b c) × CodesAlike codes

-- the number of the leaf that starts at the state i of the piece k, by the row: a class's is odd, a character's even
abbrev pub start_code_at : List ℕ → (k i : ℕ) → ℕ
start_code_at rows k i =
    cond (eqb (classes_mask rows k / 2 ^ i % 2) 1) (2 * class_of rows k i + 1) (2 * (byte_of rows k i + 1))

-- each leaf of the piece k takes b exactly where it takes c: the third mask of its row says where they start
pub record PieceAlike (rows classes : List ℕ) (k b c : ℕ) : Type 0 where
  pub each : (i : ℕ) → i < most_states → Bit (leaves_mask rows k) i → Alike classes (start_code_at rows k i) b c

-- the states of all pieces are entries, so many for each piece: a leaf starts at the entry p
abbrev pub LeafEntry : List ℕ → ℕ → Type 0
LeafEntry rows p = Bit (leaves_mask rows (p / most_states)) (p % most_states)

-- and its number
abbrev pub entry_number : List ℕ → ℕ → ℕ
entry_number rows p = start_code_at rows (p / most_states) (p % most_states)

-- so does each leaf that starts before the entry p
pub record AlikeBefore (rows classes : List ℕ) (p b c : ℕ) : Type 0 where
  pub each : (q : ℕ) → q < p → LeafEntry rows q → Alike classes (entry_number rows q) b c
