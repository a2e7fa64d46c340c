-- What a sweep does to the words of a piece's run, word by word.
use Rattle.std.specs.Prelude.{ℕ, ◌+◌, ◌*◌, ◌/◌, ◌%◌, ◌-◌, ◌^◌, ◌≤◌, ◌<◌, ◌≡◌, ◌⊎◌, ◌↔◌, List, [], ◌∷◌, ◌++◌, length, get_or, take, drop, set}
use Rattle.std.specs.Int.Bits.{bit_or}
use Rattle.language.specs.Automaton.{State, start, PathOf}
use Rattle.language.specs.Nested.{Nested, leaf, catenation, union, star, below, Has, Sweep, OwnEmpty}
use Rattle.tree.specs.Limits.{most_pieces, most_states}
use Rattle.tree.specs.Leaf.{Leaf, byteless}
use Rattle.tables.specs.Words.{Bit, width, run, Own, number, Holds, Clean}
use Rattle.tables.specs.Plan.{row_words, PieceAt, ChildrenAt, Closes}
use Rattle.closing.specs.Passes.Laid.{NarrowBelow}
use Rattle.closing.specs.EachPieceClosed.{EachClosed, EachClosedBelow}

-- the word with bit `to` set where bit `from` of the other is
unfoldable pub passed : (other from word to : ℕ) → ℕ
passed other from word to = bit_or word (other / 2 ^ from % 2 * 2 ^ to)

-- r has the bits of the word, and bit i where the other has not
pub record Missed (other i word r : ℕ) : Type 0 where
  pub all : (j : ℕ) → Bit word j → Bit r j
  pub one : (Bit other i → ⊥) → Bit r i

-- no bit is set in both words
abbrev pub Apart : ℕ → ℕ → Type 0
Apart one other = (i : ℕ) → Bit one i → Bit other i → ⊥

-- the stand-in's start is not marked, and the words from `at` up to `end` are none of those from `from` up to `to`, or
-- a single one that is 0
pub record AtRest (word stand first at end from to : ℕ) : Type 0 where
  pub unmarked : Bit word stand → ⊥
  pub elsewhere : ((first ≡ 0) × (end ≡ at + 1)) ⊎ ((end ≤ from) ⊎ (to ≤ at))

-- the word of x's top piece is closed but for what the state s reaches: what a marked state reaches is marked, or s is
-- marked and reaches it
pub record NearlyClosed (x : Nested Leaf) (s : State) (w : ℕ) : Type 0 where
  pub reached : (p q : State) → Own x p → Own x q → Bit w (number x p) → PathOf (OwnEmpty byteless x) p q
      → Bit w (number x q) ⊎ (Bit w (number x s) × PathOf (OwnEmpty byteless x) s q)

-- the words after the first are 0 outside of `from` up to `to`
abbrev pub Quiet : (from to : ℕ) → List ℕ → Type 0
Quiet from to words = (o : ℕ) → 0 < o → o < length words → (o < from) ⊎ (to ≤ o) → get_or words o 0 ≡ 0

module _ (rows : List ℕ) where
  -- the rows speak of the piece k, which is the top piece of x, and of each piece below it; each has at most 62
  -- states
  pub record InRows (x : Nested Leaf) (k : ℕ) : Type 0 where
    pub piece : PieceAt rows x k
    pub children : ChildrenAt rows x 0 (k + 1)
    pub narrow : width x ≤ most_states
    pub narrow_below : NarrowBelow x

  -- the words are the run of x's pieces, the first of which is piece 0 of the table; no bit past a last state is set,
  -- and each piece is closed in itself but for the first, whose start may have been marked since
  pub record Sweepable (x : Nested Leaf) (words : List ℕ) : Type 0 where
    pub laid : InRows x 0
    pub whole_run : length words ≡ 1 + run x
    pub clean : Clean x words
    pub nearly : NearlyClosed x start (get_or words 0 0)
    pub closed_below : EachClosedBelow x (drop 1 words)

  -- there is room for the rows of the pieces, one for each word
  pub record TableSized (words : List ℕ) : Type 0 where
    pub rows_sized : row_words * length words ≤ length rows
    pub within : length words ≤ most_pieces

  -- there are pieces that the words are the run of, and marks below the first only from `from` up to `to`
  pub record SweepReady (from to : ℕ) (words : List ℕ) : Type 0 where
    pub sized : TableSized words
    pub tree : Nested Leaf
    pub sweepable : Sweepable tree words
    pub quiet : Quiet from to words

-- what a sweep makes of the words of x's pieces: the marks that they hold then are those of the sweep, and each piece
-- is closed in itself
pub record Swept (x : Nested Leaf) (before after : List ℕ) : Type 0 where
  pub marks : (q : State) → Has x q → Holds x after q ↔ Sweep byteless x (Holds x before) q
  pub clean : Clean x after
  pub each_closed : EachClosed x after

-- a child piece: the number of its stand-in's start in the parent, the place of its run in the parent's, and its tree
pub record ChildPiece : Type 0 where
  pub stand : ℕ
  pub from : ℕ
  pub tree : Nested Leaf

-- the child pieces below x from left to right; x's own states are numbered from i, and the runs of the child pieces
-- stand from n on
abbrev pub children_of : Nested Leaf → ℕ → ℕ → List ChildPiece
children_of (leaf a) i n = []
children_of (catenation x y) i n = children_of x (i + 1) n ++ children_of y (i + (1 + width x)) (n + run x)
children_of (union x y) i n = children_of x (i + 1) n ++ children_of y (i + (1 + width x)) (n + run x)
children_of (star x) i n = children_of x (i + 1) n
children_of (below x) i n = record { stand = i; from = n; tree = x } ∷ []

-- the run of the child piece c
abbrev pub child_run : ChildPiece → List ℕ → List ℕ
child_run c words = take (1 + run c.tree) (drop c.from words)

-- the run of the child piece c, with its start marked where its stand-in's is
abbrev pub started : ChildPiece → List ℕ → List ℕ
started c words = child_run c (set words c.from (passed (get_or words 0 0) c.stand (get_or words c.from 0) 0))

-- what the visit of the child piece c makes of the words of x's pieces: its start is passed down, it is swept, its
-- accepting state is passed up, and x's top piece is closed again
pub record Visited (x : Nested Leaf) (c : ChildPiece) (before after : List ℕ) : Type 0 where
  pub swept : Swept c.tree (started c before) (child_run c after)
  pub closed : Closes x (passed (get_or after c.from 0) (width c.tree - 1) (get_or before 0 0) (c.stand + 1))
      (get_or after 0 0)
  pub same_length : length after ≡ length before
  pub others : (o : ℕ) → 0 < o → (o < c.from) ⊎ (c.from + (1 + run c.tree) ≤ o) → get_or after o 0 ≡ get_or before o 0

-- one child piece after the other is visited
abbrev pub Visits : Nested Leaf → List ChildPiece → List ℕ → List ℕ → Type 0
Visits x [] before after = before ≡ after
Visits x (c ∷ cs) before after = (between : List ℕ) × Visited x c before between × Visits x cs between after
