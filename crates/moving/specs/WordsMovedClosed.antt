-- Moving every word along a byte and closing each piece in itself: the marks are moved along the byte, and some of the
-- closing is done.
use Rattle.std.specs.Prelude.{ℕ, ◌+◌, ◌^◌, ◌≤◌, ◌<◌, ◌≡◌, List, length, get_or, set}
use Rattle.std.proofs.Common.{sym, subst, arith}
use Rattle.language.specs.Automaton.{States}
use Rattle.language.specs.Nested.{Nested, Has, Move}
use Rattle.language.specs.Settled.{Settled}
use Rattle.language.specs.Same.{MoreIn}
use Rattle.tree.specs.Limits.{most_states}
use Rattle.tree.specs.Leaf.{Leaf, meaning, byteless}
use Rattle.tables.specs.Words.{width, run, number, Holds, Clean}
use Rattle.tables.specs.Plan.{Moves, Closes}
use Rattle.closing.specs.Passes.Laid.{Lays, LaysEach, NarrowBelow}
use Rattle.closing.specs.BitsOfWords.Bits.{bit_zero}
use Rattle.closing.specs.WordClosed.{closes_none}
use Rattle.closing.specs.BitsOfWords.MadeAnew.{MadeAnew, anew_none}
use Rattle.closing.specs.EachPieceClosed.{EachClosed}
use Rattle.moving.specs.WordsMoved.{WordMoved, moved_more, MarksMoved, MovedAll, moved_all}
use Rattle.moving.specs.WordsClosed.{
  ClosedWords,
  closed_none,
  closed_more,
  closed_keeps,
  closed_within,
  closed_each,
  closed_clean,
}

-- the first n words are moved along b, and each is closed in itself; the others are as before
pub record MovedClosed (rows classes before after : List ℕ) (b n : ℕ) : Type 0 where
  pub moved : List ℕ
  pub moves : MovedAll rows classes before moved b n
  pub closes : ClosedWords rows moved after n

-- so far, word by word
pub record MovingClosing (rows classes before after : List ℕ) (b n : ℕ) : Type 0 where
  pub moved : List ℕ
  pub moves : MadeAnew (WordMoved rows classes before b) before moved 0 n
  pub closes : ClosedWords rows moved after n

-- at first none is
pub moving_none : (rows classes words : List ℕ) (b : ℕ) → MovingClosing rows classes words words b 0
moving_none rows classes words b =
    record {
      moved = words;
      moves = anew_none (WordMoved rows classes words b) words 0;
      closes = closed_none rows words;
    }

-- r is the word of the piece after the byte b: moved, and closed in the piece
pub record WordAfter (rows classes : List ℕ) (piece word b r : ℕ) : Type 0 where
  pub moved : ℕ
  pub moves : (x : Nested Leaf) → width x ≤ most_states → Lays rows x piece → word < 2 ^ width x
      → Moves classes x b word moved
  pub closes : (x : Nested Leaf) → width x ≤ most_states → Lays rows x piece → moved < 2 ^ width x
      → Closes x moved r

-- a word of no marks stays one
pub none_after : (rows classes : List ℕ) (piece word b : ℕ) → word ≡ 0 → WordAfter rows classes piece
    word b 0
none_after rows classes piece word b none = subst (λ (w : ℕ). WordAfter rows classes piece w b 0)
    (sym none) record {
      moved = 0;
      moves = λ x narrow lays small. record {
        exactly = λ q o. (λ m. absurd (bit_zero (number x q) m), λ (p, o', m, way). absurd (bit_zero (number x p) m));
        clean = small;
      };
      closes = λ x narrow lays small. closes_none x;
    }

-- one word more
pub moving_more : {rows classes before after : List ℕ} {b n w : ℕ} → n < length before
    → MovingClosing rows classes before after b n
    → WordAfter rows classes n (get_or after n 0) b w → MovingClosing rows classes before (set after n w)
    b (n + 1)
moving_more {rows} {classes} {after = after} {b = b} {n = n} inside so_far next = record {
  moved = set so_far.moved n next.moved;
  moves = moved_more inside so_far.moves
      (subst (λ (u : ℕ). (x : Nested Leaf) → width x ≤ most_states → Lays rows x n → u < 2 ^ width x
      → Moves classes x b u next.moved)
      (so_far.closes.others n (omega arith)) next.moves);
  closes = closed_more (omega (arith, so_far.moves.same_length)) so_far.closes next.closes;
}

-- at last all are
pub moving_all : {rows classes before after : List ℕ} {b n m : ℕ} → m ≡ n → MovingClosing rows classes
    before after b m
    → MovedClosed rows classes before after b n
moving_all {rows} {after = after} e all = record {
  moved = all.moved;
  moves = moved_all e all.moves;
  closes = subst (λ (k : ℕ). ClosedWords rows all.moved after k) e all.closes;
}

-- a single word
pub moved_single : {rows classes words : List ℕ} {b r : ℕ} → 0 < length words
    → WordAfter rows classes 0 (get_or words 0 0) b r → MovedClosed rows classes words (set words 0 r) b 1
moved_single {rows} {classes} {words} {b} some after =
    moving_all (omega arith) (moving_more some (moving_none rows classes words b) after)

module _ {rows classes before after : List ℕ} {b n : ℕ} (went : MovedClosed rows classes before after b
    n) where
  -- no word is added or taken away
  pub moved_length : length after ≡ length before
  moved_length = omega (arith, went.moves.same_length, went.closes.same_length)

  -- the words past the first n are as before
  pub moved_others : (k : ℕ) → n ≤ k → get_or after k 0 ≡ get_or before k 0
  moved_others k past = omega (arith, went.moves.others k past, went.closes.others k past)

  module _ (x : Nested Leaf) (laid : LaysEach rows x) (room : 1 + run x ≤ n)
      (narrow : width x ≤ most_states) (narrow_below : NarrowBelow x) (clean : Clean x before) where
    alone : MarksMoved classes x b before went.moved
    alone = went.moves.marks x laid room narrow narrow_below clean

    -- each moved mark is there
    pub moved_keeps : MoreIn (Has x) (Move (meaning classes) b x (Holds x before)) (Holds x after)
    moved_keeps q has m = closed_keeps went.closes x laid room narrow narrow_below alone.clean q has
        ((alone.holds q has).1 m)

    -- the marks lie within each settled set that has the moved ones
    pub moved_within : (Z : States) → Settled byteless x Z
        → MoreIn (Has x) (Move (meaning classes) b x (Holds x before)) Z
        → MoreIn (Has x) (Holds x after) Z
    moved_within Z settled within =
        closed_within went.closes x laid room narrow narrow_below alone.clean Z settled
        (λ q has m. within q has ((alone.holds q has).0 m))

    -- each piece is closed
    pub moved_each_closed : EachClosed x after
    moved_each_closed = closed_each went.closes x laid room narrow narrow_below alone.clean

    -- and no bit past a last state is set
    pub moved_clean : Clean x after
    moved_clean = closed_clean went.closes x laid room narrow narrow_below alone.clean
