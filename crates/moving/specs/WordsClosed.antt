-- Closing the word of each piece in itself: no mark is lost, none is made that the closing would not make, and each
-- piece is closed.
use Rattle.std.specs.Prelude.{ℕ, ◌+◌, ◌^◌, ◌≤◌, ◌<◌, ◌≡◌, refl, ◌↔◌, List, length, get_or, drop, set}
use Rattle.std.proofs.Common.{sym, ◌∙◌, subst, subst₂, zero-add, arith, length-set, drop-drop, get_or-set_same, get_or-set_other}
use Rattle.std.proofs.Math.Decide.{ℕ_discrete}
use Rattle.language.specs.Automaton.{State, start, accepting, left, right, States, here}
use Rattle.language.specs.Nested.{Nested, leaf, catenation, union, star, below, Has}
use Rattle.language.specs.Simulation.{along}
use Rattle.language.specs.Settled.{Settled, settled_own}
use Rattle.language.specs.Same.{MoreIn}
use Rattle.tree.specs.Limits.{most_states}
use Rattle.tree.specs.Leaf.{Leaf, byteless}
use Rattle.tables.specs.Words.{Bit, width, run, Own, number, Marked, Holds, CleanBelow, Clean}
use Rattle.tables.specs.Plan.{Closes}
use Rattle.closing.specs.Passes.Laid.{Lays, LaysBelow, LaysEach, NarrowBelow}
use Rattle.closing.specs.BitsOfWords.Bits.{bit_below}
use Rattle.closing.specs.BitsOfWords.Numbers.{number_onto}
use Rattle.closing.specs.EachPieceClosed.{EachClosedBelow, EachClosed}
use Rattle.closing.specs.WordClosed.{closes_again}
use Rattle.closing.specs.BitsOfWords.Spots.{Spot, own_spot, Lit, marked_lit, bit_at}
use Rattle.closing.specs.Within.{own_has}
use Rattle.moving.specs.WordsMoved.{first_left}

-- each of the first n words is closed in itself, by the row of its piece; the others are as before
pub record ClosedWords (rows before after : List ℕ) (n : ℕ) : Type 0 where
  pub same_length : length after ≡ length before
  pub words : (k : ℕ) → k < n → (x : Nested Leaf) → width x ≤ most_states → Lays rows x k
      → get_or before k 0 < 2 ^ width x
      → Closes x (get_or before k 0) (get_or after k 0)
  pub others : (k : ℕ) → n ≤ k → get_or after k 0 ≡ get_or before k 0

-- at first none is
pub closed_none : (rows words : List ℕ) → ClosedWords rows words words 0
closed_none rows words = record { same_length = refl; words = λ k h. absurd (omega arith); others = λ k h. refl }

-- one more, whose word is v before its closing
pub closed_more : {rows before after : List ℕ} {n v w : ℕ} → n < length before
    → ClosedWords rows before after n
    → ((x : Nested Leaf) → width x ≤ most_states → Lays rows x n → v < 2 ^ width x → Closes x v w)
    → ClosedWords rows (set before n v) (set after n w) (n + 1)
closed_more {rows} {before} {after} {n} {v} {w} inside so_far closes = record {
  same_length = simp length-set so_far.same_length;
  words = λ k h. elim (ℕ_discrete k n) [
    | yes e ↦ subst (λ (i : ℕ). At i (get_or (set before n v) i 0) (get_or (set after n w) i 0)) (sym e)
        (subst₂ (At n) (sym (get_or-set_same before n v 0 inside))
        (sym (get_or-set_same after n w 0 (omega (arith, so_far.same_length)))) closes)
    | no other ↦ subst₂ (At k) (sym (get_or-set_other before n k v 0 (omega arith)))
        (sym (get_or-set_other after n k w 0 (omega arith))) (so_far.words k (omega arith))
  ];
  others = λ k h. get_or-set_other after n k w 0 (omega arith) ∙ so_far.others k (omega arith)
      ∙ sym (get_or-set_other before n k v 0 (omega arith));
}
  where
    At : ℕ → ℕ → ℕ → Type 0
    At k a c = (x : Nested Leaf) → width x ≤ most_states → Lays rows x k → a < 2 ^ width x → Closes x a c

-- the word w of a piece x has no bit past the last state, and r is w closed
record PieceClosed (x : Nested Leaf) (w r : ℕ) : Type 0 where
  small : w < 2 ^ width x
  closes : Closes x w r

-- no bit is lost
piece_keeps : {x : Nested Leaf} {w r : ℕ} → PieceClosed x w r → (j : ℕ) → Bit w j → Bit r j
piece_keeps {x} {w} {r} closed j b =
    let (p, o, e) = number_onto x j (bit_below closed.small b) in
    (bit_at r e).0 ((closed.closes.exactly p o).1 (p, o, (bit_at w e).1 b, here))

-- the words of the child pieces below x are closed in themselves
abbrev BelowClosed : Nested Leaf → List ℕ → List ℕ → Type 0
BelowClosed (leaf a) ws ws' = Unit {0}
BelowClosed (catenation x y) ws ws' = BelowClosed x ws ws' × BelowClosed y (drop (run x) ws) (drop (run x) ws')
BelowClosed (union x y) ws ws' = BelowClosed x ws ws' × BelowClosed y (drop (run x) ws) (drop (run x) ws')
BelowClosed (star x) ws ws' = BelowClosed x ws ws'
BelowClosed (below x) ws ws' = PieceClosed x (get_or ws 0 0) (get_or ws' 0 0) × BelowClosed x (drop 1 ws) (drop 1 ws')

-- no mark is lost, where no bit of the own word is
marked_keeps : (x : Nested Leaf) (i w w' : ℕ) (ws ws' : List ℕ) → ((j : ℕ) → Bit w j → Bit w' j) → BelowClosed x ws ws'
    → (q : State) → Has x q
    → Marked x w i ws q → Marked x w' i ws' q
marked_keeps (leaf a) i w w' ws ws' bits u start h m = bits i m
marked_keeps (leaf a) i w w' ws ws' bits u accepting h m = bits (i + 1) m
marked_keeps (catenation x y) i w w' ws ws' bits u start h m = bits i m
marked_keeps (catenation x y) i w w' ws ws' bits u accepting h m = bits (i + (1 + width x + width y)) m
marked_keeps (catenation x y) i w w' ws ws' bits u (left q) h m = marked_keeps x (i + 1) w w' ws ws' bits u.0 q h m
marked_keeps (catenation x y) i w w' ws ws' bits u (right q) h m =
    marked_keeps y (i + (1 + width x)) w w' (drop (run x) ws) (drop (run x) ws') bits u.1 q h m
marked_keeps (union x y) i w w' ws ws' bits u start h m = bits i m
marked_keeps (union x y) i w w' ws ws' bits u accepting h m = bits (i + (1 + width x + width y)) m
marked_keeps (union x y) i w w' ws ws' bits u (left q) h m = marked_keeps x (i + 1) w w' ws ws' bits u.0 q h m
marked_keeps (union x y) i w w' ws ws' bits u (right q) h m =
    marked_keeps y (i + (1 + width x)) w w' (drop (run x) ws) (drop (run x) ws') bits u.1 q h m
marked_keeps (star x) i w w' ws ws' bits u start h m = bits i m
marked_keeps (star x) i w w' ws ws' bits u accepting h m = bits (i + (1 + width x)) m
marked_keeps (star x) i w w' ws ws' bits u (left q) h m = marked_keeps x (i + 1) w w' ws ws' bits u q h m
marked_keeps (below x) i w w' ws ws' bits u start h m = bits i m
marked_keeps (below x) i w w' ws ws' bits u accepting h m = bits (i + 1) m
marked_keeps (below x) i w w' ws ws' bits u (left q) h m =
    marked_keeps x 0 (get_or ws 0 0) (get_or ws' 0 0) (drop 1 ws) (drop 1 ws') (piece_keeps u.0) u.1 q h m
marked_keeps (leaf a) i w w' ws ws' bits u (left q) h m = elim h [ ]
marked_keeps (leaf a) i w w' ws ws' bits u (right q) h m = elim h [ ]
marked_keeps (star x) i w w' ws ws' bits u (right q) h m = elim h [ ]
marked_keeps (below x) i w w' ws ws' bits u (right q) h m = elim h [ ]

-- a state of the own word is marked exactly when the bit of its number is set
own_marked : (x : Nested Leaf) (w i : ℕ) (ws : List ℕ) (q : State) → Own x q
    → Marked x w i ws q ↔ Bit w (i + number x q)
own_marked x w i ws q o = subst (λ (s : Spot). Marked x w i ws q ↔ Lit s w i ws) (own_spot x q o)
    (marked_lit x w i ws q (own_has x q o))

-- in each settled set that has the marks of a piece, its states that are marked after the closing lie
own_within : (x : Nested Leaf) (w w' : ℕ) (ws : List ℕ) (Z : States) → Settled byteless x Z → PieceClosed x w w'
    → MoreIn (Has x) (Marked x w 0 ws) Z
    → (q : State) → Own x q → Bit w' (0 + number x q) → Z q
own_within x w w' ws Z settled closed marked q o b =
    let (p, o', c, way) = (closed.closes.exactly q o).0 ((bit_at w' (zero-add (number x q))).0 b) in
    along (settled_own byteless x Z settled) p q way
    (marked p (own_has x p o') ((own_marked x w 0 ws p o').1 ((bit_at w (zero-add (number x p))).1 c)))

-- so do those of every piece
marked_within : (x : Nested Leaf) (i w w' : ℕ) (ws ws' : List ℕ) (Z : States) → Settled byteless x Z
    → ((q : State) → Own x q → Bit w' (i + number x q) → Z q)
    → MoreIn (Has x) (Marked x w i ws) Z → BelowClosed x ws ws' → MoreIn (Has x) (Marked x w' i ws') Z
marked_within x i w w' ws ws' Z settled own marked u start h m = own start tt ((own_marked x w' i ws' start tt).0 m)
marked_within x i w w' ws ws' Z settled own marked u accepting h m =
    own accepting tt ((own_marked x w' i ws' accepting tt).0 m)
marked_within (catenation x y) i w w' ws ws' Z settled own marked u (left q) h m =
    marked_within x (i + 1) w w' ws ws' (λ p. Z (left p)) settled.1
    (λ p o b. own (left p) o ((bit_at w' (omega arith)).0 b))
    (λ p. marked (left p)) u.0 q h m
marked_within (catenation x y) i w w' ws ws' Z settled own marked u (right q) h m =
    marked_within y (i + (1 + width x)) w w' (drop (run x) ws) (drop (run x) ws') (λ p. Z (right p)) settled.2
    (λ p o b. own (right p) o ((bit_at w' (omega arith)).0 b)) (λ p. marked (right p)) u.1 q h m
marked_within (union x y) i w w' ws ws' Z settled own marked u (left q) h m =
    marked_within x (i + 1) w w' ws ws' (λ p. Z (left p)) settled.1
    (λ p o b. own (left p) o ((bit_at w' (omega arith)).0 b))
    (λ p. marked (left p)) u.0 q h m
marked_within (union x y) i w w' ws ws' Z settled own marked u (right q) h m =
    marked_within y (i + (1 + width x)) w w' (drop (run x) ws) (drop (run x) ws') (λ p. Z (right p)) settled.2
    (λ p o b. own (right p) o ((bit_at w' (omega arith)).0 b)) (λ p. marked (right p)) u.1 q h m
marked_within (star x) i w w' ws ws' Z settled own marked u (left q) h m =
    marked_within x (i + 1) w w' ws ws' (λ p. Z (left p)) settled.1
    (λ p o b. own (left p) o ((bit_at w' (omega arith)).0 b))
    (λ p. marked (left p)) u q h m
marked_within (below x) i w w' ws ws' Z settled own marked u (left q) h m =
    marked_within x 0 (get_or ws 0 0) (get_or ws' 0 0) (drop 1 ws) (drop 1 ws') (λ p. Z (left p)) settled.1
    (own_within x (get_or ws 0 0) (get_or ws' 0 0) (drop 1 ws) (λ p. Z (left p)) settled.1 u.0 (λ p. marked (left p)))
    (λ p. marked (left p)) u.1 q h m
marked_within (leaf _) i w w' ws ws' Z settled own marked u (left q) h m = elim h [ ]
marked_within (leaf _) i w w' ws ws' Z settled own marked u (right q) h m = elim h [ ]
marked_within (star x) i w w' ws ws' Z settled own marked u (right q) h m = elim h [ ]
marked_within (below x) i w w' ws ws' Z settled own marked u (right q) h m = elim h [ ]

-- each child piece is closed
each_closed_below : (x : Nested Leaf) (ws ws' : List ℕ) → BelowClosed x ws ws' → EachClosedBelow x ws'
each_closed_below (leaf a) ws ws' u = tt
each_closed_below (catenation x y) ws ws' u =
    (each_closed_below x ws ws' u.0, each_closed_below y (drop (run x) ws) (drop (run x) ws') u.1)
each_closed_below (union x y) ws ws' u =
    (each_closed_below x ws ws' u.0, each_closed_below y (drop (run x) ws) (drop (run x) ws') u.1)
each_closed_below (star x) ws ws' u = each_closed_below x ws ws' u
each_closed_below (below x) ws ws' u =
    (closes_again u.0.closes, each_closed_below x (drop 1 ws) (drop 1 ws') u.1)

-- and has no bit past its last state
clean_closed : (x : Nested Leaf) (ws : List ℕ) → EachClosedBelow x ws → CleanBelow x ws
clean_closed (leaf a) ws u = tt
clean_closed (catenation x y) ws u = (clean_closed x ws u.0, clean_closed y (drop (run x) ws) u.1)
clean_closed (union x y) ws u = (clean_closed x ws u.0, clean_closed y (drop (run x) ws) u.1)
clean_closed (star x) ws u = clean_closed x ws u
clean_closed (below x) ws u = (u.0.clean, clean_closed x (drop 1 ws) u.1)

-- words in which each piece is closed have no bit past a last state
pub each_closed_clean : (x : Nested Leaf) (words : List ℕ) → EachClosed x words → Clean x words
each_closed_clean x words closed = (closed.0.clean, clean_closed x (drop 1 words) closed.1)

module _ {rows before after : List ℕ} {n : ℕ} (closed : ClosedWords rows before after n) where
  -- the word of piece k is closed
  piece_closed : (x : Nested Leaf) (k : ℕ) → k < n → Lays rows x k → width x ≤ most_states
      → get_or (drop k before) 0 0 < 2 ^ width x
      → PieceClosed x (get_or (drop k before) 0 0) (get_or (drop k after) 0 0)
  piece_closed x k h reaches narrow small = record {
    small = small;
    closes = subst₂ (λ (v w : ℕ). Closes x v w) (sym (first_left before k)) (sym (first_left after k))
        (closed.words k h x narrow reaches (subst (λ (v : ℕ). v < 2 ^ width x) (first_left before k) small));
  }

  -- those of the child pieces below x are
  below_closed : (x : Nested Leaf) (new : ℕ) → LaysBelow rows x new → new + run x ≤ n → NarrowBelow x
      → CleanBelow x (drop new before)
      → BelowClosed x (drop new before) (drop new after)
  below_closed (leaf a) new reached h narrow clean = tt
  below_closed (catenation x y) new reached h narrow clean = (
    below_closed x new reached.0 (omega arith) narrow.0 clean.0,
    subst₂ (λ (u v : List ℕ). BelowClosed y u v) (sym (drop-drop (run x) new before))
        (sym (drop-drop (run x) new after))
        (below_closed y (new + run x) reached.1 (omega arith) narrow.1
        (subst (CleanBelow y) (drop-drop (run x) new before) clean.1)),
  )
  below_closed (union x y) new reached h narrow clean = (
    below_closed x new reached.0 (omega arith) narrow.0 clean.0,
    subst₂ (λ (u v : List ℕ). BelowClosed y u v) (sym (drop-drop (run x) new before))
        (sym (drop-drop (run x) new after))
        (below_closed y (new + run x) reached.1 (omega arith) narrow.1
        (subst (CleanBelow y) (drop-drop (run x) new before) clean.1)),
  )
  below_closed (star x) new reached h narrow clean = below_closed x new reached h narrow clean
  below_closed (below x) new reached h narrow clean = (
    piece_closed x new (omega arith) reached.0 narrow.0 clean.0,
    subst₂ (λ (u v : List ℕ). BelowClosed x u v) (sym (drop-drop 1 new before)) (sym (drop-drop 1 new after))
        (below_closed x (new + 1) reached.1 (omega arith) narrow.1
        (subst (CleanBelow x) (drop-drop 1 new before) clean.1)),
  )

  module _ (x : Nested Leaf) (reached : LaysEach rows x) (room : 1 + run x ≤ n) (narrow : width x ≤ most_states)
      (narrow_below : NarrowBelow x) (clean : Clean x before) where
    top : PieceClosed x (get_or before 0 0) (get_or after 0 0)
    top = record { small = clean.0; closes = closed.words 0 (omega arith) x narrow reached.0 clean.0 }

    children : BelowClosed x (drop 1 before) (drop 1 after)
    children = below_closed x 1 reached.1 room narrow_below clean.1

    -- no mark is lost
    pub closed_keeps : MoreIn (Has x) (Holds x before) (Holds x after)
    closed_keeps = marked_keeps x 0 (get_or before 0 0) (get_or after 0 0) (drop 1 before) (drop 1 after) (piece_keeps top)
        children

    -- the marks stay within each settled set that had them
    pub closed_within : (Z : States) → Settled byteless x Z → MoreIn (Has x) (Holds x before) Z
        → MoreIn (Has x) (Holds x after) Z
    closed_within Z settled within =
        marked_within x 0 (get_or before 0 0) (get_or after 0 0) (drop 1 before) (drop 1 after) Z settled
        (own_within x (get_or before 0 0) (get_or after 0 0) (drop 1 before) Z settled top within) within children

    -- each piece is closed
    pub closed_each : EachClosed x after
    closed_each = (closes_again top.closes, each_closed_below x (drop 1 before) (drop 1 after) children)

    -- and no bit past a last state is set
    pub closed_clean : Clean x after
    closed_clean = each_closed_clean x after closed_each
