-- Words in which each piece is closed in itself: what empty transitions of its own tree reach from a marked state is
-- marked.
-- Between a piece and its child pieces nothing is said: a start may still have to be passed down, an accepting state
-- up.
use Rattle.std.specs.Prelude.{ℕ, ◌+◌, ◌<◌, ◌≡◌, List, get_or, drop}
use Rattle.std.proofs.Common.{arith, sym, ◌∙◌, subst, get_or-drop}
use Rattle.language.specs.Nested.{Nested, leaf, catenation, union, star, below}
use Rattle.tree.specs.Leaf.{Leaf}
use Rattle.tables.specs.Words.{run}
use Rattle.tables.specs.Plan.{Closes}
use Rattle.closing.specs.WordClosed.{closes_none}

-- in the words of the child pieces below x each is closed
abbrev pub EachClosedBelow : Nested Leaf → List ℕ → Type 0
EachClosedBelow (leaf a) ws = Unit {0}
EachClosedBelow (catenation x y) ws = EachClosedBelow x ws × EachClosedBelow y (drop (run x) ws)
EachClosedBelow (union x y) ws = EachClosedBelow x ws × EachClosedBelow y (drop (run x) ws)
EachClosedBelow (star x) ws = EachClosedBelow x ws
EachClosedBelow (below x) ws = Closes x (get_or ws 0 0) (get_or ws 0 0) × EachClosedBelow x (drop 1 ws)

-- in the words of x's pieces each is closed
abbrev pub EachClosed : Nested Leaf → List ℕ → Type 0
EachClosed x words = Closes x (get_or words 0 0) (get_or words 0 0) × EachClosedBelow x (drop 1 words)

-- the words below by one number more
under : (m n o : ℕ) (ws ws' : List ℕ) → ((o : ℕ) → o < m + n → get_or ws o 0 ≡ get_or ws' o 0) → o < n
    → get_or (drop m ws) o 0 ≡ get_or (drop m ws') o 0
under m n o ws ws' same l = get_or-drop m ws o 0 ∙ same (m + o) (omega arith) ∙ sym (get_or-drop m ws' o 0)

-- only as many words are looked at as there are pieces
pub closed_below_same : (x : Nested Leaf) (ws ws' : List ℕ) → ((o : ℕ) → o < run x → get_or ws o 0 ≡ get_or ws' o 0)
    → EachClosedBelow x ws → EachClosedBelow x ws'
closed_below_same (leaf a) ws ws' same c = tt
closed_below_same (catenation x y) ws ws' same c = (
  closed_below_same x ws ws' (λ o l. same o (omega arith)) c.0,
  closed_below_same y (drop (run x) ws) (drop (run x) ws') (λ o l. under (run x) (run y) o ws ws' same l) c.1,
)
closed_below_same (union x y) ws ws' same c = (
  closed_below_same x ws ws' (λ o l. same o (omega arith)) c.0,
  closed_below_same y (drop (run x) ws) (drop (run x) ws') (λ o l. under (run x) (run y) o ws ws' same l) c.1,
)
closed_below_same (star x) ws ws' same c = closed_below_same x ws ws' same c
closed_below_same (below x) ws ws' same c = (
  subst (λ (w : ℕ). Closes x w w) (same 0 (omega arith)) c.0,
  closed_below_same x (drop 1 ws) (drop 1 ws') (λ o l. under 1 (run x) o ws ws' same l) c.1,
)

pub closed_same : (x : Nested Leaf) (words words' : List ℕ)
    → ((o : ℕ) → o < 1 + run x → get_or words o 0 ≡ get_or words' o 0) → EachClosed x words → EachClosed x words'
closed_same x words words' same c = closed_below_same (below x) words words' same c

-- words of 0 are closed
pub zeros_closed : (x : Nested Leaf) (ws : List ℕ) → ((o : ℕ) → o < run x → get_or ws o 0 ≡ 0) → EachClosedBelow x ws
zeros_closed (leaf a) ws none = tt
zeros_closed (catenation x y) ws none = (
  zeros_closed x ws (λ o l. none o (omega arith)),
  zeros_closed y (drop (run x) ws) (λ o l. get_or-drop (run x) ws o 0 ∙ none (run x + o) (omega arith)),
)
zeros_closed (union x y) ws none = (
  zeros_closed x ws (λ o l. none o (omega arith)),
  zeros_closed y (drop (run x) ws) (λ o l. get_or-drop (run x) ws o 0 ∙ none (run x + o) (omega arith)),
)
zeros_closed (star x) ws none = zeros_closed x ws none
zeros_closed (below x) ws none = (
  subst (λ (w : ℕ). Closes x w w) (sym (none 0 (omega arith))) (closes_none x),
  zeros_closed x (drop 1 ws) (λ o l. get_or-drop 1 ws o 0 ∙ none (1 + o) (omega arith)),
)
