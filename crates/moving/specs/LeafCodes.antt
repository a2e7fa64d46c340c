-- The codes of leaves' starts: above the two lowest bits, which are 0, stands the leaf's number; no other state has
-- such a code but 0.
use Rattle.std.specs.Prelude.{ℕ, ◌+◌, ◌*◌, ◌<◌, ◌≡◌, ◌↔◌, get_or}
use Rattle.std.proofs.Common.{sym, ◌∙◌, arith}
use Rattle.language.specs.Automaton.{State, start, accepting, left, right}
use Rattle.language.specs.Nested.{Nested, leaf, catenation, union, star, below}
use Rattle.tree.specs.Leaf.{Leaf, character, class, empty_text}
use Rattle.tables.specs.Words.{width, Own, number}
use Rattle.tables.specs.Plan.{leads_on, jumps_to, leads_and_jumps, codes_of, takes}
use Rattle.closing.specs.Passes.Transitions.{left_code, right_code, end_code, inside_code, last_code}
use Rattle.moving.specs.Codes as numbers

-- a code that is no leaf's
pub record Leafless (code : ℕ) : Type 0 where
  pub none : (n : ℕ) → 0 < n → code ≡ 4 * n → ⊥

-- 0, and codes that lead somewhere, are none
zero_leafless : Leafless 0
zero_leafless = record { none = λ n some e. omega arith }

on_leafless : Leafless leads_on
on_leafless = record { none = λ n some e. omega arith }

jump_leafless : (t : ℕ) → Leafless (jumps_to t)
jump_leafless t = record { none = λ n some e. omega arith }

both_leafless : (t : ℕ) → Leafless (leads_and_jumps t)
both_leafless t = record { none = λ n some e. omega arith }

-- a state's code is that of a leaf's number exactly where the leaf with this number starts there
abbrev SameLeafNumber : (code taken : ℕ) → Type 0
SameLeafNumber code taken = (n : ℕ) → 0 < n → (code ≡ 4 * n) ↔ (taken ≡ n)

-- where both are none
none_same : {code : ℕ} → Leafless code → SameLeafNumber code 0
none_same leafless n some = (λ e. absurd (leafless.none n some e), λ e. absurd (omega arith))

-- told with other forms
same_as : {c d t u : ℕ} → d ≡ c → u ≡ t → SameLeafNumber c t → SameLeafNumber d u
same_as e f h n some = (λ g. f ∙ (h n some).0 (sym e ∙ g), λ g. e ∙ (h n some).1 (sym f ∙ g))

leaf_numbers : (x : Nested Leaf) (i exit : ℕ) → Leafless exit → (p : State) → Own x p
    → SameLeafNumber (get_or (codes_of x i exit) (number x p) 0) (get_or (takes x) (number x p) 0)
leaf_numbers (leaf (character c)) i exit none start o = λ n some. (λ e. omega arith, λ e. omega arith)
leaf_numbers (leaf (character c)) i exit none accepting o = none_same none
leaf_numbers (leaf (class k)) i exit none start o = λ n some. (λ e. omega arith, λ e. omega arith)
leaf_numbers (leaf (class k)) i exit none accepting o = none_same none
leaf_numbers (leaf empty_text) i exit none start o = none_same on_leafless
leaf_numbers (leaf empty_text) i exit none accepting o = none_same none
leaf_numbers (catenation x y) i exit none start o = none_same on_leafless
leaf_numbers (catenation x y) i exit none accepting o =
    same_as (end_code _ exit x y _ _ _ _) (numbers.end_code x y) (none_same none)
leaf_numbers (catenation x y) i exit none (left p) o =
    same_as (left_code _ exit x y _ _ _ _ p o) (numbers.left_code x y p o) (leaf_numbers x (i + 1) _ on_leafless p o)
leaf_numbers (catenation x y) i exit none (right p) o =
    same_as (right_code _ exit x y _ _ _ _ p o) (numbers.right_code x y p o)
    (leaf_numbers y (i + (1 + width x)) _ on_leafless p o)
leaf_numbers (union x y) i exit none start o = none_same (both_leafless (i + (1 + width x)))
leaf_numbers (union x y) i exit none accepting o =
    same_as (end_code _ exit x y _ _ _ _) (numbers.end_code x y) (none_same none)
leaf_numbers (union x y) i exit none (left p) o =
    same_as (left_code _ exit x y _ _ _ _ p o) (numbers.left_code x y p o)
    (leaf_numbers x (i + 1) _ (jump_leafless (i + (1 + width x + width y))) p o)
leaf_numbers (union x y) i exit none (right p) o =
    same_as (right_code _ exit x y _ _ _ _ p o) (numbers.right_code x y p o)
    (leaf_numbers y (i + (1 + width x)) _ on_leafless p o)
leaf_numbers (star x) i exit none start o = none_same (both_leafless (i + (1 + width x)))
leaf_numbers (star x) i exit none accepting o =
    same_as (last_code _ exit x _ _) (numbers.last_code x) (none_same none)
leaf_numbers (star x) i exit none (left p) o =
    same_as (inside_code _ exit x _ _ p o) (numbers.inside_code x p o)
    (leaf_numbers x (i + 1) _ (both_leafless (i + 1)) p o)
leaf_numbers (below x) i exit none start o = none_same zero_leafless
leaf_numbers (below x) i exit none accepting o = none_same none
leaf_numbers (leaf (character c)) i exit none (left p) o = elim o [ ]
leaf_numbers (leaf (character c)) i exit none (right p) o = elim o [ ]
leaf_numbers (leaf (class k)) i exit none (left p) o = elim o [ ]
leaf_numbers (leaf (class k)) i exit none (right p) o = elim o [ ]
leaf_numbers (leaf empty_text) i exit none (left p) o = elim o [ ]
leaf_numbers (leaf empty_text) i exit none (right p) o = elim o [ ]
leaf_numbers (star x) i exit none (right p) o = elim o [ ]
leaf_numbers (below x) i exit none (left p) o = elim o [ ]
leaf_numbers (below x) i exit none (right p) o = elim o [ ]

-- in the whole piece
pub leaf_by_number : (x : Nested Leaf) (p : State) → Own x p → (n : ℕ) → 0 < n
    → (get_or (codes_of x 0 0) (number x p) 0 ≡ 4 * n) ↔ (get_or (takes x) (number x p) 0 ≡ n)
leaf_by_number x p o = leaf_numbers x 0 0 zero_leafless p o
