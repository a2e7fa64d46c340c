-- How long the words of a refusal can be.
use Rattle.std.specs.Prelude.{ℕ, zero, suc, ◌≤◌, ◌<◌, ◌^◌, ◌≡◌, List, [], ◌∷◌, length, get_or, T, leb, Bool, true, ◌&&◌}
use Rattle.std.proofs.Common.{arith, length-append, leb→le}
use Rattle.std.proofs.Math.Decide.{dec_lt}
use Rattle.std.proofs.Math.ListN.{get_or-eq_default}
use Rattle.printing.specs.DigitLaws.{digits_length}
use Rattle.wording.specs.RefusalWords.{no_words, all_refusal_words, words, most_words, told_line, most_told}

-- whether each row has at most so many bytes
abbrev all_short : ℕ → List (List ℕ) → Bool
all_short most [] = true
all_short most (row ∷ rows) = leb (length row) most && all_short most rows

-- both of two tests
both : (a b : Bool) → T (a && b) → T a × T b
both true b h = (tt, h)
both mathlib.Core.Bool.false b h = elim h [ ]

-- then so has the row of each number
short_row : (most : ℕ) (rows : List (List ℕ)) (other : List ℕ) → length other ≤ most → T (all_short most rows)
    → (n : ℕ) → length (get_or rows n other) ≤ most
short_row most [] other h e n = h
short_row most (row ∷ rows) other h e zero = leb→le (length row) most (both (leb (length row) most) _ e).0
short_row most (row ∷ rows) other h e (suc n) = short_row most rows other h (both (leb (length row) most) _ e).1 n

-- the words of a number have at most 52 bytes
pub words_length : (number : ℕ) → length (words number) ≤ most_words
unfolding words all_refusal_words
words_length number = short_row most_words all_refusal_words no_words (omega arith) tt number

-- the number is none of those below k
abbrev pub NoneBelow : (k number : ℕ) → Type 0
NoneBelow zero number = Unit {0}
NoneBelow (suc k) number = NoneBelow k number × (number ≡ k → ⊥)

-- then it is k or more
pub not_below : (k number : ℕ) → NoneBelow k number → k ≤ number
not_below zero number h = omega arith
not_below (suc k) number h =
    let more = not_below k number h.0 in
    elim (dec_lt k number) [ yes l ↦ l | no l ↦ absurd (h.1 (omega (arith, more))) ]

-- a number that no refusal has
pub words_past : (number : ℕ) → 17 < number → words number ≡ no_words
unfolding words all_refusal_words
words_past number h = get_or-eq_default all_refusal_words no_words {n = number} h

-- the line of a refusal has at most 90 bytes
pub told_length : (number place : ℕ) → number < 1000 → place < 10 ^ 20 → length (told_line number place) ≤ most_told
unfolding told_line
told_length number place h k =
    simp length-append
    (omega (arith, words_length number, digits_length 2 number h, digits_length 19 place k))
