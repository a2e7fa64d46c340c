-- Passing a mark on sets one bit of a word.
use Rattle.std.specs.Prelude.{ℕ, ◌*◌, ◌/◌, ◌%◌, ◌^◌, ◌<◌, ◌≡◌, refl, ◌⊎◌, ◌↔◌}
use Rattle.std.proofs.Common.{one-mul, zero-mul, arith, sym, ap, ◌∙◌, subst, inl, inr, ⊎_elim}
use Rattle.std.specs.Int.Bits.{bit_or}
use Rattle.tables.specs.Words.{Bit}
use Rattle.closing.specs.BitsOfWords.Bits.{
  dec_bit,
  clear_bit,
  bit_zero,
  bit_of_or,
  bit_power,
  bit_with,
  bit_below,
  below_of_bits,
}
use Rattle.sweeping.specs.Swept.{passed, Missed}

-- one bit or none, shifted up
bit_moved : (other from to k : ℕ) → Bit (other / 2 ^ from % 2 * 2 ^ to) k ↔ ((k ≡ to) × Bit other from)
bit_moved other from to k = elim (dec_bit other from) [
  | yes l ↦ (
    λ b. ((bit_power to k).0 (subst (λ (v : ℕ). Bit v k) (one l) b), l),
    λ h. subst (λ (v : ℕ). Bit v k) (sym (one l)) ((bit_power to k).1 h.0),
  )
  | no l ↦ (λ b. absurd (bit_zero k (subst (λ (v : ℕ). Bit v k) (none l) b)), λ h. absurd (l h.1))
]
  where
    one : Bit other from → other / 2 ^ from % 2 * 2 ^ to ≡ 2 ^ to
    one l = ap (λ (v : ℕ). v * 2 ^ to) l ∙ one-mul (2 ^ to)

    none : (Bit other from → ⊥) → other / 2 ^ from % 2 * 2 ^ to ≡ 0
    none l = ap (λ (v : ℕ). v * 2 ^ to) (clear_bit other from l) ∙ zero-mul (2 ^ to)

-- the bits after passing: those of the word, and the one that was passed
pub bit_passed : (other from word to k : ℕ) → Bit (passed other from word to) k
    ↔ (Bit word k ⊎ ((k ≡ to) × Bit other from))
unfolding passed
bit_passed other from word to k = (
  λ b. ⊎_elim inl (λ m. inr ((bit_moved other from to k).0 m)) ((bit_of_or word (other / 2 ^ from % 2 * 2 ^ to) k).0 b),
  ⊎_elim (λ b. (bit_of_or word (other / 2 ^ from % 2 * 2 ^ to) k).1 (inl b))
      (λ h. (bit_of_or word (other / 2 ^ from % 2 * 2 ^ to) k).1 (inr ((bit_moved other from to k).1 h))),
)

-- no bit past the last is set by passing
pub passed_below : (other from word to n : ℕ) → word < 2 ^ n → to < n → passed other from word to < 2 ^ n
passed_below other from word to n h l =
    below_of_bits n (passed other from word to)
    (λ i b. ⊎_elim (λ w. bit_below h w) (λ m. omega (arith, m.0)) ((bit_passed other from word to i).0 b))

-- the word with bit i set has it, whatever the other has
pub missed_with : (other i word : ℕ) → Missed other i word (bit_or word (2 ^ i))
missed_with other i word =
    record { all = λ j b. (bit_with word i j).1 (inl b); one = λ none. (bit_with word i i).1 (inr refl) }
