-- The lowest bit that is set in a word: which one it is, and what is left of the word without it.
-- So the set bits of a word are gone over one by one: the lowest, then the lowest of what is left, until nothing is
-- left.
use Rattle.std.specs.Prelude.{ℕ, zero, suc, ◌+◌, ◌-◌, ◌*◌, ◌/◌, ◌%◌, ◌^◌, ◌<◌, min, ◌≡◌, refl, ◌↔◌}
use Rattle.std.proofs.Common.{sym, ap₂, ◌∙◌, subst, mod-lt, pow-suc, arith, pow_pos}
use Rattle.std.proofs.Math.Decide.{ℕ_discrete}
use Rattle.std.specs.Int.Bits.{bit_and, and_step, and_self}
use Rattle.std.specs.Int.Count.{count_trailing_zeros, under}
use Rattle.tables.specs.Words.{Bit}
use Rattle.closing.specs.BitsOfWords.Bits.{bit_low, bit_suc, bit_below}

-- bit s is the lowest that is set in w, and w & (w - 1) is the word without it
pub record Lowest (w s : ℕ) : Type 0 where
  pub is_set : Bit w s
  pub none_lower : (i : ℕ) → i < s → Bit w i → ⊥
  pub left : (i : ℕ) → Bit (bit_and w (w - 1)) i ↔ (Bit w i × (i ≡ s → ⊥))
  pub taken : bit_and w (w - 1) + 2 ^ s ≡ w

-- of an odd word it is bit 0
odd : (w : ℕ) → w % 2 ≡ 1 → Lowest w 0
odd w o = record {
  is_set = omega (arith, bit_low w);
  none_lower = λ i h. absurd (omega arith);
  left = λ i. subst (λ (n : ℕ). Bit n i ↔ (Bit w i × (i ≡ 0 → ⊥))) (sym without) (bits i);
  taken = omega (arith, without);
}
  where
    without : bit_and w (w - 1) ≡ w - 1
    without =
        and_step w (w - 1) ∙ ap₂ (λ (v n : ℕ). bit_and (w / 2) v * 2 + min (w % 2) n) (omega arith) (omega arith)
        ∙ ap₂ (λ (v n : ℕ). v * 2 + min n 0) (and_self (w / 2)) o ∙ omega arith

    half : (w - 1) / 2 ≡ w / 2
    half = omega arith

    bits : (i : ℕ) → Bit (w - 1) i ↔ (Bit w i × (i ≡ 0 → ⊥))
    bits zero = (λ b. absurd (omega (arith, bit_low (w - 1))), λ b. absurd (b.1 refl))
    bits (suc i) = (
      λ b. ((bit_suc w i).1 (subst (λ (n : ℕ). Bit n i) half ((bit_suc (w - 1) i).0 b)), λ e. omega arith),
      λ b. (bit_suc (w - 1) i).1 (subst (λ (n : ℕ). Bit n i) (sym half) ((bit_suc w i).0 b.0)),
    )

-- of an even word it is one above that of its half
even : (w s : ℕ) → w % 2 ≡ 0 → 0 < w → Lowest (w / 2) s → Lowest w (suc s)
even w s e h lowest = record {
  is_set = (bit_suc w s).1 lowest.is_set;
  none_lower = none;
  left = bits;
  taken = omega (arith, without, lowest.taken, pow-suc 2 s);
}
  where
    without : bit_and w (w - 1) ≡ bit_and (w / 2) (w / 2 - 1) * 2
    without =
        let before : (w - 1) / 2 ≡ w / 2 - 1 = omega arith in
        and_step w (w - 1) ∙ ap₂ (λ (v n : ℕ). bit_and (w / 2) v * 2 + min n ((w - 1) % 2)) before e ∙ omega arith

    half : bit_and w (w - 1) / 2 ≡ bit_and (w / 2) (w / 2 - 1)
    half = omega (arith, without)

    none : (i : ℕ) → i < suc s → Bit w i → ⊥
    none zero l b = omega (arith, bit_low w)
    none (suc i) l b = lowest.none_lower i (omega arith) ((bit_suc w i).0 b)

    bits : (i : ℕ) → Bit (bit_and w (w - 1)) i ↔ (Bit w i × (i ≡ suc s → ⊥))
    bits zero = (
      λ b. absurd (omega (arith, without, bit_low (bit_and w (w - 1)))),
      λ b. absurd (omega (arith, bit_low w, b.0)),
    )
    bits (suc i) = (
      λ b. let c = (lowest.left i).0 (subst (λ (n : ℕ). Bit n i) half ((bit_suc (bit_and w (w - 1)) i).0 b)) in
          ((bit_suc w i).1 c.0, λ d. c.1 (omega arith)),
      λ b. (bit_suc (bit_and w (w - 1)) i).1 (subst (λ (n : ℕ). Bit n i) (sym half)
          ((lowest.left i).1 ((bit_suc w i).0 b.0, λ d. b.1 (omega arith)))),
    )

-- the count of trailing zeros is the number of the lowest bit of a word of k bits that is not 0
pub lowest_bit : (k w : ℕ) → 0 < w → w < 2 ^ k → Lowest w (count_trailing_zeros k w)
unfolding count_trailing_zeros
lowest_bit zero w h l = absurd (omega arith)
lowest_bit (suc k) w h l = elim (ℕ_discrete (w % 2) 0) [
  | yes e ↦ subst (λ (n : ℕ). Lowest w (under n (count_trailing_zeros k (w / 2)))) (sym e)
      (even w _ e h (lowest_bit k (w / 2) (omega arith) (omega (arith, pow-suc 2 k))))
  | no e ↦ let o : w % 2 ≡ 1 = omega (arith, mod-lt w {m = 2} (omega arith)) in
      subst (λ (n : ℕ). Lowest w (under n (count_trailing_zeros k (w / 2)))) (sym o) (odd w o)
]

module _ {w s : ℕ} (lowest : Lowest w s) where
  -- it is one of the word's bits
  pub lowest_below : {n : ℕ} → w < 2 ^ n → s < n
  lowest_below h = bit_below h lowest.is_set

  -- without it the word is smaller
  pub left_smaller : bit_and w (w - 1) < w
  left_smaller = omega (arith, lowest.taken, pow_pos s)
