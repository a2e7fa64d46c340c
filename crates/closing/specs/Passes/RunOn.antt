-- Why one addition takes all runs of states at once. Where each state of a run leads to the next one, adding the run to
-- its marks makes a carry at the lowest mark, which runs on to one state past the end of the run and ends there.
use Rattle.std.specs.Prelude.{ℕ, zero, suc, ◌+◌, ◌*◌, ◌/◌, ◌%◌, ◌^◌, ◌<◌, min, max, ◌≡◌, refl, ◌⊎◌, ◌↔◌}
use Rattle.std.proofs.Common.{ap₂, ◌∙◌, subst, inl, inr, ⊎_elim, add-zero, arith}
use Rattle.std.proofs.Math.Path.{ap}
use Rattle.std.proofs.Math.Nat.{mod-lt}
use Rattle.std.proofs.Math.Arith.{digits_mod}
use Rattle.std.specs.Int.Bits.{bit_or, bit_and, bit_xor, differ, and_step, or_step, xor_step, or_shr}
use Rattle.std.proofs.lemmas.Nat.{xor_shr}
use Rattle.tables.specs.Words.{Bit}
use Rattle.closing.specs.BitsOfWords.Bits.{dec_bit, clear_bit, bit_of_and, bit_low, bit_suc}

-- r is w with the marks carried on: a bit is set where w has it, or where the bit before it is set and leads on
pub record RanOn (w on r : ℕ) : Type 0 where
  pub first : Bit r 0 ↔ Bit w 0
  pub later : (k : ℕ) → Bit r (suc k) ↔ (Bit w (suc k) ⊎ (Bit on k × Bit r k))

-- the addition, with a carry from below
pub added : (c w on : ℕ) → ℕ
added c w on = bit_or w (bit_xor (bit_and w on + on + c) on)

-- one digit of it, and the carry that it leaves
digit : (p q c : ℕ) → p < 2 → q < 2 → c < 2
    → (max p (differ ((min p q + q + c) % 2) q) ≡ max p c) × ((min p q + q + c) / 2 ≡ min q (max p c))
digit zero zero zero a b d = (refl, refl)
digit zero zero (suc zero) a b d = (refl, refl)
digit zero zero (suc (suc c)) a b d = absurd (omega arith)
digit zero (suc zero) zero a b d = (refl, refl)
digit zero (suc zero) (suc zero) a b d = (refl, refl)
digit zero (suc zero) (suc (suc c)) a b d = absurd (omega arith)
digit zero (suc (suc q)) c a b d = absurd (omega arith)
digit (suc zero) zero zero a b d = (refl, refl)
digit (suc zero) zero (suc zero) a b d = (refl, refl)
digit (suc zero) zero (suc (suc c)) a b d = absurd (omega arith)
digit (suc zero) (suc zero) zero a b d = (refl, refl)
digit (suc zero) (suc zero) (suc zero) a b d = (refl, refl)
digit (suc zero) (suc zero) (suc (suc c)) a b d = absurd (omega arith)
digit (suc zero) (suc (suc q)) c a b d = absurd (omega arith)
digit (suc (suc p)) q c a b d = absurd (omega arith)

-- two digits that are 0 or 1 differ by 0 or 1
differ_small : (p q : ℕ) → p < 2 → q < 2 → differ p q < 2
differ_small zero q a b = b
differ_small (suc zero) zero a b = a
differ_small (suc zero) (suc q) a b = omega arith
differ_small (suc (suc p)) q a b = absurd (omega arith)

-- the lowest digit of two words joined, and of where they differ
parity_or : (a b : ℕ) → bit_or a b % 2 ≡ max (a % 2) (b % 2)
parity_or a b = ap (λ (n : ℕ). n % 2) (or_step a b) ∙ digits_mod (bit_or (a / 2) (b / 2)) (omega arith)

parity_xor : (a b : ℕ) → bit_xor a b % 2 ≡ differ (a % 2) (b % 2)
parity_xor a b = ap (λ (n : ℕ). n % 2) (xor_step a b)
    ∙ digits_mod (bit_xor (a / 2) (b / 2))
    (differ_small (a % 2) (b % 2) (mod-lt a (omega arith)) (mod-lt b (omega arith)))

-- a bit of where two words differ
bit_of_xor : (a b i : ℕ) → bit_xor a b / 2 ^ i % 2 ≡ differ (a / 2 ^ i % 2) (b / 2 ^ i % 2)
bit_of_xor a b i = ap (λ (n : ℕ). n % 2) (xor_shr a b i) ∙ parity_xor (a / 2 ^ i) (b / 2 ^ i)

-- a word without the bits of another
pub bit_without : (w v i : ℕ) → Bit (bit_xor w (bit_and v w)) i ↔ (Bit w i × (Bit v i → ⊥))
bit_without w v i = elim (dec_bit w i) [
  | yes b ↦ elim (dec_bit v i) [
    | yes c ↦ (
      λ d. absurd (omega (arith, d, bit_of_xor w (bit_and v w) i, ap₂ differ b ((bit_of_and v w i).1 (c, b)))),
      λ (_, none). absurd (none c),
    )
    | no c ↦ (
      λ d. (b, c),
      λ _. bit_of_xor w (bit_and v w) i
          ∙ ap₂ differ b (clear_bit (bit_and v w) i (λ d. c ((bit_of_and v w i).0 d).0)),
    )
  ]
  | no b ↦ (
    λ d. absurd (omega (
      arith,
      d,
      bit_of_xor w (bit_and v w) i,
      ap₂ differ (clear_bit w i b) (clear_bit (bit_and v w) i (λ e. b ((bit_of_and v w i).0 e).1)),
    )),
    λ (c, _). absurd (b c),
  )
]

module _ (c w on : ℕ) (small : c < 2) where
  -- the carry into the next digit
  carry : ℕ
  carry = min (on % 2) (max (w % 2) c)

  abbrev told : (max (w % 2) (differ ((min (w % 2) (on % 2) + on % 2 + c) % 2) (on % 2)) ≡ max (w % 2) c)
      × ((min (w % 2) (on % 2) + on % 2 + c) / 2 ≡ min (on % 2) (max (w % 2) c))
  told = digit (w % 2) (on % 2) c (mod-lt w (omega arith)) (mod-lt on (omega arith)) small

  carry_small : carry < 2
  unfolding carry
  carry_small = omega (arith, mod-lt on {m = 2} (omega arith))

  -- the sum, by its lowest digit and the rest
  sum : bit_and w on + on + c
      ≡ (bit_and (w / 2) (on / 2) + on / 2) * 2 + (min (w % 2) (on % 2) + on % 2 + c)
  sum = ap (λ (n : ℕ). n + on + c) (and_step w on) ∙ omega arith

  rest : (bit_and w on + on + c) / 2 ≡ bit_and (w / 2) (on / 2) + on / 2 + carry
  unfolding carry
  rest = omega (arith, sum, told.1)

  lowest : (bit_and w on + on + c) % 2 ≡ (min (w % 2) (on % 2) + on % 2 + c) % 2
  lowest = omega (arith, sum)

  -- half of what is added is what is added to the halves
  half : added c w on / 2 ≡ added carry (w / 2) (on / 2)
  unfolding added
  half = or_shr w (bit_xor (bit_and w on + on + c) on) 1
      ∙ ap (bit_or (w / 2)) (xor_shr (bit_and w on + on + c) on 1 ∙ ap (λ (n : ℕ). bit_xor n (on / 2)) rest)

  -- and its lowest digit
  parity : added c w on % 2 ≡ max (w % 2) c
  unfolding added
  parity =
      parity_or w (bit_xor (bit_and w on + on + c) on)
      ∙ ap (max (w % 2)) (parity_xor (bit_and w on + on + c) on ∙ ap (λ (n : ℕ). differ n (on % 2)) lowest) ∙ told.0

  -- so bit 0 is set where w has it or something is carried in
  start : Bit (added c w on) 0 ↔ (Bit w 0 ⊎ (c ≡ 1))
  start = (
    λ b. elim (dec_bit w 0) [
      | yes d ↦ inl d
      | no d ↦ inr (omega (arith, parity, b, bit_low (added c w on), clear_bit w 0 d, bit_low w))
    ],
    ⊎_elim (λ b. omega (arith, parity, b, bit_low (added c w on), bit_low w))
        (λ e. omega (arith, parity, e, bit_low (added c w on), mod-lt w {m = 2} (omega arith))),
  )

  -- and something is carried on where bit 0 is set and leads on
  carries : (carry ≡ 1) ↔ (Bit on 0 × Bit (added c w on) 0)
  unfolding carry
  carries = (
    λ e. (
      omega (arith, e, bit_low on, mod-lt on {m = 2} (omega arith)),
      omega (arith, e, parity, bit_low (added c w on), mod-lt w {m = 2} (omega arith), mod-lt on {m = 2} (omega arith)),
    ),
    λ (b, d). omega (arith, b, d, parity, bit_low on, bit_low (added c w on)),
  )

-- a bit of the half is the next bit
next_bit : (v w i : ℕ) → v / 2 ≡ w → Bit v (suc i) ↔ Bit w i
next_bit v w i e = subst (λ (n : ℕ). Bit v (suc i) ↔ Bit n i) e (bit_suc v i)

-- every later bit is set where w has it, or where the one before it is set and leads on
later_bit : (k c w on : ℕ) → c < 2
    → Bit (added c w on) (suc k) ↔ (Bit w (suc k) ⊎ (Bit on k × Bit (added c w on) k))
later_bit zero c w on small =
    let on-half = next_bit (added c w on) (added (carry c w on small) (w / 2) (on / 2)) zero (half c w on small) in
    let begun = start (carry c w on small) (w / 2) (on / 2) (carry_small c w on small) in (
      λ b. ⊎_elim (λ d. inl ((bit_suc w 0).1 d)) (λ e. inr ((carries c w on small).0 e)) (begun.0 (on-half.0 b)),
      λ b. on-half.1 (begun.1 (⊎_elim (λ d. inl ((bit_suc w 0).0 d)) (λ d. inr ((carries c w on small).1 d)) b)),
    )
later_bit (suc k) c w on small =
    let rest_of = added (carry c w on small) (w / 2) (on / 2) in
    let halves = half c w on small in
    let ih = later_bit k (carry c w on small) (w / 2) (on / 2) (carry_small c w on small) in (
      λ b. ⊎_elim (λ d. inl ((bit_suc w (suc k)).1 d))
          (λ d. inr ((bit_suc on k).1 d.0, (next_bit (added c w on) rest_of k halves).1 d.1))
          (ih.0 ((next_bit (added c w on) rest_of (suc k) halves).0 b)),
      λ b. (next_bit (added c w on) rest_of (suc k) halves).1 (ih.1 (⊎_elim
          (λ d. inl ((bit_suc w (suc k)).0 d))
          (λ d. inr ((bit_suc on k).0 d.0, (next_bit (added c w on) rest_of k halves).0 d.1)) b)),
    )

-- the addition carries the marks on
pub ran_on : (w on : ℕ) → RanOn w on (bit_or w (bit_xor (bit_and w on + on) on))
unfolding added
ran_on w on = subst (λ (n : ℕ). RanOn w on (bit_or w (bit_xor n on))) (add-zero (bit_and w on + on)) record {
  first = (
    λ b. ⊎_elim (λ d. d) (λ e. absurd (omega (arith, e))) ((start 0 w on (omega arith)).0 b),
    λ b. (start 0 w on (omega arith)).1 (inl b),
  );
  later = λ k. later_bit k 0 w on (omega arith);
}
