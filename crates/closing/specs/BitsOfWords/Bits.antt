-- The laws of bits that marks in words rest on: of no bits, of one bit, of two words joined, and that a word is its
-- bits.
-- Nothing else of words is used.
use Rattle.std.specs.Prelude.{ℕ, zero, suc, ◌+◌, ◌*◌, ◌/◌, ◌%◌, ◌^◌, ◌≤◌, ◌<◌, min, max, ◌≡◌, refl, ◌⊎◌, ◌↔◌, Bool, true, false}
use Rattle.std.proofs.Common.{sym, ap, ◌∙◌, subst, inl, inr, ⊎_elim, mod-lt, pow-suc, zero-mul, one-mul, lt_of_lt_of_le, arith, pow_pos, pow_mono, shl_exact, shr-shr}
use Rattle.std.proofs.lemmas.Bool.{false≢true}
use Rattle.std.proofs.Math.Nat.{zero-div, div-eq_of_lt}
use Rattle.std.proofs.Math.Decide.{ℕ_discrete, dec_lt}
use Rattle.std.proofs.Math.Arith.{bin_ind, digits_mod}
use Rattle.std.specs.Int.Bits.{bit_or, bit_and, or_step, and_step}
use Rattle.std.proofs.lemmas.Nat.{or_shr, and_shr}
use Rattle.std.proofs.Math.Pow.{split}
use Rattle.tables.specs.Words.{Bit}

-- whether a bit is set can be tested
pub dec_bit : (w i : ℕ) → Dec (Bit w i)
dec_bit w i = ℕ_discrete (w / 2 ^ i % 2) 1

-- a bit that is not set is 0
pub clear_bit : (w i : ℕ) → (Bit w i → ⊥) → w / 2 ^ i % 2 ≡ 0
clear_bit w i h = omega (arith, mod-lt (w / 2 ^ i) {m = 2} (omega arith), h)

-- the low bit is the number's parity
pub bit_low : (w : ℕ) → w / 2 ^ 0 ≡ w
bit_low w = omega arith

-- bit i + 1 is bit i of the half
pub bit_half : (w i : ℕ) → w / 2 ^ suc i ≡ w / 2 / 2 ^ i
bit_half w i = ap (λ (n : ℕ). w / 2 ^ n) (omega arith) ∙ sym (shr-shr w 1 i)

-- no bit of 0 is set
pub bit_zero : (i : ℕ) → Bit 0 i → ⊥
bit_zero i h = omega (arith, ap (λ (n : ℕ). n % 2) (zero-div (2 ^ i)), h)

-- the parity of two words joined
parity_or : (a b : ℕ) → bit_or a b % 2 ≡ max (a % 2) (b % 2)
parity_or a b = ap (λ (n : ℕ). n % 2) (or_step a b) ∙ digits_mod (bit_or (a / 2) (b / 2)) (omega arith)

-- a bit of two words joined is a bit of one of them
pub bit_of_or : (a b i : ℕ) → Bit (bit_or a b) i ↔ (Bit a i ⊎ Bit b i)
bit_of_or a b i = (
  λ h. elim (dec_bit a i) [ yes l ↦ inl l | no l ↦ inr (omega (arith, joined, h, clear_bit a i l)) ],
  ⊎_elim (λ l. omega (arith, joined, l)) (λ l. omega (arith, joined, l)),
)
  where
    joined : bit_or a b / 2 ^ i % 2 ≡ max (a / 2 ^ i % 2) (b / 2 ^ i % 2)
    joined = ap (λ (n : ℕ). n % 2) (or_shr a b i) ∙ parity_or (a / 2 ^ i) (b / 2 ^ i)

-- a bit of what two words have in common is a bit of both
pub bit_of_and : (a b i : ℕ) → Bit (bit_and a b) i ↔ (Bit a i × Bit b i)
bit_of_and a b i = (
  λ h. (omega (arith, common, h), omega (arith, common, h)),
  λ h. omega (arith, common, h.0, h.1),
)
  where
    common : bit_and a b / 2 ^ i % 2 ≡ min (a / 2 ^ i % 2) (b / 2 ^ i % 2)
    common =
        ap (λ (n : ℕ). n % 2) (and_shr a b i ∙ and_step (a / 2 ^ i) (b / 2 ^ i))
        ∙ digits_mod (bit_and (a / 2 ^ i / 2) (b / 2 ^ i / 2)) (omega arith)

-- shifted by n or more, nothing is left of a word below 2 ^ n
pub nothing_left : {w n i : ℕ} → w < 2 ^ n → n ≤ i → w / 2 ^ i ≡ 0
nothing_left h l = div-eq_of_lt (lt_of_lt_of_le h (pow_mono l))

-- where something is left of a word below 2 ^ n, it was shifted by less than n
pub something_left : {w n i : ℕ} → w < 2 ^ n → (w / 2 ^ i ≡ 0 → ⊥) → i < n
something_left {w} {n} {i} h some = elim (dec_lt i n) [ yes l ↦ l | no l ↦ absurd (some (nothing_left h (omega arith))) ]

-- a word of which nothing is left is below 2 ^ n
pub below_of_nothing : (w n : ℕ) → w / 2 ^ n ≡ 0 → w < 2 ^ n
below_of_nothing w n e = rw (← split w n, e) (omega (arith, mod-lt w (pow_pos n)))

-- in a word below 2 ^ n no bit at or above n is set
pub bit_below : {w n i : ℕ} → w < 2 ^ n → Bit w i → i < n
bit_below h b = something_left h (λ e. omega (arith, ap (λ (m : ℕ). m % 2) e, b))

-- bit i + 1 of a word is bit i of its half
pub bit_suc : (w i : ℕ) → Bit w (suc i) ↔ Bit (w / 2) i
bit_suc w i = (λ b. ap (λ (n : ℕ). n % 2) (sym (bit_half w i)) ∙ b, λ b. ap (λ (n : ℕ). n % 2) (bit_half w i) ∙ b)

-- half of a power of two
double_half : (j : ℕ) → 2 ^ suc j / 2 ≡ 2 ^ j
double_half j = omega (arith, pow-suc 2 j)

-- the one bit of 2 ^ j is bit j
pub bit_power : (j i : ℕ) → Bit (2 ^ j) i ↔ (i ≡ j)
bit_power zero zero = (λ _. refl, λ _. refl)
bit_power zero (suc i) = (λ b. absurd (bit_zero i ((bit_suc 1 i).0 b)), λ e. absurd (omega arith))
bit_power (suc j) zero = (λ b. absurd (omega (arith, pow-suc 2 j, bit_low (2 ^ suc j), b)), λ e. absurd (omega arith))
bit_power (suc j) (suc i) = (
  λ b. ap suc ((bit_power j i).0 (subst (λ (n : ℕ). Bit n i) (double_half j) ((bit_suc (2 ^ suc j) i).0 b))),
  λ e. (bit_suc (2 ^ suc j) i).1 (subst (λ (n : ℕ). Bit n i) (sym (double_half j)) ((bit_power j i).1 (omega arith))),
)

-- a word of no bits is 0
no_bits : (w : ℕ) → ((i : ℕ) → Bit w i → ⊥) → w ≡ 0
no_bits =
    bin_ind (λ (w : ℕ). ((i : ℕ) → Bit w i → ⊥) → w ≡ 0) (λ _. refl)
    (λ w ih h. omega (arith, ih (λ i b. h (suc i) ((bit_suc w i).1 b)), clear_bit w 0 (h 0), bit_low w))

-- a word is below 2 ^ n where no bit at or above n is set
pub below_of_bits : (n w : ℕ) → ((i : ℕ) → Bit w i → i < n) → w < 2 ^ n
below_of_bits n w h =
    below_of_nothing w n
    (no_bits (w / 2 ^ n) (λ i b. omega (arith, h (n + i) (ap (λ (m : ℕ). m % 2) (sym (shr-shr w n i)) ∙ b))))

-- two words with the same bits are equal
pub same_bits : (v w : ℕ) → ((i : ℕ) → Bit v i ↔ Bit w i) → v ≡ w
same_bits =
    bin_ind (λ (v : ℕ). (w : ℕ) → ((i : ℕ) → Bit v i ↔ Bit w i) → v ≡ w)
    (λ w h. sym (no_bits w (λ i b. bit_zero i ((h i).1 b))))
    (λ v ih w h. omega (arith, halves v w h ih, parities v w (h 0)))
  where
    halves : (v w : ℕ) → ((i : ℕ) → Bit v i ↔ Bit w i) → ((w : ℕ) → ((i : ℕ) → Bit (v / 2) i ↔ Bit w i) → v / 2 ≡ w)
        → v / 2 ≡ w / 2
    halves v w h ih =
        ih (w / 2) (λ i. (
          λ b. (bit_suc w i).0 ((h (suc i)).0 ((bit_suc v i).1 b)),
          λ b. (bit_suc v i).0 ((h (suc i)).1 ((bit_suc w i).1 b)),
        ))

    parities : (v w : ℕ) → Bit v 0 ↔ Bit w 0 → v % 2 ≡ w % 2
    parities v w h = elim (dec_bit v 0) [
      | yes b ↦ omega (arith, b, h.0 b, bit_low v, bit_low w)
      | no b ↦ omega (arith, clear_bit v 0 b, clear_bit w 0 (λ c. b (h.1 c)), bit_low v, bit_low w)
    ]

-- 1 shifted within a word of n bits
pub one_shifted : (n i : ℕ) → i < n → 1 * 2 ^ i % 2 ^ n ≡ 2 ^ i
one_shifted n i h = shl_exact 1 i n (omega arith) (omega arith) ∙ one-mul (2 ^ i)

-- a word with bit j set too has that bit and its own
pub bit_with : (w j i : ℕ) → Bit (bit_or w (2 ^ j)) i ↔ (Bit w i ⊎ (i ≡ j))
bit_with w j i = (
  λ b. ⊎_elim inl (λ c. inr ((bit_power j i).0 c)) ((bit_of_or w (2 ^ j) i).0 b),
  λ b. (bit_of_or w (2 ^ j) i).1 (⊎_elim inl (λ e. inr ((bit_power j i).1 e)) b),
)

-- a word with one bit joined to it, or none, by what a test says
pub joined_bit : (w i j : ℕ) → i < 64 → Bit (bit_or w (1 * 2 ^ i % 2 ^ 64)) j ↔ (Bit w j ⊎ ((j ≡ i) × (true ≡ true)))
joined_bit w i j inside = subst (λ (n : ℕ). Bit (bit_or w n) j ↔ (Bit w j ⊎ ((j ≡ i) × (true ≡ true))))
    (sym (one_shifted 64 i inside)) (
      λ b. ⊎_elim inl (λ e. inr (e, refl)) ((bit_with w i j).0 b),
      λ b. (bit_with w i j).1 (⊎_elim inl (λ h. inr h.0) b),
    )

pub njoined_bit : (w i j : ℕ) → Bit (bit_or w (0 * 2 ^ i % 2 ^ 64)) j ↔ (Bit w j ⊎ ((j ≡ i) × (false ≡ true)))
njoined_bit w i j = subst (λ (n : ℕ). Bit (bit_or w (n % 2 ^ 64)) j ↔ (Bit w j ⊎ ((j ≡ i) × (false ≡ true))))
    (sym (zero-mul (2 ^ i))) (
      λ b. ⊎_elim inl (λ z. absurd (bit_zero j z)) ((bit_of_or w 0 j).0 b),
      ⊎_elim (λ b. (bit_of_or w 0 j).1 (inl b)) (λ h. absurd (false≢true h.1)),
    )

-- two bits are equal exactly when one is set where the other is
pub equal_bits : (v i w j : ℕ) → (v / 2 ^ i % 2 ≡ w / 2 ^ j % 2) ↔ (Bit v i ↔ Bit w j)
equal_bits v i w j = (
  λ e. (λ b. sym e ∙ b, λ b. e ∙ b),
  λ h. elim (dec_bit v i) [ yes b ↦ b ∙ sym (h.0 b) | no b ↦ clear_bit v i b ∙ sym (clear_bit w j (λ c. b (h.1 c))) ],
)

-- the answer of a test tells whether P holds
pub record Tells (P : Type 0) (answer : Bool) : Type 0 where
  pub holds : answer ≡ true → P
  pub fails : answer ≡ false → P → ⊥

-- the answer no, where P does not hold
pub told_no : {P : Type 0} → (P → ⊥) → Tells P false
told_no h = record { holds = λ e. absurd (let z : ◌≡◌ {A = ℕ} 0 1 = cc in omega arith); fails = λ _. h }

-- the answer yes, where P holds
pub told_yes : {P : Type 0} → P → Tells P true
told_yes p = record { holds = λ _. p; fails = λ e. absurd (let z : ◌≡◌ {A = ℕ} 0 1 = cc in omega arith) }

-- words whose meet is 0 have no bit in common
pub none_common : (a b : ℕ) → bit_and a b ≡ 0 → (i : ℕ) → Bit a i → Bit b i → ⊥
none_common a b none i c d = bit_zero i (subst (λ (w : ℕ). Bit w i) none ((bit_of_and a b i).1 (c, d)))
