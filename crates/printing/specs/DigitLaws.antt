-- The digits of a number: one by one from its tenth, the number that they stand for, and how many there are.
use Rattle.std.specs.Prelude.{ℕ, zero, suc, ◌+◌, ◌*◌, ◌-◌, ◌/◌, ◌%◌, ◌^◌, ◌≤◌, ◌<◌, ◌≡◌, refl, List, [], ◌∷◌, ◌++◌, length}
use Rattle.std.proofs.Common.{sym, ap, ◌∙◌, arith, length-append, lt-ltb, le-ltb}
use Rattle.std.proofs.Math.Decide.{dec_lt}
use Rattle.printing.specs.Digits.{digit, digits_within, digits}

-- a number below 10 is one digit
within_small : (steps n : ℕ) → n < 10 → digits_within steps n ≡ digit n ∷ []
unfolding digits_within
within_small zero n h = refl
within_small (suc steps) n h = rw (lt-ltb n 10 h, digits_within)

-- another number is the digits of its tenth, and its last digit
within_large : (steps n : ℕ) → 10 ≤ n → digits_within (suc steps) n ≡ digits_within steps (n / 10)
    ++ (digit (n % 10) ∷ [])
unfolding digits_within
within_large steps n h = rw (le-ltb n 10 h, digits_within)

-- more steps than needed change nothing: a tenth is smaller, so it needs fewer
enough : (steps more n : ℕ) → n ≤ steps → n ≤ more → digits_within steps n ≡ digits_within more n
enough zero more n h k = within_small zero n (omega arith) ∙ sym (within_small more n (omega arith))
enough (suc steps) zero n h k = within_small (suc steps) n (omega arith) ∙ sym (within_small zero n (omega arith))
enough (suc steps) (suc more) n h k =
    elim (dec_lt n 10) [
      | yes l ↦ within_small (suc steps) n l ∙ sym (within_small (suc more) n l)
      | no l ↦
          within_large steps n (omega arith)
          ∙ ap (λ (ds : List ℕ). ds ++ (digit (n % 10) ∷ [])) (enough steps more (n / 10) (omega arith) (omega arith))
          ∙ sym (within_large more n (omega arith))
    ]

-- a number below 10 is one digit
pub digits_small : (n : ℕ) → n < 10 → digits n ≡ digit n ∷ []
unfolding digits
digits_small n h = within_small n n h

-- another number is the digits of its tenth, and its last digit
pub digits_large : (n : ℕ) → 10 ≤ n → digits n ≡ digits (n / 10) ++ (digit (n % 10) ∷ [])
unfolding digits
digits_large zero h = absurd (omega arith)
digits_large (suc n) h =
    within_large n (suc n) h ∙ ap (λ (ds : List ℕ). ds ++ (digit (suc n % 10) ∷ []))
    (enough n (suc n / 10) (suc n / 10) (omega arith) (omega arith))

-- what holds of the digits of numbers below 10, and of a number's if of its tenth's, holds of the digits of all
pub digits_induction : (P : ℕ → List ℕ → Type 0) → ((n : ℕ) → n < 10 → P n (digit n ∷ []))
    → ((n : ℕ) (ds : List ℕ) → 10 ≤ n → P (n / 10) ds → P n (ds ++ (digit (n % 10) ∷ []))) → (n : ℕ) → P n (digits n)
digits_induction P small large n = below n n (omega arith)
  where
    below : (steps n : ℕ) → n ≤ steps → P n (digits n)
    below zero n h = rw (digits_small n (omega arith)) (small n (omega arith))
    below (suc steps) n h =
        elim (dec_lt n 10) [
          | yes l ↦ rw (digits_small n l) (small n l)
          | no l ↦ rw (digits_large n (omega arith))
              (large n (digits (n / 10)) (omega arith) (below steps (n / 10) (omega arith)))
        ]

-- the number that digits stand for, behind those already read
abbrev pub value_after : ℕ → List ℕ → ℕ
value_after read [] = read
value_after read (d ∷ ds) = value_after (read * 10 + (d - 48)) ds

-- one more digit at the end: ten times the number, and the digit
value_last : (read : ℕ) (ds : List ℕ) (d : ℕ) → value_after read (ds ++ (d ∷ [])) ≡ value_after read ds * 10 + (d - 48)
value_last read [] d = refl
value_last read (c ∷ ds) d = value_last (read * 10 + (c - 48)) ds d

-- the digits of a number stand for that number
pub digits_value : (n : ℕ) → value_after 0 (digits n) ≡ n
digits_value = digits_induction (λ n ds. value_after 0 ds ≡ n) (λ n h. omega arith)
    (λ n ds h same. omega (arith, value_last 0 ds (digit (n % 10))))

-- a number below 10 to the power k + 1 has at most k + 1 digits
pub digits_length : (k n : ℕ) → n < 10 ^ suc k → length (digits n) ≤ suc k
digits_length zero n h = rw (digits_small n (omega arith)) (omega arith)
digits_length (suc k) n h =
    elim (dec_lt n 10) [
      | yes l ↦ rw (digits_small n l) (omega arith)
      | no l ↦ rw (digits_large n (omega arith), length-append) (omega (arith, digits_length k (n / 10) (omega arith)))
    ]
