-- What a byte of a count is by its sign, and how a digit moves the reading on, in the first number and in the second.
use Rattle.std.specs.Prelude.{ℕ, ◌+◌, ◌*◌, ◌-◌, ◌≤◌, ◌≡◌, refl, Bool, true, false, cond, eqb, ltb}
use Rattle.std.proofs.Common.{arith, eqb-true, ltb-false, le-ltb, le-leb, ne_eqb}
use Rattle.counts.specs.Count.{
  largest,
  CountSign,
  digit,
  comma,
  ending,
  other,
  count_sign,
  Counting,
  fewest_due,
  fewest_read,
  most_due,
  most_read,
  goes_on,
  faulty,
  may_follow,
  count_step,
}
use Rattle.counts.specs.CountGrammar.{IsDigit}

-- what a sign of a count says of its byte
abbrev pub CountMeans : ℕ → CountSign → Type 0
CountMeans b (digit value) = IsDigit b value
CountMeans b comma = b ≡ 44
CountMeans b ending = b ≡ 125
CountMeans b other = Unit {0}

picked : (P : CountSign → Type 0) (test : Bool) (s r : CountSign) → (test ≡ true → P s) → (test ≡ false → P r)
    → P (cond test s r)
picked P true s r first second = first refl
picked P false s r first second = second refl

-- every byte is the one that its sign belongs to
pub count_sign_means : (b : ℕ) → CountMeans b (count_sign b)
count_sign_means b =
    picked (CountMeans b) (eqb b 44) comma _ (eqb-true b 44)
    (λ _. picked (CountMeans b) (eqb b 125) ending _ (eqb-true b 125)
    (λ _. picked (CountMeans b) (ltb b 48) other _ (λ _. tt)
    (λ low. picked (CountMeans b) (ltb 57 b) other (digit (b - 48)) (λ _. tt)
    (λ high. record {
      same = omega (arith, ltb-false b 48 low);
      small = omega (arith, ltb-false b 48 low, ltb-false 57 b high);
    }))))

-- a digit has its sign
pub digit_sign : (b value : ℕ) → IsDigit b value → count_sign b ≡ digit value
digit_sign b value d =
    let far : b - 48 ≡ value = omega arith in
    rw (
      ne_eqb b 44 (λ e. omega arith),
      ne_eqb b 125 (λ e. omega arith),
      le-ltb b 48 (omega arith),
      le-ltb 57 b (omega arith),
      far,
    )

-- the one number or the other
pub data Side : Type 0 where
  first : Side
  second : (fewest : ℕ) → Side

-- where it is due
abbrev pub due : Side → Counting
due first = fewest_due
due (second fewest) = most_due fewest

-- where this much of it was read
abbrev pub read : Side → (number : ℕ) → Counting
read first number = fewest_read number
read (second fewest) number = most_read fewest number

-- its first digit
pub digit_due : (side : Side) (b value : ℕ) → IsDigit b value → count_step b (due side) ≡ goes_on (read side value)
digit_due first b value d = rw (digit_sign b value d)
digit_due (second fewest) b value d = rw (digit_sign b value d)

-- a byte that is no digit is a fault there
pub none_due : (side : Side) (b : ℕ) → ((value : ℕ) → IsDigit b value → ⊥) → count_step b (due side) ≡ faulty
none_due first b no_digit = go (count_sign b) refl (count_sign_means b)
  where
    go : (s : CountSign) → count_sign b ≡ s → CountMeans b s → count_step b fewest_due ≡ faulty
    go (digit value) e m = absurd (no_digit value m)
    go comma e m = rw e
    go ending e m = rw e
    go other e m = rw e
none_due (second fewest) b no_digit = go (count_sign b) refl (count_sign_means b)
  where
    go : (s : CountSign) → count_sign b ≡ s → CountMeans b s → count_step b (most_due fewest) ≡ faulty
    go (digit value) e m = absurd (no_digit value m)
    go comma e m = rw e
    go ending e m = rw e
    go other e m = rw e

-- a digit may follow a number
pub follows : (number value : ℕ) → 1 ≤ number → 10 * number + value ≤ largest → may_follow number value ≡ true
follows number value h k = rw (ne_eqb number 0 (λ e. omega arith), le-leb (10 * number + value) largest k)

-- one that may
pub digit_more : (side : Side) (b value number : ℕ) → IsDigit b value → may_follow number value ≡ true
    → count_step b (read side number) ≡ goes_on (read side (10 * number + value))
digit_more first b value number d e = rw (digit_sign b value d, e)
digit_more (second fewest) b value number d e = rw (digit_sign b value d, e)

-- one that may not is a fault
pub digit_fails : (side : Side) (b value number : ℕ) → IsDigit b value → may_follow number value ≡ false
    → count_step b (read side number) ≡ faulty
digit_fails first b value number d e = rw (digit_sign b value d, e)
digit_fails (second fewest) b value number d e = rw (digit_sign b value d, e)
