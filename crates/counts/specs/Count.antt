-- What a count is, and how one is read byte by byte from after its `{`.
use Rattle.std.specs.Prelude.{ℕ, ◌+◌, ◌*◌, ◌-◌, Bool, false, cond, eqb, ltb, leb}

-- the largest number of a count
abbrev pub largest : ℕ
largest = 16

-- what a byte is inside a count
pub data CountSign : Type 0 where
  digit : (value : ℕ) → CountSign
  comma ending other : CountSign

-- `,` `}`, the digits from `0` to `9`, and every other byte
abbrev pub count_sign : ℕ → CountSign
count_sign b =
    cond (eqb b 44) comma
    (cond (eqb b 125) ending
    (cond (ltb b 48) other
    (cond (ltb 57 b) other (digit (b - 48)))))

-- where the reading of a count stands: where its first number is due; in that number; after the comma, where its second
-- number is due; and in that number
pub data Counting : Type 0 where
  fewest_due : Counting
  fewest_read : (fewest : ℕ) → Counting
  most_due : (fewest : ℕ) → Counting
  most_read : (fewest most : ℕ) → Counting

-- what one byte makes of it: the reading goes on, the count is whole, or it is not of the form
pub data CountStep : Type 0 where
  goes_on : Counting → CountStep
  whole : (fewest most : ℕ) → CountStep
  faulty : CountStep

-- whether a digit may follow a number: not after a 0, and not where the number gets too large
abbrev pub may_follow : (number value : ℕ) → Bool
may_follow number value = cond (eqb number 0) false (leb (10 * number + value) largest)

-- whether a count may have these two numbers: the second is not 0, and the first not above it
abbrev pub may_stand : (fewest most : ℕ) → Bool
may_stand fewest most = cond (eqb most 0) false (leb fewest most)

-- where the first number is due
abbrev pub fewest_due_step : CountSign → CountStep
fewest_due_step (digit value) = goes_on (fewest_read value)
fewest_due_step comma = faulty
fewest_due_step ending = faulty
fewest_due_step other = faulty

-- in the first number: one more digit, or the comma
abbrev pub fewest_step : CountSign → (fewest : ℕ) → CountStep
fewest_step (digit value) fewest = cond (may_follow fewest value) (goes_on (fewest_read (10 * fewest + value))) faulty
fewest_step comma fewest = goes_on (most_due fewest)
fewest_step ending fewest = faulty
fewest_step other fewest = faulty

-- where the second number is due
abbrev pub most_due_step : CountSign → (fewest : ℕ) → CountStep
most_due_step (digit value) fewest = goes_on (most_read fewest value)
most_due_step comma fewest = faulty
most_due_step ending fewest = faulty
most_due_step other fewest = faulty

-- in the second number: one more digit, or the `}`
abbrev pub most_step : CountSign → (fewest most : ℕ) → CountStep
most_step (digit value) fewest most = cond (may_follow most value)
    (goes_on (most_read fewest (10 * most + value))) faulty
most_step comma fewest most = faulty
most_step ending fewest most = cond (may_stand fewest most) (whole fewest most) faulty
most_step other fewest most = faulty

-- one byte, by where the reading stands
abbrev pub count_step : ℕ → Counting → CountStep
count_step b fewest_due = fewest_due_step (count_sign b)
count_step b (fewest_read fewest) = fewest_step (count_sign b) fewest
count_step b (most_due fewest) = most_due_step (count_sign b) fewest
count_step b (most_read fewest most) = most_step (count_sign b) fewest most
