-- The reading of a count from after its `{`, apart from what stands around it.
use Rattle.std.specs.Prelude.{ℕ, ◌+◌, List, [], ◌∷◌, drop}
use Rattle.counts.specs.Count.{Counting, fewest_due, CountStep, goes_on, whole, faulty, count_step}

-- what reading a count comes to: its two numbers, what follows its `}`, and the place there; or it is not of the form
pub data CountRan : Type 0 where
  found : (fewest most : ℕ) → (rest : List ℕ) → (next : ℕ) → CountRan
  failed : CountRan

-- after one byte
abbrev pub count_ran_on : CountStep → (rest : List ℕ) → (next : ℕ) → (Counting → CountRan) → CountRan
count_ran_on (goes_on counting) rest next on = on counting
count_ran_on (whole fewest most) rest next on = found fewest most rest next
count_ran_on faulty rest next on = failed

-- the bytes from a place on, where this much was read of the count: the end inside a count is a fault
unfoldable pub count_run : List ℕ → ℕ → Counting → CountRan
count_run [] place counting = failed
count_run (b ∷ rest) place counting = count_ran_on (count_step b counting) rest (place + 1) (count_run rest (place + 1))

-- the reading of the count whose `{` stands at a place
unfoldable pub count_at : List ℕ → (at : ℕ) → CountRan
count_at bytes at = count_run (drop (at + 1) bytes) (at + 1) fewest_due
