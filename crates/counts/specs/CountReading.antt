-- What the readers of a number and of a count promise: how the reading of the count goes on after it.
use Rattle.std.specs.Prelude.{ℕ, ◌-◌, ◌≤◌, ◌<◌, ◌≡◌, List, Option, Some, None, length, drop, get_or}
use Rattle.counts.specs.Count.{largest, Counting}
use Rattle.counts.specs.CountRun.{CountRan, found, failed, count_run, count_at}
use Rattle.counts.specs.CountSigns.{Side, due, read}
use Rattle.counts.specs.declared.part.Number.{Number}
use Rattle.counts.specs.declared.part.Count.{Count}

-- the reading of a count from a place on, where this much was read of it
unfoldable pub count_run_from : List ℕ → ℕ → Counting → CountRan
count_run_from bytes at counting = count_run (drop at bytes) at counting

-- a digit stands at a place
pub record DigitAt (bytes : List ℕ) (at : ℕ) : Type 0 where
  pub inside : at < length bytes
  pub low : 48 ≤ get_or bytes at 0
  pub high : get_or bytes at 0 ≤ 57

-- its value
abbrev pub value_at : List ℕ → (at : ℕ) → ℕ
value_at bytes at = get_or bytes at 0 - 48

-- what the reader of a digit answers
abbrev pub DigitAnswer : (bytes : List ℕ) (at : ℕ) → Option ℕ → Type 0
DigitAnswer bytes at (Some value) = DigitAt bytes at × (value ≡ value_at bytes at)
DigitAnswer bytes at None = DigitAt bytes at → ⊥

-- the digits from `at` up to `place` are this number so far
pub record NumberSoFar (bytes : List ℕ) (at number place : ℕ) : Type 0 where
  pub on : (side : Side) → count_run_from bytes at (due side) ≡ count_run_from bytes place (read side number)
  pub small : number ≤ largest
  pub further : at < place
  pub within : place ≤ length bytes

-- a number is written from `at` up to `next`, and no digit follows it
pub record NumberHere (bytes : List ℕ) (at number next : ℕ) : Type 0 where
  pub so_far : NumberSoFar bytes at number next
  pub ended : DigitAt bytes next → ⊥

-- no number is written there, whichever of the two is due
pub record NoNumber (bytes : List ℕ) (at : ℕ) : Type 0 where
  pub fails : (side : Side) → count_run_from bytes at (due side) ≡ failed

-- what the reader of a number answers
abbrev pub NumberAnswer : (bytes : List ℕ) (at : ℕ) → Option Number → Type 0
NumberAnswer bytes at (Some number) = NumberHere bytes at number.value number.next
NumberAnswer bytes at None = NoNumber bytes at

-- a reading of a count finds one that ends at `next`
pub record CountHere (bytes : List ℕ) (at : ℕ) (ran : CountRan) (next fewest most : ℕ) : Type 0 where
  pub finds : ran ≡ found fewest most (drop next bytes) next
  pub further : at < next
  pub within : next ≤ length bytes
  pub ordered : fewest ≤ most
  pub some : 1 ≤ most
  pub few : most ≤ largest

-- it finds none
pub record CountLost (ran : CountRan) : Type 0 where
  pub fails : ran ≡ failed

-- what a reader of a count from `at` on answers, for the reading that it does
abbrev pub RanAnswer : (bytes : List ℕ) (at : ℕ) → CountRan → Option Count → Type 0
RanAnswer bytes at ran (Some count) = CountHere bytes at ran count.next count.fewest count.most
RanAnswer bytes at ran None = CountLost ran

-- what the reader of the count whose `{` stands at a place answers
abbrev pub CountAnswer : (bytes : List ℕ) (at : ℕ) → Option Count → Type 0
CountAnswer bytes at r = RanAnswer bytes at (count_at bytes at) r
