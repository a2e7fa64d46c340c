-- What the grammar of a count reads, the reading of a count finds.
use Rattle.std.specs.Prelude.{ℕ, ◌+◌, ◌≤◌, ◌<◌, ◌≡◌, true, List, length}
use Rattle.std.proofs.Common.{◌∙◌, arith, le-leb, ne_eqb}
use Rattle.counts.specs.Count.{largest, Counting, fewest_due, may_stand}
use Rattle.counts.specs.CountRun.{found, count_run}
use Rattle.counts.specs.CountGrammar.{SpellsNumber, one_digit, more_digits, SpellsCount, from_to}
use Rattle.counts.specs.CountSigns.{Side, first, second, due, read, digit_due, follows, digit_more}

-- the reading goes on over these bytes, up to the place that many bytes further
pub record CountRunsOn (bytes rest : List ℕ) (place : ℕ) (counting later : Counting) : Type 0 where
  pub next : ℕ
  pub counted : next + length rest ≡ place + length bytes
  pub same : count_run bytes place counting ≡ count_run rest next later

-- a number that is not too large
pub number_passes : {bytes rest : List ℕ} {number : ℕ} → SpellsNumber bytes rest number → (side : Side) (place : ℕ)
    → number ≤ largest → CountRunsOn bytes rest place (due side) (read side number)
unfolding count_run
number_passes (one_digit {b} {value} d) side place h =
    record { next = place + 1; counted = omega arith; same = rw (digit_due side b value d) }
number_passes (more_digits {b = b} {value = value} {before = before} r some d) side place h =
    let on = number_passes r side place (omega arith) in
    record {
      next = on.next + 1;
      counted = omega (arith, on.counted);
      same = on.same ∙ rw (digit_more side b value before d (follows before value some h));
    }

-- the two numbers may stand in a count
pub stands : (fewest most : ℕ) → fewest ≤ most → 1 ≤ most → may_stand fewest most ≡ true
stands fewest most h k = rw (ne_eqb most 0 (λ e. omega arith), le-leb fewest most h)

-- the reading finds the count
pub record FindsCount (bytes rest : List ℕ) (place fewest most : ℕ) : Type 0 where
  pub next : ℕ
  pub counted : next + length rest ≡ place + length bytes
  pub same : count_run bytes place fewest_due ≡ found fewest most rest next

pub count_found : {bytes rest : List ℕ} {fewest most : ℕ} → SpellsCount bytes rest fewest most → (place : ℕ)
    → FindsCount bytes rest place fewest most
unfolding count_run
count_found (from_to {fewest = fewest} {most = most} r q ordered some few) place =
    let on = number_passes r first place (omega arith) in
    let off = number_passes q (second fewest) (on.next + 1) few in
    record {
      next = off.next + 1;
      counted = omega (arith, on.counted, off.counted);
      same = on.same ∙ off.same ∙ rw (stands fewest most ordered some);
    }

-- a number is one byte at least, and so a count is not empty
number_shorter : {bytes rest : List ℕ} {number : ℕ} → SpellsNumber bytes rest number → length rest < length bytes
number_shorter (one_digit d) = omega arith
number_shorter (more_digits r some d) = let h = number_shorter r in omega arith

pub count_shorter : {bytes rest : List ℕ} {fewest most : ℕ} → SpellsCount bytes rest fewest most
    → length rest < length bytes
count_shorter (from_to r q ordered some few) = let h = number_shorter r in let k = number_shorter q in omega arith

-- the bounds of its numbers
pub record CountBounds (fewest most : ℕ) : Type 0 where
  pub ordered : fewest ≤ most
  pub some : 1 ≤ most
  pub few : most ≤ largest

pub count_bounds : {bytes rest : List ℕ} {fewest most : ℕ} → SpellsCount bytes rest fewest most
    → CountBounds fewest most
count_bounds (from_to r q ordered some few) = record { ordered = ordered; some = some; few = few }
