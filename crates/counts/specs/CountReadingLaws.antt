-- How the reading of a count goes on at a digit, at the comma, at the `}` and at everything else.
use Rattle.std.specs.Prelude.{ℕ, ◌+◌, ◌*◌, ◌≤◌, ◌<◌, ◌≡◌, refl, true, false, List, [], ◌∷◌, Option, Some, None, length, drop, get_or}
use Rattle.std.proofs.Common.{◌∙◌, arith, add-one, drop-cons, ne_eqb, eq-eqb}
use Rattle.std.proofs.Math.Decide.{dec_lt}
use Rattle.std.proofs.Math.Seq.{drop-length}
use Rattle.std.proofs.lemmas.Bool.{lt-leb}
use Rattle.counts.specs.Count.{largest, CountSign, digit, comma, ending, other, count_sign, Counting, fewest_read, most_due, most_read, goes_on, faulty, may_follow, may_stand, fewest_step, most_step, count_step}
use Rattle.counts.specs.CountRun.{CountRan, found, failed, count_ran_on, count_run, count_at}
use Rattle.counts.specs.CountGrammar.{IsDigit}
use Rattle.counts.specs.CountSigns.{
  CountMeans,
  count_sign_means,
  Side,
  first,
  second,
  due,
  read,
  digit_due,
  none_due,
  follows,
  digit_more,
  digit_fails,
}
use Rattle.counts.specs.CountComplete.{stands}
use Rattle.counts.specs.CountReading.{count_run_from, DigitAt, value_at, NumberSoFar, NumberHere, NoNumber, CountHere, CountLost, RanAnswer, CountAnswer}
use Rattle.counts.specs.declared.part.Count.{Count}

-- at the end, or before a byte, the list that is left
left_at_end : (bytes : List ℕ) (at : ℕ) → at ≡ length bytes → drop at bytes ≡ []
left_at_end bytes at e = rw (e, drop-length)

left_at : (bytes : List ℕ) (at : ℕ) → at < length bytes → drop at bytes ≡ get_or bytes at 0 ∷ drop (at + 1) bytes
left_at bytes at h = rw add-one (drop-cons bytes at 0 h)

-- the end inside a count is a fault
pub runs_out : (bytes : List ℕ) (at : ℕ) (counting : Counting) → at ≡ length bytes
    → count_run_from bytes at counting ≡ failed
unfolding count_run_from count_run
runs_out bytes at counting e = rw (left_at_end bytes at e)

-- one byte
pub one_step : (bytes : List ℕ) (at : ℕ) (counting : Counting) → at < length bytes → count_run_from bytes at counting
    ≡ count_ran_on (count_step (get_or bytes at 0) counting) (drop (at + 1) bytes) (at + 1)
    (count_run_from bytes (at + 1))
unfolding count_run_from count_run
one_step bytes at counting h = rw (left_at bytes at h)

-- by which the reading goes on, or fails
pub steps_on : (bytes : List ℕ) (at : ℕ) (counting later : Counting) → at < length bytes
    → count_step (get_or bytes at 0) counting ≡ goes_on later
    → count_run_from bytes at counting ≡ count_run_from bytes (at + 1) later
steps_on bytes at counting later h e = one_step bytes at counting h ∙ rw e

pub steps_wrong : (bytes : List ℕ) (at : ℕ) (counting : Counting) → at < length bytes
    → count_step (get_or bytes at 0) counting ≡ faulty → count_run_from bytes at counting ≡ failed
steps_wrong bytes at counting h e = one_step bytes at counting h ∙ rw e

-- a digit that stands at a place
digit_here : {bytes : List ℕ} {at : ℕ} → DigitAt bytes at → IsDigit (get_or bytes at 0) (value_at bytes at)
digit_here d = record { same = omega (arith, d.low); small = omega (arith, d.low, d.high) }

-- a byte that is a digit stands for one there
here_digit : {bytes : List ℕ} {at value : ℕ} → at < length bytes → IsDigit (get_or bytes at 0) value → DigitAt bytes at
here_digit h d =
    record {
      inside = h;
      low = omega (arith, d.same);
      high = omega (arith, d.same, d.small);
    }

-- no digit may follow a 0, nor one that makes the number too large
none_after_zero : (number value : ℕ) → number ≡ 0 → may_follow number value ≡ false
none_after_zero number value e = rw (eq-eqb number 0 e)

none_too_large : (number value : ℕ) → 1 ≤ number → largest < 10 * number + value → may_follow number value ≡ false
none_too_large number value some h = rw (ne_eqb number 0 (λ e. omega arith), lt-leb (10 * number + value) largest h)

module _ {bytes : List ℕ} {at : ℕ} where
  -- no digit, no number
  pub number_missing : at ≤ length bytes → (DigitAt bytes at → ⊥) → NoNumber bytes at
  number_missing h no_digit = record { fails = λ side. go side (dec_lt at (length bytes)) }
    where
      go : (side : Side) → Dec (at < length bytes) → count_run_from bytes at (due side) ≡ failed
      go side (yes k) =
          steps_wrong bytes at (due side) k
          (none_due side (get_or bytes at 0) (λ value d. no_digit (here_digit {bytes = bytes} {at = at} k d)))
      go side (no k) = runs_out bytes at (due side) (omega arith)

  -- its first digit
  pub number_begun : DigitAt bytes at → NumberSoFar bytes at (value_at bytes at) (at + 1)
  number_begun d =
      record {
        on = λ side. steps_on bytes at (due side) (read side (value_at bytes at)) d.inside
            (digit_due side (get_or bytes at 0) (value_at bytes at) (digit_here d));
        small = omega (arith, d.low, d.high);
        further = omega arith;
        within = omega (arith, d.inside);
      }

  module _ {number place : ℕ} (s : NumberSoFar bytes at number place) (d : DigitAt bytes place) where
    -- one more digit
    pub number_longer : 1 ≤ number → 10 * number + value_at bytes place ≤ largest
        → NumberSoFar bytes at (10 * number + value_at bytes place) (place + 1)
    number_longer some few =
        record {
          on = λ side. s.on side ∙ steps_on bytes place (read side number)
              (read side (10 * number + value_at bytes place)) d.inside
              (digit_more side (get_or bytes place 0) (value_at bytes place) number (digit_here d)
              (follows number (value_at bytes place) some few));
          small = few;
          further = omega (arith, s.further);
          within = omega (arith, d.inside);
        }

    -- one that may not follow
    number_broken : may_follow number (value_at bytes place) ≡ false → NoNumber bytes at
    number_broken e =
        record {
          fails = λ side. s.on side ∙ steps_wrong bytes place (read side number) d.inside
              (digit_fails side (get_or bytes place 0) (value_at bytes place) number (digit_here d) e);
        }

    pub number_after_zero : number ≡ 0 → NoNumber bytes at
    number_after_zero e = number_broken (none_after_zero number (value_at bytes place) e)

    pub number_too_large : 1 ≤ number → largest < 10 * number + value_at bytes place → NoNumber bytes at
    number_too_large some h = number_broken (none_too_large number (value_at bytes place) some h)

-- after the first number: the comma, or a fault
pub comma_passes : (bytes : List ℕ) (at fewest : ℕ) → at < length bytes → get_or bytes at 0 ≡ 44
    → count_run_from bytes at (fewest_read fewest) ≡ count_run_from bytes (at + 1) (most_due fewest)
comma_passes bytes at fewest h e = steps_on bytes at (fewest_read fewest) (most_due fewest) h (rw e)

comma_missing : (bytes : List ℕ) (at fewest : ℕ) → at ≤ length bytes → (DigitAt bytes at → ⊥)
    → ((at < length bytes) × (get_or bytes at 0 ≡ 44) → ⊥) → count_run_from bytes at (fewest_read fewest) ≡ failed
comma_missing bytes at fewest h no_digit no-comma = go (dec_lt at (length bytes))
  where
    wrong : (s : CountSign) → at < length bytes → CountMeans (get_or bytes at 0) s → fewest_step s fewest ≡ faulty
    wrong (digit value) k m = absurd (no_digit (here_digit {bytes = bytes} {at = at} k m))
    wrong comma k m = absurd (no-comma (k, m))
    wrong ending k m = refl
    wrong other k m = refl

    go : Dec (at < length bytes) → count_run_from bytes at (fewest_read fewest) ≡ failed
    go (yes k) =
        steps_wrong bytes at (fewest_read fewest) k
        (wrong (count_sign (get_or bytes at 0)) k (count_sign_means (get_or bytes at 0)))
    go (no k) = runs_out bytes at (fewest_read fewest) (omega arith)

-- after the second number: the `}`, or a fault
ending_missing : (bytes : List ℕ) (at fewest most : ℕ) → at ≤ length bytes → (DigitAt bytes at → ⊥)
    → ((at < length bytes) × (get_or bytes at 0 ≡ 125) → ⊥) → count_run_from bytes at (most_read fewest most) ≡ failed
ending_missing bytes at fewest most h no_digit no-ending = go (dec_lt at (length bytes))
  where
    wrong : (s : CountSign) → at < length bytes → CountMeans (get_or bytes at 0) s → most_step s fewest most ≡ faulty
    wrong (digit value) k m = absurd (no_digit (here_digit {bytes = bytes} {at = at} k m))
    wrong comma k m = refl
    wrong ending k m = absurd (no-ending (k, m))
    wrong other k m = refl

    go : Dec (at < length bytes) → count_run_from bytes at (most_read fewest most) ≡ failed
    go (yes k) =
        steps_wrong bytes at (most_read fewest most) k
        (wrong (count_sign (get_or bytes at 0)) k (count_sign_means (get_or bytes at 0)))
    go (no k) = runs_out bytes at (most_read fewest most) (omega arith)

-- two numbers that may not stand in a count
none_of_zero : (fewest most : ℕ) → most ≡ 0 → may_stand fewest most ≡ false
none_of_zero fewest most e = rw (eq-eqb most 0 e)

none_reversed : (fewest most : ℕ) → 1 ≤ most → most < fewest → may_stand fewest most ≡ false
none_reversed fewest most some h = rw (ne_eqb most 0 (λ e. omega arith), lt-leb fewest most h)

ending_wrong : (bytes : List ℕ) (at fewest most : ℕ) → at < length bytes → get_or bytes at 0 ≡ 125
    → may_stand fewest most ≡ false → count_run_from bytes at (most_read fewest most) ≡ failed
ending_wrong bytes at fewest most h e f = steps_wrong bytes at (most_read fewest most) h (rw (e, f))

ending_right : (bytes : List ℕ) (at fewest most : ℕ) → at < length bytes → get_or bytes at 0 ≡ 125
    → may_stand fewest most ≡ true → count_run_from bytes at (most_read fewest most)
    ≡ found fewest most (drop (at + 1) bytes) (at + 1)
ending_right bytes at fewest most h e f = one_step bytes at (most_read fewest most) h ∙ rw (e, f)

-- the second number of a count, up to the `}`
module _ {bytes : List ℕ} {at : ℕ} (fewest : ℕ) where
  pub most_missing : NoNumber bytes at → CountLost (count_run_from bytes at (most_due fewest))
  most_missing bad = record { fails = bad.fails (second fewest) }

  module _ {most next : ℕ} (s : NumberHere bytes at most next) where
    pub most_unclosed : ((next < length bytes) × (get_or bytes next 0 ≡ 125) → ⊥)
        → CountLost (count_run_from bytes at (most_due fewest))
    most_unclosed no-ending =
        record {
          fails = s.so_far.on (second fewest)
              ∙ ending_missing bytes next fewest most s.so_far.within s.ended no-ending;
        }

    module _ (closed : (next < length bytes) × (get_or bytes next 0 ≡ 125)) where
      pub most_zero : most ≡ 0 → CountLost (count_run_from bytes at (most_due fewest))
      most_zero e =
          record {
            fails = s.so_far.on (second fewest)
                ∙ ending_wrong bytes next fewest most closed.0 closed.1 (none_of_zero fewest most e);
          }

      pub most_below : 1 ≤ most → most < fewest → CountLost (count_run_from bytes at (most_due fewest))
      most_below some h =
          record {
            fails = s.so_far.on (second fewest)
                ∙ ending_wrong bytes next fewest most closed.0 closed.1 (none_reversed fewest most some h);
          }

      pub most_found : 1 ≤ most → fewest ≤ most
          → CountHere bytes at (count_run_from bytes at (most_due fewest)) (next + 1) fewest most
      most_found some ordered =
          record {
            finds = s.so_far.on (second fewest)
                ∙ ending_right bytes next fewest most closed.0 closed.1 (stands fewest most ordered some);
            further = omega (arith, s.so_far.further);
            within = omega (arith, closed.0);
            ordered = ordered;
            some = some;
            few = s.so_far.small;
          }

-- an answer about one reading is one about another that is the same
ran_answer_of : (bytes : List ℕ) (at earlier : ℕ) (ran same : CountRan) (r : Option Count) → same ≡ ran → earlier ≤ at
    → RanAnswer bytes at ran r → RanAnswer bytes earlier same r
ran_answer_of bytes at earlier ran same (Some count) e h a =
    record {
      finds = e ∙ a.finds;
      further = omega (arith, a.further);
      within = a.within;
      ordered = a.ordered;
      some = a.some;
      few = a.few;
    }
ran_answer_of bytes at earlier ran same None e h a = record { fails = e ∙ a.fails }

-- the reading from after a `{` is that of the first number
from_brace : (bytes : List ℕ) (at : ℕ) → count_at bytes at ≡ count_run_from bytes (at + 1) (due first)
unfolding count_at count_run_from
from_brace bytes at = refl

-- the whole count
module _ {bytes : List ℕ} (at : ℕ) where
  pub fewest_missing : NoNumber bytes (at + 1) → CountLost (count_at bytes at)
  fewest_missing bad = record { fails = from_brace bytes at ∙ bad.fails first }

  module _ {fewest next : ℕ} (s : NumberHere bytes (at + 1) fewest next) where
    pub fewest_alone : ((next < length bytes) × (get_or bytes next 0 ≡ 44) → ⊥) → CountLost (count_at bytes at)
    fewest_alone no-comma =
        record {
          fails = from_brace bytes at ∙ s.so_far.on first
              ∙ comma_missing bytes next fewest s.so_far.within s.ended no-comma;
        }

    pub then_most : (next < length bytes) × (get_or bytes next 0 ≡ 44) → (r : Option Count)
        → RanAnswer bytes (next + 1) (count_run_from bytes (next + 1) (most_due fewest)) r → CountAnswer bytes at r
    then_most here r a =
        ran_answer_of bytes (next + 1) at _ (count_at bytes at) r
        (from_brace bytes at ∙ s.so_far.on first ∙ comma_passes bytes next fewest here.0 here.1)
        (omega (arith, s.so_far.further)) a
