-- What the reading of a count finds, its grammar reads: at every byte the reading's state says what was read from the
-- `{` up to there.
use Rattle.std.specs.Prelude.{ℕ, ◌+◌, ◌*◌, ◌≤◌, ◌≡◌, refl, Bool, true, false, cond, List, [], ◌∷◌, eqb, leb}
use Rattle.std.proofs.Common.{arith, leb-true}
use Rattle.std.proofs.lemmas.Bool.{eqb-false}
use Rattle.counts.specs.Count.{
  largest,
  CountSign,
  digit,
  comma,
  ending,
  other,
  count_sign,
  Counting,
  fewest_due,
  fewest_read,
  most_due,
  most_read,
  CountStep,
  goes_on,
  whole,
  faulty,
  may_follow,
  may_stand,
  fewest_due_step,
  fewest_step,
  most_due_step,
  most_step,
  count_step,
}
use Rattle.counts.specs.CountRun.{CountRan, found, failed, count_ran_on, count_run}
use Rattle.counts.specs.CountGrammar.{SpellsNumber, one_digit, more_digits, SpellsCount, from_to}
use Rattle.counts.specs.CountSigns.{CountMeans, count_sign_means}

-- what the state says of the bytes from after the `{` up to the rest
pub data CountSoFar (from : List ℕ) : List ℕ → Counting → Type 0 where
  at_opened : {rest : List ℕ} → from ≡ rest → CountSoFar from rest fewest_due
  at_fewest : {rest : List ℕ} {fewest : ℕ} → SpellsNumber from rest fewest
      → CountSoFar from rest (fewest_read fewest)
  at_comma : {rest : List ℕ} {fewest : ℕ} → SpellsNumber from (44 ∷ rest) fewest
      → CountSoFar from rest (most_due fewest)
  at_most : {between rest : List ℕ} {fewest most : ℕ} → SpellsNumber from (44 ∷ between) fewest
      → SpellsNumber between rest most → most ≤ largest → CountSoFar from rest (most_read fewest most)

-- what holds after one byte
abbrev pub AfterCountByte : List ℕ → List ℕ → CountStep → Type 0
AfterCountByte from rest (goes_on counting) = CountSoFar from rest counting
AfterCountByte from rest (whole fewest most) = SpellsCount from rest fewest most
AfterCountByte from rest faulty = Unit {0}

-- what a test that was passed says
pub record DigitFollows (number value : ℕ) : Type 0 where
  pub some : 1 ≤ number
  pub small : 10 * number + value ≤ largest

pub may_follow_says : (number value : ℕ) → may_follow number value ≡ true → DigitFollows number value
may_follow_says number value e = go (eqb number 0) refl e
  where
    go : (zero-before : Bool) → eqb number 0 ≡ zero-before
        → cond zero-before false (leb (10 * number + value) largest) ≡ true → DigitFollows number value
    go true f e = let z : ◌≡◌ {A = ℕ} 0 1 = cc in absurd (omega arith)
    go false f e =
        let apart = eqb-false number 0 f in
        record { some = omega arith; small = leb-true (10 * number + value) largest e }

pub record Stands (fewest most : ℕ) : Type 0 where
  pub some : 1 ≤ most
  pub ordered : fewest ≤ most

pub may_stand_says : (fewest most : ℕ) → may_stand fewest most ≡ true → Stands fewest most
may_stand_says fewest most e = go (eqb most 0) refl e
  where
    go : (none : Bool) → eqb most 0 ≡ none → cond none false (leb fewest most) ≡ true → Stands fewest most
    go true f e = let z : ◌≡◌ {A = ℕ} 0 1 = cc in absurd (omega arith)
    go false f e =
        let apart = eqb-false most 0 f in record { some = omega arith; ordered = leb-true fewest most e }

module _ (from rest : List ℕ) where
  picked_kept : (test : Bool) (s : CountStep) → (test ≡ true → AfterCountByte from rest s)
      → AfterCountByte from rest (cond test s faulty)
  picked_kept true s p = p refl
  picked_kept false s p = tt

  -- where the first number is due
  due_kept : (s : CountSign) (b : ℕ) → CountMeans b s → from ≡ b ∷ rest
      → AfterCountByte from rest (fewest_due_step s)
  due_kept (digit value) b m e = at_fewest {rest = rest} {fewest = value} (rw e (one_digit m))
  due_kept comma b m e = tt
  due_kept ending b m e = tt
  due_kept other b m e = tt

  -- in the first number
  fewest_kept : (s : CountSign) (b fewest : ℕ) → CountMeans b s → SpellsNumber from (b ∷ rest) fewest
      → AfterCountByte from rest (fewest_step s fewest)
  fewest_kept (digit value) b fewest m r =
      picked_kept (may_follow fewest value) _
      (λ e. at_fewest (more_digits r (may_follow_says fewest value e).some m))
  fewest_kept comma b fewest m r = at_comma (rw m at r)
  fewest_kept ending b fewest m r = tt
  fewest_kept other b fewest m r = tt

  -- where the second number is due
  most_due_kept : (s : CountSign) (b fewest : ℕ) → CountMeans b s → SpellsNumber from (44 ∷ b ∷ rest) fewest
      → AfterCountByte from rest (most_due_step s fewest)
  most_due_kept (digit value) b fewest m r = at_most r (one_digit m) (omega arith)
  most_due_kept comma b fewest m r = tt
  most_due_kept ending b fewest m r = tt
  most_due_kept other b fewest m r = tt

  -- in the second number
  most_kept : {between : List ℕ} (s : CountSign) (b fewest most : ℕ) → CountMeans b s
      → SpellsNumber from (44 ∷ between) fewest → SpellsNumber between (b ∷ rest) most → most ≤ largest
      → AfterCountByte from rest (most_step s fewest most)
  most_kept (digit value) b fewest most m r q h =
      picked_kept (may_follow most value) _
      (λ e. let f = may_follow_says most value e in at_most r (more_digits q f.some m) f.small)
  most_kept comma b fewest most m r q h = tt
  most_kept ending b fewest most m r q h =
      picked_kept (may_stand fewest most) (whole fewest most)
      (λ e. let f = may_stand_says fewest most e in from_to r (rw m at q) f.ordered f.some h)
  most_kept other b fewest most m r q h = tt

  -- in each state
  pub step_kept : (b : ℕ) (counting : Counting) → CountSoFar from (b ∷ rest) counting
      → AfterCountByte from rest (count_step b counting)
  step_kept b fewest_due (at_opened e) = due_kept (count_sign b) b (count_sign_means b) e
  step_kept b (fewest_read fewest) (at_fewest r) = fewest_kept (count_sign b) b fewest (count_sign_means b) r
  step_kept b (most_due fewest) (at_comma r) = most_due_kept (count_sign b) b fewest (count_sign_means b) r
  step_kept b (most_read fewest most) (at_most r q h) =
      most_kept (count_sign b) b fewest most (count_sign_means b) r q h

-- what a count was read to be, its grammar reads
abbrev CountSpelled : List ℕ → CountRan → Type 0
CountSpelled from (found fewest most rest next) = SpellsCount from rest fewest most
CountSpelled from failed = Unit {0}

-- by induction on the bytes that are left
pub run_spelled : (from bytes : List ℕ) (place : ℕ) (counting : Counting) → CountSoFar from bytes counting
    → CountSpelled from (count_run bytes place counting)
unfolding count_run
run_spelled from [] place counting s = tt
run_spelled from (b ∷ rest) place counting s =
    go (count_step b counting) (step_kept from rest b counting s) (run_spelled from rest (place + 1))
  where
    go : (step : CountStep) → AfterCountByte from rest step
        → ((counting : Counting) → CountSoFar from rest counting
        → CountSpelled from (count_run rest (place + 1) counting))
        → CountSpelled from (count_ran_on step rest (place + 1) (count_run rest (place + 1)))
    go (goes_on counting) s on = on counting s
    go (whole fewest most) s on = s
    go faulty s on = tt

-- the count that is found right after a `{` is written there
pub count_spelled : (bytes rest : List ℕ) (place next fewest most : ℕ)
    → count_run bytes place fewest_due ≡ found fewest most rest next → SpellsCount bytes rest fewest most
count_spelled bytes rest place next fewest most e =
    rw e at (run_spelled bytes bytes place fewest_due (at_opened refl))
