-- The scanner inside a count does what the reading of the count does.
use Rattle.std.specs.Prelude.{ℕ, ◌+◌, ◌≡◌}
use Rattle.std.proofs.Math.Path.{refl}
use mathlib.Core.List.{List, [], ◌∷◌}
use Rattle.language.specs.SignedTree.{SignedTree, counted}
use Rattle.tree.specs.RefusalNumbers.{count_faulty}
use Rattle.counts.specs.Count.{Counting, CountStep, goes_on, whole, faulty, count_step}
use Rattle.counts.specs.CountRun.{CountRan, found, failed, count_ran_on, count_run}
use Rattle.operands.specs.Bytes.{Syntax}
use Rattle.operands.specs.Scanner.{Atom, Outcome, refused, in_count, after, Before, Group, recounted, scan}

module _ (syntax : Syntax) (begin : ℕ) (t : SignedTree Atom) (before : Before) (groups : List Group) where
  -- how the scan goes on after the count of t whose `{` stands at `begin`
  abbrev pub after_count : CountRan → Outcome (SignedTree Atom)
  after_count (found fewest most rest next) = scan syntax rest next (after (counted begin fewest most t)) before groups
  after_count failed = refused count_faulty begin

  after_step : (step : CountStep) (rest : List ℕ) (next : ℕ)
      → ((counting : Counting) → scan syntax rest next (in_count begin t counting) before groups
      ≡ after_count (count_run rest next counting))
      → recounted step begin t (scan syntax rest next) before groups
      ≡ after_count (count_ran_on step rest next (count_run rest next))
  after_step (goes_on counting) rest next on = on counting
  after_step (whole fewest most) rest next on = refl
  after_step faulty rest next on = refl

  -- by induction on the bytes that are left
  pub scan_count : (bytes : List ℕ) (place : ℕ) (counting : Counting)
      → scan syntax bytes place (in_count begin t counting) before groups
      ≡ after_count (count_run bytes place counting)
  unfolding scan count_run
  scan_count [] place counting = refl
  scan_count (b ∷ rest) place counting =
      after_step (count_step b counting) rest (place + 1) (scan_count rest (place + 1))
