-- The scanner inside a class does what the reading of the class does.
use Rattle.std.specs.Prelude.{ℕ, ◌+◌, ◌≡◌}
use Rattle.std.proofs.Math.Path.{refl}
use mathlib.Core.List.{List, [], ◌∷◌}
use Rattle.language.specs.SignedTree.{SignedTree, leaf}
use Rattle.tree.specs.RefusalNumbers.{class_faulty}
use Rattle.operands.specs.Bytes.{Syntax}
use Rattle.classes.specs.Class.{Class, Inside, ClassStep, goes_on, whole, faulty, class_step}
use Rattle.operands.specs.Scanner.{Atom, one_of, Outcome, refused, in_class, after, Before, Group, classed, scan}
use Rattle.classes.specs.ClassRun.{ClassRan, found, failed, class_ran_on, class_run}

module _ (syntax : Syntax) (begin : ℕ) (before : Before) (groups : List Group) where
  -- how the scan goes on after a class whose `[` stands at `begin`
  abbrev pub after_class : ClassRan → Outcome (SignedTree Atom)
  after_class (found class rest next) = scan syntax rest next (after (leaf begin (one_of class))) before groups
  after_class failed = refused class_faulty begin

  after_step : (step : ClassStep) (rest : List ℕ) (next : ℕ)
      → ((class : Class) (inside : Inside) → scan syntax rest next (in_class begin class inside) before groups
      ≡ after_class (class_run rest next class inside))
      → classed step begin (scan syntax rest next) before groups
      ≡ after_class (class_ran_on step rest next (class_run rest next))
  after_step (goes_on class inside) rest next on = on class inside
  after_step (whole class) rest next on = refl
  after_step faulty rest next on = refl

  -- by induction on the bytes that are left
  pub scan_class : (bytes : List ℕ) (place : ℕ) (class : Class) (inside : Inside)
      → scan syntax bytes place (in_class begin class inside) before groups
      ≡ after_class (class_run bytes place class inside)
  unfolding scan class_run
  scan_class [] place class inside = refl
  scan_class (b ∷ rest) place class inside =
      after_step (class_step b class inside) rest (place + 1) (scan_class rest (place + 1))
