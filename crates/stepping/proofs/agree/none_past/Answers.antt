-- `stepping::agree::none_past` meets its contract: nothing is left of a word shifted past its last bit.
use borrow.Author.Tests.{eqb-true, eqb-false}
use native.Mathlib.Nat.{le_refl}
use Rattle.closing.specs.BitsOfWords.Bits.{below_of_nothing, nothing_left}
use Rattle.stepping.proofs.agree.none_past.Goals as goal

pub returns : goal.returns
returns c =
    record {
      holds = λ e. below_of_nothing _ _ (eqb-true _ _ e);
      fails = λ e h. eqb-false _ _ e (nothing_left h (le_refl _));
    }
