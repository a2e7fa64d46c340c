-- `sweeping::sweep::apart` meets its contract: words whose common bits are none have no bit in common.
use borrow.Author.Tests.{eqb-true}
use Rattle.closing.specs.BitsOfWords.Bits.{none_common}
use Rattle.sweeping.proofs.sweep.apart.Goals as goal

pub returns : goal.returns
returns c =
    λ e. none_common _ _ (eqb-true _ _ e)
