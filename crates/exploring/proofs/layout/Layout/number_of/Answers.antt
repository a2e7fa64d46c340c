-- `exploring::layout::Layout::number_of` meets its contract: the number is that of the first k words.
use mathlib.Core.Path.{sym}
use native.Mathlib.Omega.{arith}
use borrow.Author.Rules.{rules}
use Rattle.exploring.specs.KeysLaws.{number_none, number_next}
use Rattle.exploring.proofs.layout.Layout.number_of.Goals as goal

pub loop-k-init : goal.loop-k-init
loop-k-init c =
    (omega arith, sym (number_none _ _))

pub loop-k-preserved : goal.loop-k-preserved
loop-k-preserved c =
    (search rules, number_next _ _ _ c.loop-k.invariant.1)
