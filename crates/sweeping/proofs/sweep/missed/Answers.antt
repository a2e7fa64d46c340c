-- `sweeping::sweep::missed` meets its contract: the bit is set where the other's is not.
use mathlib.Core.Path.{sym, subst}
use Rattle.sweeping.specs.Swept.{Missed}
use Rattle.sweeping.specs.Passing.{missed_with}
use Rattle.sweeping.proofs.sweep.missed.Goals as goal

pub returns-then-has_bit : goal.returns-then-has_bit
returns-then-has_bit c =
    record { all = λ j b. b; one = λ none. absurd (none (c.has_bit.ensures.holds c.if-has_bit.true)) }

pub returns-else-has_bit : goal.returns-else-has_bit
returns-else-has_bit c =
    let s = c.args in
    subst (Missed s.other s.i s.word) (sym c.with_bit.ensures) (missed_with s.other s.i s.word)
