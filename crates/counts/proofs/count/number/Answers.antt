-- `counts::count::number` meets its contract.
use native.Mathlib.Omega.{arith}
use Rattle.counts.specs.CountReadingLaws.{
  number_missing,
  number_begun,
  number_longer,
  number_after_zero,
  number_too_large,
}
use Rattle.counts.proofs.count.number.Goals as goal

pub returns-in_err-value : goal.returns-in_err-value
returns-in_err-value c =
    rw c.from_residual.ensures (number_missing c.requires c.in_err-value.ensures)

pub loop-more-init : goal.loop-more-init
loop-more-init c =
    let d = c.in_ok-value.ensures in rw d.1 (number_begun d.0)

pub returns-then-value-eq0 : goal.returns-then-value-eq0
returns-then-value-eq0 c =
    number_after_zero c.loop-more.invariant c.in-Some.ensures.0 (omega (arith, c.if-value-eq0.true))

pub returns-then-value-gt-LARGEST : goal.returns-then-value-gt-LARGEST
returns-then-value-gt-LARGEST c =
    let d = c.in-Some.ensures in
    number_too_large c.loop-more.invariant d.0 (omega (arith, c.if-value-eq0.false))
    (omega (arith, d.1, c.if-value-gt-LARGEST.true))

pub loop-more-preserved : goal.loop-more-preserved
loop-more-preserved c =
    let d = c.in-Some.ensures in
    rw d.1
    (number_longer c.loop-more.invariant d.0 (omega (arith, c.if-value-eq0.false))
    (omega (arith, d.1, c.if-value-gt-LARGEST.false)))
