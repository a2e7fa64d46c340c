-- `counts::count::most` meets its contract: the reading from the comma on finds the count, or fails where it does.
use native.Mathlib.Omega.{arith}
use Rattle.counts.specs.CountReadingLaws.{most_missing, most_unclosed, most_zero, most_below, most_found}
use Rattle.counts.proofs.count.most.Goals as goal
use Rattle.counts.proofs.count.most.Goals.{
  then-not-stands_at-via-then-not-stands_at,
  then-not-stands_at-via-else-not-stands_at+then-value-eq0,
  then-not-stands_at-via-else-not-stands_at+else-value-eq0+then-value-fewest,
}

pub returns-in_err-value : goal.returns-in_err-value
returns-in_err-value c =
    rw c.from_residual.ensures (most_missing c.args.fewest c.in_err-value.ensures)

-- no `}`, a second number that is 0, or one below the first
pub returns-then-not-stands_at : goal.returns-then-not-stands_at
returns-then-not-stands_at c =
    let read = c.in_ok-value.ensures in
    let ending = c.stands_at.ensures in
    elim c.then-not-stands_at.branch [
      | then-not-stands_at-via-then-not-stands_at w ↦ most_unclosed c.args.fewest read
          (ending.if_not w.if-not-stands_at.true)
      | then-not-stands_at-via-else-not-stands_at+then-value-eq0 w ↦ most_zero c.args.fewest read
          (ending.if_so w.if-not-stands_at.false) (omega (arith, w.if-value-eq0.true))
      | then-not-stands_at-via-else-not-stands_at+else-value-eq0+then-value-fewest w ↦ most_below c.args.fewest read
          (ending.if_so w.if-not-stands_at.false)
          (omega (arith, w.if-value-eq0.false)) (omega (arith, w.if-value-fewest.true))
    ]

pub returns : goal.returns
returns c =
    most_found c.args.fewest c.in_ok-value.ensures (c.stands_at.ensures.if_so c.if-not-stands_at.false)
    (omega (arith, c.if-value-eq0.false)) (omega (arith, c.if-value-fewest.false))
