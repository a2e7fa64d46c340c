-- `counts::count::count` meets its contract: the reading from the `{` on finds the count, or fails where it does.
use Rattle.counts.specs.CountReadingLaws.{fewest_missing, fewest_alone, then_most}
use Rattle.counts.proofs.count.count.Goals as goal

pub returns-in_err-value : goal.returns-in_err-value
returns-in_err-value c =
    rw c.from_residual.ensures (fewest_missing c.args.at c.in_err-value.ensures)

pub returns-then-not-stands_at : goal.returns-then-not-stands_at
returns-then-not-stands_at c =
    fewest_alone c.args.at c.in_ok-value.ensures
    (c.stands_at.ensures.if_not c.if-not-stands_at.true)

pub returns : goal.returns
returns c =
    then_most c.args.at c.in_ok-value.ensures (c.stands_at.ensures.if_so c.if-not-stands_at.false)
    c.most.result c.most.ensures
