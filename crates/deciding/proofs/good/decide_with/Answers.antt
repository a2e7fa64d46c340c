-- `deciding::good::decide_with` meets its contract: a list of another length is not good, and for the rest there is
-- room.
use Rattle.std.proofs.Common.{arith}
use Rattle.deciding.specs.DecideLaws.{not_by_length, not_by_size, counts_nothing}
use Rattle.deciding.proofs.good.decide_with.Goals as goal

pub returns-then-list-ne0 : goal.returns-then-list-ne0
returns-then-list-ne0 c =
    let judged = not_by_length c.args.list.now (λ whole. omega arith) in
    record { judged = judged; counts_below = counts_nothing c.args.list.now c.args.cuts.now judged }

pub returns-then-list-gt-MOST_RECORDS : goal.returns-then-list-gt-MOST_RECORDS
returns-then-list-gt-MOST_RECORDS c =
    let judged = not_by_size c.args.list.now c.if-list-gt-MOST_RECORDS.true in
    record { judged = judged; counts_below = counts_nothing c.args.list.now c.args.cuts.now judged }
