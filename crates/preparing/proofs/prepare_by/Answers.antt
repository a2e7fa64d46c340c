-- `preparing::prepare_by` meets its contract: a list that is decided to be good has room in the rows, and they are
-- made.
use Rattle.preparing.specs.Made.{told_good}
use Rattle.preparing.proofs.prepare_by.Goals as goal

pub prepare-requires-clause-decided_good : goal.prepare-requires-clause-decided_good
prepare-requires-clause-decided_good c =
    told_good c.in_ok-counts.counts c.in_ok-counts.ensures.judged c.in_ok-counts.ensures.counts_below
    c.requires.room_to_decide c.decide_with.auto.cuts
