-- `planning::plan::plan` meets its contract: the root is the last record, and all pieces are made.
use Rattle.std.proofs.Common.{refl, arith}
use Rattle.planning.specs.Given.{has_records, total_of, making_none, prepared}
use Rattle.planning.proofs.plan.plan.Goals as goal

pub overflow_sub-last : goal.overflow_sub-last
overflow_sub-last c = omega (arith, has_records c.requires.decided_good)

pub overflow_cast-tables : goal.overflow_cast-tables
overflow_cast-tables c = omega (arith, has_records c.requires.decided_good)

pub pieces-requires-clause-making : goal.pieces-requires-clause-making
pieces-requires-clause-making c =
    rw c.new-tables.ensures (making_none c.requires.decided_good c.requires.roomy refl refl refl refl)

pub pieces-requires-clause-total : goal.pieces-requires-clause-total
pieces-requires-clause-total c = total_of c.requires.decided_good

pub returns : goal.returns
returns c = prepared c.pieces.ensures (total_of c.requires.decided_good)
