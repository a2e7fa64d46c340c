-- `planning::plan::pieces` meets its contract. The invariant: the pieces up to k have been made.
use Rattle.planning.specs.Making.{Making}
use Rattle.planning.proofs.plan.pieces.Given as goal

abbrev pub invariant-loop-k : goal.invariant-loop-k
invariant-loop-k l = Making l.list l.cuts l.k l.tables l.rows
