-- `planning::plan::pieces` meets its contract, by one piece more.
use Rattle.std.proofs.Common.{arith}
use Rattle.planning.specs.Making.{total_inside, making_more, making_at}
use Rattle.planning.proofs.plan.pieces.Goals as goal

pub piece-requires-clause-piece_number : goal.piece-requires-clause-piece_number
piece-requires-clause-piece_number c = total_inside c.requires.total (omega arith)

pub loop-k-preserved : goal.loop-k-preserved
loop-k-preserved c =
    making_more c.loop-k.invariant c.piece.ensures.same_lengths c.piece.auto.rows c.piece.ensures.made

pub returns : goal.returns
returns c = making_at c.loop-k.invariant (omega arith)
