-- `measuring::measure::piece_count` meets its contract: the root's slot holds the cut edges of the whole tree.
use Rattle.cutting.specs.MeasuredLaws.{counted_all}
use Rattle.measuring.proofs.measure.piece_count.Goals as goal

pub returns-clause-counts_pieces : goal.returns-clause-counts_pieces
returns-clause-counts_pieces c =
    rw c.from.ensures (counted_all c.args.labels.now c.measure.new.sizes c.measure.new.opens c.measure.new.cuts
    c.measure.ensures)
