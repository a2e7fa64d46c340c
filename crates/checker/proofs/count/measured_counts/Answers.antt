-- `checker::count::measured_counts` meets its contract: each answer is that of the tree that the labels are of.
use Rattle.checker.specs.Counted.{counted_few}
use Rattle.checker.proofs.count.measured_counts.Goals as goal

pub returns-clause-counted : goal.returns-clause-counted
returns-clause-counted c =
    counted_few c.args.labels.now c.piece_count-pieces.result c.piece_count-pieces.ensures.counts_pieces.count
    c.if-pieces-gt-MOST_PIECES.false c.class_count.result c.class_count.ensures
