-- The measure of the recursion is the record's number: the records of the children come before their parent's.
use Rattle.tables.proofs.fill.+fill.Given as goal

abbrev pub decreases-fill : goal.decreases-fill
decreases-fill l = l.node
