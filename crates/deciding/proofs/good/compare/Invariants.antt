-- `deciding::good::compare` meets its contract. The loop's invariant: the records before this one are those of the tree
-- with these labels. A record that differs is the reason for no.
use Rattle.deciding.specs.LabelsTaken.{Agrees}
use Rattle.deciding.proofs.good.compare.Given as goal

abbrev pub invariant-loop-i : goal.invariant-loop-i
invariant-loop-i l = Agrees l.labels l.list l.i
