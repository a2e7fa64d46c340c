-- `lists::hand::hand_down` meets its contract. The loop's invariant: the records from `i` on have handed their numbers
-- to their children. A turn hands on those of record `i - 1`, which its own slot holds; that a tree has these labels
-- bounds them all.
use Rattle.lists.specs.Handed.{Handed}
use Rattle.lists.proofs.hand.hand_down.Given as goal

abbrev pub invariant-loop-i : goal.invariant-loop-i
invariant-loop-i l = Handed l.labels l.pieces l.news l.i
