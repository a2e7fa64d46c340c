-- `lists::write::write_all` meets its contract. The loop's invariant: the first `i` records are written, and nothing
-- past them. A turn puts in record `i`, whose four numbers the label, the children's slots and the piece give.
use Rattle.lists.specs.Recording.{WrittenSoFar}
use Rattle.lists.proofs.write.write_all.Given as goal

abbrev pub invariant-loop-i : goal.invariant-loop-i
invariant-loop-i l = WrittenSoFar l.labels l.initial.out l.out l.i
