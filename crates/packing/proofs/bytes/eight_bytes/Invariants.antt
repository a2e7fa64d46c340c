-- `packing::bytes::eight_bytes` meets its contract. The loop's invariant: the word has the bytes of the states from the
-- last one down to those that are left.
use Rattle.packing.specs.StateBytes.{BytesPast}
use Rattle.packing.proofs.bytes.eight_bytes.Given as goal

abbrev pub invariant-loop-place : goal.invariant-loop-place
invariant-loop-place l = BytesPast l.codes l.first l.place l.word
