-- `packing::bytes::note_bytes` meets its contract. The loop's invariant: the words so far have the bytes of their
-- states.
use Rattle.closing.specs.BitsOfWords.MadeAnew.{MadeAnew}
use Rattle.packing.specs.StateBytes.{ByteWord}
use Rattle.packing.proofs.bytes.note_bytes.Given as goal

abbrev pub invariant-loop-word : goal.invariant-loop-word
invariant-loop-word l = MadeAnew (ByteWord l.codes) l.initial.rows l.rows l.base l.word
