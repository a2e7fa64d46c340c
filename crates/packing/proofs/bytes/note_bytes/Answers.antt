-- `packing::bytes::note_bytes` meets its contract, by one word more of bytes.
use Rattle.std.proofs.Common.{arith}
use Rattle.closing.specs.BitsOfWords.MadeAnew.{anew_set}
use Rattle.packing.specs.StateBytes.{byte_word}
use Rattle.packing.proofs.bytes.note_bytes.Goals as goal

pub loop-word-preserved : goal.loop-word-preserved
loop-word-preserved c = anew_set c.loop-word.invariant _ (omega arith) (byte_word _ c.eight_bytes.ensures)
