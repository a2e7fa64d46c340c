-- `packing::pack::pack` meets its contract: the masks, the numbers and the bytes are the row.
use mathlib.Core.Path.{refl}
use native.Mathlib.Omega.{arith}
use lib.ListN.{length-set}
use Rattle.packing.specs.Packing.{packed}
use Rattle.packing.proofs.pack.pack.Goals as goal

pub note_bytes-requires : goal.note_bytes-requires
note_bytes-requires c = (
  simp length-set (omega (arith, c.note_masks.auto.rows, c.requires.row_words_in_bounds.0)),
  c.requires.packable.room,
  c.requires.packable.few,
)

pub returns : goal.returns
returns c =
    packed _ _ _ _ c.requires.packable c.requires.row_words_in_bounds.0 c.note_masks.ensures refl c.note_bytes.ensures
    c.requires.row_words_in_bounds.1 c.requires.row_words_in_bounds.2
