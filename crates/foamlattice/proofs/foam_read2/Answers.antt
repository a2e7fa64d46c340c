-- `foamlattice::foam_read2` meets its contract: the numbers of `reader::read_second` each fit their part of the word.
use Rattle.foamlattice.specs.PackedBounds.{second_ranges}
use Rattle.foamlattice.proofs.foam_read2.Goals as goal

pub pack_counted-requires : goal.pack_counted-requires
pack_counted-requires c = second_ranges _ _ _ _ c.read_second.ensures.answer
