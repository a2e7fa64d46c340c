-- `foamlattice::foam_check2` meets its contract: the numbers of `checker::check_second` each fit their part of the word.
use Rattle.operands.specs.Bytes.{second}
use Rattle.foamlattice.specs.PackedBounds.{checked_ranges}
use Rattle.foamlattice.proofs.foam_check2.Goals as goal

pub pack_counted-requires : goal.pack_counted-requires
pack_counted-requires c = rw c.check_second.ensures (checked_ranges second _)
