-- `foamlattice::foam_check` meets its contract: the numbers of `checker::check` each fit their part of the word.
use Rattle.operands.specs.Bytes.{first}
use Rattle.foamlattice.specs.PackedBounds.{checked_ranges}
use Rattle.foamlattice.proofs.foam_check.Goals as goal

pub pack_counted-requires : goal.pack_counted-requires
pack_counted-requires c = rw c.check.ensures (checked_ranges first _)
