-- `foamlattice::foam_read` meets its contract: the numbers of `reader::read` each fit their part of the word.
use Rattle.std.proofs.Common.{arith}
use Rattle.foamlattice.specs.PackedBounds.{read_ranges}
use Rattle.foamlattice.proofs.foam_read.Goals as goal

pub pack_counts-requires-clause-few_records : goal.pack_counts-requires-clause-few_records
pack_counts-requires-clause-few_records c =
    let known = read_ranges _ _ _ c.in-Ok.ensures.answer in
    omega (arith, known.records_small)

pub pack_refusal-requires : goal.pack_refusal-requires
pack_refusal-requires c =
    let known = read_ranges _ _ _ c.in-Err.ensures.answer in
    known.place_small
