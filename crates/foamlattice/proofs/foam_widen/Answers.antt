-- `foamlattice::foam_widen` meets its contract: a list has at most 1,920 records, and so their count fits the word.
use Rattle.std.proofs.Common.{arith}
use Rattle.std.specs.Prelude.{Ok}
use Rattle.foamlattice.specs.WideningLaws.{widen_count_small}
use Rattle.foamlattice.proofs.foam_widen.Goals as goal

pub pack-requires-clause-narrow_x : goal.pack-requires-clause-narrow_x
pack-requires-clause-narrow_x c =
    omega (arith, widen_count_small c.args.old.now c.args.records.now c.widen.new.records (Ok c.in-Ok.records) c.in-Ok.ensures)
