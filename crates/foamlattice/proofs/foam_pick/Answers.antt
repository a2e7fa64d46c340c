-- `foamlattice::foam_pick` meets its contract: an output has at most 1,048,575 bytes, and so its length fits the word.
use Rattle.std.proofs.Common.{arith}
use Rattle.std.specs.Prelude.{Ok}
use Rattle.foamlattice.specs.PackedBounds.{pick_length_small}
use Rattle.foamlattice.proofs.foam_pick.Goals as goal

pub pack-requires-clause-narrow_x : goal.pack-requires-clause-narrow_x
pack-requires-clause-narrow_x c =
    omega (arith, pick_length_small c.args.input.now c.args.output.now c.pick.new.output (Ok c.in-Ok.length) c.in-Ok.ensures)
