-- `packing::masks::note_masks` meets its contract, once the bits of all states are gathered.
use Rattle.std.proofs.Common.{arith}
use Rattle.packing.specs.Masks.{gathered_all, masks_noted}
use Rattle.packing.proofs.masks.note_masks.Goals as goal

pub returns : goal.returns
returns c =
    let all = c.loop-state.invariant in
    masks_noted _ _ _ _ (omega arith) (gathered_all (omega arith) all.leading) (gathered_all (omega arith) all.jumping)
    (gathered_all (omega arith) all.leaves) (gathered_all (omega arith) all.classes)
