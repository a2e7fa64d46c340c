-- `packing::masks::note_masks` meets its contract. The loop's invariant: the bits of the states gone through are in the
-- masks that their codes say.
use Rattle.tables.specs.Plan.{LeadsOn, Jumps, IsLeaf, IsClass}
use Rattle.packing.specs.Masks.{BitsOfCodes}
use Rattle.packing.proofs.masks.note_masks.Given as goal

abbrev pub invariant-loop-state : goal.invariant-loop-state
invariant-loop-state l = record {
  leading : BitsOfCodes LeadsOn l.codes l.state l.on;
  jumping : BitsOfCodes Jumps l.codes l.state l.jumping;
  leaves : BitsOfCodes IsLeaf l.codes l.state l.leaves;
  classes : BitsOfCodes IsClass l.codes l.state l.classes;
}
