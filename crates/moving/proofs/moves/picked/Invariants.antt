-- `moving::moves::picked`, its loop: the test was asked of the states that no longer stand in the iterator's word.
use Rattle.moving.specs.Picking.{PickedBy}
use Rattle.moving.proofs.moves.picked.Given as goal

abbrev pub invariant-loop-state : goal.invariant-loop-state
invariant-loop-state g l = PickedBy (goal.F-post g l.takes) l.states l.state-iterator.0 l.picked
