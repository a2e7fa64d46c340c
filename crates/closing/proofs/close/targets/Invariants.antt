-- `closing::close::targets`, its loop: the jumps are taken of the states that no longer stand in the iterator's word.
use Rattle.closing.specs.Passes.Jumping.{Jumped}
use Rattle.closing.proofs.close.targets.Given as goal

abbrev pub invariant-loop-state : goal.invariant-loop-state
invariant-loop-state l = Jumped l.row.rows.now l.row.piece l.from l.state-iterator.0 l.reached
