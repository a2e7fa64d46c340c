-- `closing::close::close_after`, its loop: what is marked can be reached, marks are carried on, and each jump was taken
-- or is left. The measure is the jumps that are left.
use Rattle.closing.specs.Passes.Closing.{PassedSoFar}
use Rattle.closing.proofs.close.close_after.Given as goal

abbrev pub invariant-loop-closed : goal.invariant-loop-closed
invariant-loop-closed l = PassedSoFar l.on l.jumps l.row.rows.now l.row.piece l.word l.done l.left l.closed

abbrev pub decreases-loop-closed : goal.decreases-loop-closed
decreases-loop-closed l = l.left
