-- The loop's invariant: the bytes before `i` are written.
use Rattle.classes.specs.Members.{RecordedUpTo}
use Rattle.classes.proofs.members.write_class_record.Given as goal

abbrev pub invariant-loop-i : goal.invariant-loop-i
invariant-loop-i l =
    RecordedUpTo l.members l.out l.i
