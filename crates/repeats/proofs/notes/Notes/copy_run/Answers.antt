-- `Notes::copy_run` meets its contract.
use native.Mathlib.Omega.{arith}
use Rattle.repeats.specs.LabelledLaws.{pasted_all}
use Rattle.repeats.proofs.Room.{room}
use Rattle.repeats.proofs.notes.Notes.copy_run.Goals as goal

pub returns-clause-written : goal.returns-clause-written
returns-clause-written c =
    pasted_all (record { room = room c.args.self.now; inside = c.requires })
    (omega (arith, c.if-self-size-gt-MOST_LABELS.false)) (omega arith) c.copy_within.ensures.after
