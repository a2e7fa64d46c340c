-- `Notes::more` meets its contract: a copy, what is noted of the star and of the catenation.
use Rattle.repeats.specs.LabelledLaws.{more_relabels}
use Rattle.repeats.proofs.Room.{room}
use Rattle.repeats.proofs.notes.Notes.more.Goals as goal

pub returns-clause-turned : goal.returns-clause-turned
returns-clause-turned c =
    more_relabels c.args.self.now.places c.args.place (room c.args.self.now) c.requires
    c.copy_run.ensures.written (rw (← c.copy_run.ensures.kind) c.put_two.ensures.written)
