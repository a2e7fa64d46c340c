-- `Notes::times` meets its contract: with no copy that must be there, and with at least one.
use native.Mathlib.Omega.{arith}
use Rattle.repeats.specs.LabelledLaws.{copies_counted, none_relabels, some_relabels}
use Rattle.repeats.proofs.Room.{room}
use Rattle.repeats.proofs.notes.Notes.times.Goals as goal

pub returns-then-fewest-eq0-clause-turned : goal.returns-then-fewest-eq0-clause-turned
returns-then-fewest-eq0-clause-turned c =
    none_relabels c.args.self.now.places c.args.place (room c.args.self.now) c.requires.0
    c.args.fewest c.args.most
    (omega (arith, c.if-fewest-eq0.true))
    c.perhaps.ensures.added (rw (← c.perhaps.ensures.kind) c.follow.ensures.written)

pub follow-requires-3 : goal.follow-requires-3
follow-requires-3 c =
    let a = copies_counted c.follow-2.ensures.written c.args.self.now.few in omega (arith, c.requires.0, a.onward)

pub returns-clause-turned : goal.returns-clause-turned
returns-clause-turned c =
    some_relabels c.args.self.now.places c.args.place (room c.args.self.now) c.requires.0
    c.args.fewest c.args.most
    (omega (arith, c.if-fewest-eq0.false))
    c.follow-2.ensures.written (rw (← c.follow-2.ensures.kind) c.follow-3.ensures.written)
