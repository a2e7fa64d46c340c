-- `Notes::follow` meets its contract.
use Rattle.std.proofs.Common.{◌∙◌, arith}
use Rattle.repeats.specs.LabelledLaws.{copies_counted, appended_counted, follows_more}
use Rattle.repeats.proofs.Room.{room}
use Rattle.repeats.proofs.notes.Notes.follow.Goals as goal

pub loop-preserved : goal.loop-preserved
loop-preserved c =
    let kept = c.copy_run.ensures.kind ∙ c.loop.invariant.kind in
    let end = rw kept at c.end_copy.ensures.written in
    let a = copies_counted c.copy_run.ensures.written c.loop.self.few in
    let b = appended_counted end a.few in
    record {
      copies =
          follows_more c.loop.counter c.args.self.now.places c.args.place c.args.with_question
          (record { room = room c.args.self.now; inside = c.requires })
          c.loop.invariant.copies c.copy_run.ensures.written end;
      onward = omega (arith, c.loop.invariant.onward, a.onward, b.onward);
      kind = c.end_copy.ensures.kind ∙ kept;
      same_buffer = c.end_copy.ensures.same_buffer ∙ (c.copy_run.ensures.same_buffer ∙ c.loop.invariant.same_buffer);
      same_length = c.end_copy.ensures.same_length ∙ (c.copy_run.ensures.same_length ∙ c.loop.invariant.same_length);
    }
