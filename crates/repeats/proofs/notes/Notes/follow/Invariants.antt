-- The loop's invariant: so many copies follow as the loop went round.
use Rattle.std.proofs.Common.{◌++◌, ◌≤◌, ◌≡◌, length}
use Rattle.repeats.specs.Labelled.{Copies, copy_end, copied}
use Rattle.repeats.proofs.notes.Notes.follow.Given as goal

abbrev pub invariant-loop : goal.invariant-loop
invariant-loop l =
    record {
      copies : Copies l.initial.self.numbers.now l.begin l.size l.initial.self.count
          (λ run. copied l.counter (run ++ copy_end l.initial.self.places l.place l.with_question)) l.self.count
          l.self.numbers.now;
      onward : l.initial.self.count ≤ l.self.count;
      kind : l.self.places ≡ l.initial.self.places;
      same_buffer : l.self.numbers.ghost_name ≡ l.initial.self.numbers.ghost_name;
      same_length : length l.self.numbers.now ≡ length l.initial.self.numbers.now;
    }
