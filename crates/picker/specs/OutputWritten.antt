-- An output printed at the front of a buffer is what is promised, and lies within the buffer.
use Rattle.std.specs.Prelude.{ℕ, ◌≤◌, ◌≡◌, Result, Ok, List, [], ◌++◌, length, drop}
use Rattle.std.proofs.Common.{sym, ap, ◌∙◌, subst, arith}
use Rattle.tree.specs.declared.refusal.Refusal.{Refusal}
use Rattle.finder.specs.Decide.{matches}
use Rattle.printing.specs.OutputLimits.{most_output}
use Rattle.reporting.specs.Print.{picked}
use Rattle.reporting.specs.OutputBound.{output_length}
use Rattle.printing.specs.Printing.{Prints, printed}
use Rattle.picker.specs.Promise.{Wrote, Picks}

-- an output printed at the front is all that is promised
pub wrote : {input before after : List ℕ} {size : ℕ} → most_output ≤ length before
    → Prints before 0 (picked input) after size → Wrote input before after size
unfolding printed
wrote {input} {before} {after} {size} room p =
    let sized : size ≡ length (picked input) = omega (arith, p.next_place) in
    record {
      room = room;
      sized = sized;
      whole =
          p.written ∙ ap (λ (n : ℕ). picked input ++ drop n before) (sym p.next_place);
    }

-- where the output was written, it lies within the buffer
pub written_within : (input before after : List ℕ) (r : Result ℕ Refusal) (size : ℕ) → Picks input before after r
    → r ≡ Ok size → size ≤ length before
written_within input before after r size p e =
    let w : Wrote input before after size = subst (Picks input before after) e p in
    omega (arith, w, output_length (matches []) input)
