-- `Lines::next` meets its contract: the line before the first end comes, and the lines after that end are left.
use Rattle.std.proofs.Common.{◌≡◌, ◌<◌, ◌-◌, ℕ, List, ◌∷◌, length, take, drop, arith, ap, ◌∙◌, drop-drop}
use Rattle.std.proofs.lemmas.Bool.Decides.{nat_tests}
use Rattle.std.proofs.lemmas.List.{take_rest}
use Rattle.input.specs.Ends.{Ends, end_size}
use Rattle.input.specs.Lines.{lines}
use Rattle.input.proofs.EndLaws.{lines_none, line_at}
use Rattle.input.proofs.line.LinesIterator.next.Goals as goal

-- the first line is what stands before the first end, and the others are the lines after it
one_line : (text line rest : List ℕ) (end size : ℕ) → Ends text 0 end → 0 < length text → line ≡ take end text
    → rest ≡ drop end text → size ≡ end_size rest
    → lines text ≡ line ∷ lines (take (length rest - size) (drop size rest))
one_line text line rest end size ends some first others long =
    line_at text 0 end ends some ∙ rw (take_rest, long, others, first, drop-drop (end_size (drop end text)) end text)

pub returns-then-is_empty-clause-steps : goal.returns-then-is_empty-clause-steps
returns-then-is_empty-clause-steps c =
    let none = lines_none c.args.self.now.rest.now 0 (grind (arith, nat_tests)) in
    (none, none)

pub returns-clause-steps : goal.returns-clause-steps
returns-clause-steps c =
    let cut = c.split_at.ensures in
    one_line _ _ _ _ _ c.first_end.ensures (grind (arith, nat_tests)) cut.front cut.back c.end_size.ensures.size

pub returns-clause-goes : goal.returns-clause-goes
returns-clause-goes c = record {
  on = λ _. (tt, tt, omega (arith, ap length (returns-clause-steps c)));
  keeps = tt;
  rests = λ _. tt;
}
