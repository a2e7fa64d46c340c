-- `lines::answers::answer_lines` meets its contract: before each line the bytes written so far, with those still to come,
-- answer all lines.
use Rattle.std.proofs.Common.{◌≡◌, length}
use Rattle.std.specs.Fn.{FnReturnsAt}
use Rattle.input.specs.Left.{lines_left}
use Rattle.lines.specs.LinesLoop.{LineSpace, LinesSoFar}
use Rattle.lines.proofs.answers.answer_lines.Given as goal

abbrev pub invariant-loop-line : goal.invariant-loop-line
invariant-loop-line g l = record {
  space : LineSpace (lines_left l.line-iterator) l.counts.lines l.counts.yes l.answers;
  same_room : length l.answers ≡ length l.initial.answers;
  so_far : LinesSoFar (FnReturnsAt g.F.Fn l.test) l.text l.initial.answers (lines_left l.line-iterator)
      l.counts.lines l.counts.yes l.answers;
}
