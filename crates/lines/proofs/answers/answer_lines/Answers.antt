-- `lines::answers::answer_lines` meets its contract: before each line the bytes written so far, with those still to come,
-- answer all lines.
use Rattle.std.proofs.Common.{◌≡◌, refl, [], ◌∷◌, length, arith, ap, ◌∙◌, length-set}
use Rattle.std.specs.Fn.{FnReturnsAt}
use Rattle.input.specs.Lines.{lines}
use Rattle.input.specs.Left.{lines_left}
use Rattle.lines.specs.Promise.{answer_byte}
use Rattle.lines.specs.LinesLoop.{space_next, so_far_none, so_far_next, so_far_done}
use Rattle.lines.proofs.Flags.{as_number}
use Rattle.lines.proofs.answers.answer_lines.Goals as goal

pub loop-line-init : goal.loop-line-init
loop-line-init g c =
    let all : lines_left c.into_iter-line-iterator.result ≡ lines c.args.text.now =
    ap lines_left c.into_iter-line-iterator.ensures.into_iter_gives ∙ c.of-line-items.ensures in
    record {
      space = record { ranked = omega arith; enough = omega (arith, c.requires.room, ap length all) };
      same_room = refl;
      so_far = so_far_none (FnReturnsAt g.F.Fn c.args.test) _ _ all;
    }

pub loop-line-preserved : goal.loop-line-preserved
loop-line-preserved g c =
    let at = c.loop-line.invariant in
    let next : lines_left c.loop-line.line-iterator ≡ c.in-Some.line.now ∷ lines_left c.next.new.self =
    c.in-Some.ensures.steps in
    let matched = c.test-matched.result in
    let byte : c.from.result ≡ answer_byte matched = c.from.ensures ∙ as_number matched in
    let one : c.from-in-loop-line.result ≡ answer_byte matched = c.from-in-loop-line.ensures ∙ as_number matched in
    rw (byte, one) (record {
      space = space_next at.space next matched;
      same_room = length-set c.loop-line.answers c.loop-line.counts.lines (answer_byte matched) ∙ at.same_room;
      so_far = so_far_next (FnReturnsAt g.F.Fn c.args.test) _ _ at.so_far next
          (omega (arith, at.space.enough, ap length next)) matched
          (record { shown = c.in-Some.line; shows = refl; says = record { met = c.test-matched.ensures } });
    })

pub returns : goal.returns
returns g c =
    let none : lines_left c.loop-line.line-iterator ≡ [] = c.in-None.ensures.steps.0 in
    so_far_done (FnReturnsAt g.F.Fn c.args.test) _ _ c.loop-line.invariant.so_far none c.requires.room
