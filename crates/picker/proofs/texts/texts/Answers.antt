-- `picker::texts::texts` meets its contract: each turn prints a text's line and counts it.
use Rattle.std.proofs.Common.{rules, true, false, ap, [], arith, length}
use Rattle.finder.specs.Decide.{matches}
use Rattle.finder.specs.DecideExactly.{matches_answer}
use Rattle.input.specs.Left.{lines_left}
use Rattle.printing.specs.PrinterLaws.{puts_front}
use Rattle.picker.specs.Loop.{space_first, space_line, space_next, space_total, so_far_none, so_far_next, so_far_done}
use Rattle.picker.proofs.texts.texts.Goals as goal

pub loop-text-init : goal.loop-text-init
loop-text-init c =
    let gives = ap lines_left c.into_iter-text-iterator.ensures.into_iter_gives in
    let front = c.new-printer.ensures.front in
    record {
      space = rw gives (space_first c.requires.space (ap length front.0) front.1);
      printed = λ t prepared accepts. so_far_none (matches []) t _ _ gives (omega (arith, front.1));
    }

pub text_line-requires : goal.text_line-requires
text_line-requires c =
    space_line c.loop-text.invariant.space c.in-Some.ensures.steps c.either_matches-matched.result

pub loop-text-preserved-then-matched : goal.loop-text-preserved-then-matched
loop-text-preserved-then-matched c =
    let next = c.in-Some.ensures.steps in
    let line = rw c.if-matched.true at c.text_line.ensures in
    record {
      space = space_next c.loop-text.invariant.space next true line;
      printed = λ t prepared accepts.
          let says = matches_answer [] c.either_matches-matched.result t c.in-Some.text.now
          (c.either_matches-matched.ensures t prepared accepts) in
          so_far_next (matches []) t _ _ (c.loop-text.invariant.printed t prepared accepts) next true
          (rw c.if-matched.true at says) line;
    }

pub loop-text-preserved : goal.loop-text-preserved
loop-text-preserved c =
    let next = c.in-Some.ensures.steps in
    let line = rw c.if-matched.false at c.text_line.ensures in
    record {
      space = space_next c.loop-text.invariant.space next false line;
      printed = λ t prepared accepts.
          let says = matches_answer [] c.either_matches-matched.result t c.in-Some.text.now
          (c.either_matches-matched.ensures t prepared accepts) in
          so_far_next (matches []) t _ _ (c.loop-text.invariant.printed t prepared accepts) next false
          (rw c.if-matched.false at says) line;
    }

pub total_line-requires-clause-room : goal.total_line-requires-clause-room
total_line-requires-clause-room c = space_total c.loop-text.invariant.space

pub returns : goal.returns
returns c = λ t prepared accepts.
    puts_front c.new-printer.ensures.front
    (so_far_done (matches []) t _ _ (c.loop-text.invariant.printed t prepared accepts) c.in-None.ensures.steps.0
    c.total_line.ensures)
    (search rules)
