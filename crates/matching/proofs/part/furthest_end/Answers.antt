-- `matching::part::furthest_end` meets its contract: at each end the words hold the marks after the part, and `best` is
-- the latest end so far.
use Rattle.std.proofs.Common.{arith, rules}
use Rattle.stepping.specs.Texts.{nothing_left}
use Rattle.stepping.specs.Inner.{running, holding_marks, answered_copy, answered_next}
use Rattle.matching.specs.Answering.{standing_first, standing_next, settled_early, settled_at_end}
use Rattle.matching.proofs.part.furthest_end.Goals as goal

pub loop-end-init : goal.loop-end-init
loop-end-init c = record {
  wide = search rules;
  ready = search rules;
  looking = λ t prepared.
      rw c.with_end-best.ensures (standing_first _ t _ _ _ _ (omega arith)
      (answered_copy c.args.first.now _ prepared
      (omega (arith, prepared.counted, prepared.few, c.requires.start_in_bounds.1)) c.copy.ensures
      (c.requires.answered t prepared)));
  remembers = c.requires.ready.1;
}

pub advance_by_memo-told-requires-clause-running : goal.advance_by_memo-told-requires-clause-running
advance_by_memo-told-requires-clause-running c =
    let at = c.loop-end.invariant in
    running at.ready at.wide (λ t prepared. (at.looking t prepared).holding.clean)

pub returns-then-told-clause-furthest : goal.returns-then-told-clause-furthest
returns-then-told-clause-furthest c =
    λ t prepared.
    let standing = c.loop-end.invariant.looking t prepared in
    let went = c.advance_by_memo-told.ensures.advanced t prepared (holding_marks standing.holding) in
    let next = standing_next _ t _ _ _ _ _ _ c.loop-end.auto.end (omega arith) standing.so_far
    (answered_next standing.holding went) in
    rw c.with_end-best-in-loop-end.ensures
    (settled_early _ t _ next (omega arith) (omega arith)
    (nothing_left next.holding (went.left.0 c.if-told.true)))

pub loop-end-preserved : goal.loop-end-preserved
loop-end-preserved c = record {
  wide = search rules;
  ready = search rules;
  looking = λ t prepared.
      let standing = c.loop-end.invariant.looking t prepared in
      rw c.with_end-best-in-loop-end.ensures
      (standing_next _ t _ _ _ _ _ _ (omega arith) (omega arith) standing.so_far
      (answered_next standing.holding
      (c.advance_by_memo-told.ensures.advanced t prepared (holding_marks standing.holding))));
  remembers = c.advance_by_memo-told.ensures.remembers_2;
}

pub returns-clause-furthest : goal.returns-clause-furthest
returns-clause-furthest c = λ t prepared.
    settled_at_end _ t _ (c.loop-end.invariant.looking t prepared) c.loop-end-test.false
