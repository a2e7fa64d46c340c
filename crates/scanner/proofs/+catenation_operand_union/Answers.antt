-- The cycle of the readers of an operand, a catenation and a union, which call each other. An operand is a `(` with the
-- union in it, or a single operand, and then the signs.
use Rattle.std.proofs.Common.{◌∙◌, arith}
use Rattle.std.proofs.lemmas.Result.{err_from_is_err_and}
use Rattle.operands.specs.Surroundings.{fails_end, fails_deep, fails_group, fails_open}
use Rattle.operands.specs.ReadingLaws.{went_group, then_signs}
use Rattle.scanner.specs.RoundsLaws.{operand_more, operand_fails, begin_after, branch_more, branch_fails}
use Rattle.scanner.proofs.+catenation_operand_union.Goals as goal

pub catenation::catenation-returns-in_default-clause-answer :
    goal.catenation::catenation-returns-in_default-clause-answer
catenation::catenation-returns-in_default-clause-answer t c =
    rw c.in_default.is
    (operand_fails c.operands.invariant.0 c.operand_due.ensures c.operands-test.true c.in_default.ensures.answer)

pub catenation::catenation-operands-preserved : goal.catenation::catenation-operands-preserved
catenation::catenation-operands-preserved t c =
    let r = rw c.operands.invariant.3 at c.in-Ok.ensures.answer in
    let kept = c.operand-reading.ensures.kind ∙ c.operands.invariant.3 in (
      operand_more c.operands.invariant.0 c.operand_due.ensures c.operands-test.true r
          (rw kept at c.put_join.ensures.joined),
      omega (arith, r.went.further, c.operands.invariant.1),
      omega (arith, r.went.within),
      c.put_join.ensures.kind ∙ kept,
      c.put_join.ensures.same_buffer ∙ (c.operand-reading.ensures.same_buffer ∙ c.operands.invariant.4),
      c.put_join.ensures.same_length ∙ (c.operand-reading.ensures.same_length ∙ c.operands.invariant.5),
    )

pub operand::operand-returns-then-at-expr-clause-answer : goal.operand::operand-returns-then-at-expr-clause-answer
operand::operand-returns-then-at-expr-clause-answer t c =
    fails_end _ c.args.expr.now c.args.depth c.args.at c.if-at-expr.true

pub operand::operand-returns-then-depth-ge-MOST_GROUPS-clause-answer :
    goal.operand::operand-returns-then-depth-ge-MOST_GROUPS-clause-answer
operand::operand-returns-then-depth-ge-MOST_GROUPS-clause-answer t c =
    fails_deep _ c.args.expr.now c.args.depth c.args.at (omega arith) (omega arith) c.if-expr-at-eq40.true

pub operand::operand-returns-in_err-closing-clause-answer : goal.operand::operand-returns-in_err-closing-clause-answer
operand::operand-returns-in_err-closing-clause-answer t c =
    let p = err_from_is_err_and c.from_residual.result c.from_residual.ensures.1 in
    rw (p.1, p.2)
    (fails_group _ _ c.args.at c.in_err-closing.ensures.answer (omega arith) (omega arith) c.if-expr-at-eq40.true)

pub operand::operand-returns-then-closing-expr-clause-answer :
    goal.operand::operand-returns-then-closing-expr-clause-answer
operand::operand-returns-then-closing-expr-clause-answer t c =
    let r = c.in_ok-closing.ensures.answer in
    fails_open _ _ c.args.at _ r.went.leads c.if-closing-expr.true (omega arith) (omega arith) c.if-expr-at-eq40.true

pub operand::operand-returns-then-expr-at-eq40-clause-answer :
    goal.operand::operand-returns-then-expr-at-eq40-clause-answer
operand::operand-returns-then-expr-at-eq40-clause-answer t c =
    let r = c.in_ok-closing.ensures.answer in
    let group = went_group r (omega (arith, r.went.within)) (omega arith) (omega arith) c.if-expr-at-eq40.true in
    then_signs _ c.signs.new.notes.numbers.now c.signs.result group (rw c.union.ensures.kind at c.signs.ensures.answer)

pub operand::operand-sign_follows-requires : goal.operand::operand-sign_follows-requires
operand::operand-sign_follows-requires t c =
    let r = c.in_ok-next.ensures.answer.went c.args.depth in omega (arith, r.within)

pub operand::operand-signs-requires-then-sign_follows :
    goal.operand::operand-signs-requires-then-sign_follows
operand::operand-signs-requires-then-sign_follows t c =
    let r = c.in_ok-next.ensures.answer.went c.args.depth in omega arith

pub operand::operand-returns-then-sign_follows-clause-answer :
    goal.operand::operand-returns-then-sign_follows-clause-answer
operand::operand-returns-then-sign_follows-clause-answer t c =
    then_signs _ c.signs-then-sign_follows.new.notes.numbers.now c.signs-then-sign_follows.result
    (c.in_ok-next.ensures.answer.went c.args.depth)
    (rw c.single.ensures.kind at c.signs-then-sign_follows.ensures.answer)

pub union::union-returns-in_default-clause-answer : goal.union::union-returns-in_default-clause-answer
union::union-returns-in_default-clause-answer t c =
    rw c.in_default.is
    (branch_fails c.branches.invariant.0 c.branch_due.ensures c.branches-test.true c.branch_begin-begin.ensures
    c.in_default.ensures.answer)

pub union::union-branches-preserved : goal.union::union-branches-preserved
union::union-branches-preserved t c =
    let r = rw c.branches.invariant.3 at c.in-Ok.ensures.answer in
    let kept = c.catenation-reading.ensures.kind ∙ c.branches.invariant.3 in
    let o = begin_after c.branch_begin-begin.ensures in (
      branch_more c.branches.invariant.0 c.branch_due.ensures c.branches-test.true c.branch_begin-begin.ensures r
          (rw kept at c.put_join.ensures.joined),
      omega (arith, r.went.further, o, c.branches.invariant.1),
      omega (arith, r.went.within),
      c.put_join.ensures.kind ∙ kept,
      c.put_join.ensures.same_buffer ∙ (c.catenation-reading.ensures.same_buffer ∙ c.branches.invariant.4),
      c.put_join.ensures.same_length ∙ (c.catenation-reading.ensures.same_length ∙ c.branches.invariant.5),
    )
