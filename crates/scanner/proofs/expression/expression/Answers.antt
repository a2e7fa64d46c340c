-- `scanner::expression::expression` meets its contract: after 1 and 2 it is the union read from the start, with no
-- group open.
use Rattle.std.proofs.Common.{arith}
use Rattle.std.proofs.lemmas.Result.{err_from_is_err_and}
use Rattle.scanner.specs.Expression.{empty, too_long, faulty, unopened, accepted}
use Rattle.scanner.proofs.expression.expression.Goals as goal

pub returns-then-is_empty-clause-answer : goal.returns-then-is_empty-clause-answer
returns-then-is_empty-clause-answer c = empty _ _ (grind (arith, c.if-is_empty.ensures))

pub returns-then-expr-gt-LONGEST_EXPRESSION-clause-answer : goal.returns-then-expr-gt-LONGEST_EXPRESSION-clause-answer
returns-then-expr-gt-LONGEST_EXPRESSION-clause-answer c = too_long _ _ (omega arith)

pub returns-in_err-next-clause-answer : goal.returns-in_err-next-clause-answer
returns-in_err-next-clause-answer c =
    let p = err_from_is_err_and c.from_residual.result c.from_residual.ensures.1 in
    rw (p.1, p.2) (faulty _ _ (grind (arith, c.if-is_empty.ensures)) c.if-expr-gt-LONGEST_EXPRESSION.false
    c.in_err-next.ensures.answer)

pub returns-then-next-expr-clause-answer : goal.returns-then-next-expr-clause-answer
returns-then-next-expr-clause-answer c =
    unopened _ _ (grind (arith, c.if-is_empty.ensures)) c.if-expr-gt-LONGEST_EXPRESSION.false
    c.in_ok-next.ensures.answer c.if-next-expr.true

pub returns-clause-answer : goal.returns-clause-answer
returns-clause-answer c =
    let read = c.in_ok-next.ensures.answer in
    accepted _ _ (grind (arith, c.if-is_empty.ensures)) c.if-expr-gt-LONGEST_EXPRESSION.false read
    (omega (arith, read.went.within))
