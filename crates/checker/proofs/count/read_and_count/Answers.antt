-- `checker::count::read_and_count` meets its contract: the labels of the tree that the signs stand for are noted, and
-- are counted; or it has too many nodes, or the refusal is handed on.
use Rattle.std.proofs.Common.{◌∙◌, ap, length, arith}
use Rattle.std.proofs.Math.Seq.{length-take-le}
use Rattle.std.proofs.lemmas.Result.{err_from_is_err_and}
use Rattle.operands.specs.Bytes.{syntax_of}
use Rattle.scanner.specs.Expression.{LabelsRead, labels_read}
use Rattle.checker.specs.Counted.{refused_before, too_large_read, read_counted}
use Rattle.checker.proofs.count.read_and_count.Goals as goal
use Rattle.checker.proofs.count.read_and_count.Goals.{In_ok-expression}

-- the expression is read, and a tree with places stands for it
tree_read : (c : In_ok-expression)
    → LabelsRead (syntax_of c.args.syntax) c.args.expr.now c.expression.new.notes.numbers.now c.expression.new.notes.count
tree_read c = labels_read c.in_ok-expression.ensures.answer

pub returns-in_err-expression-clause-answer : goal.returns-in_err-expression-clause-answer
returns-in_err-expression-clause-answer c =
    let p = err_from_is_err_and c.from_residual.result c.from_residual.ensures.1 in
    rw (p.1, p.2) (refused_before c.in_err-expression.ensures.answer)

pub returns-then-count-gt-MOST_LABELS-clause-answer : goal.returns-then-count-gt-MOST_LABELS-clause-answer
returns-then-count-gt-MOST_LABELS-clause-answer c =
    too_large_read (tree_read (goal.at.returns-then-count-gt-MOST_LABELS-clause-answer c).In_ok-expression)
    (omega (arith, c.if-count-gt-MOST_LABELS.true))

pub count_labels-requires-clause-tree : goal.count_labels-requires-clause-tree
count_labels-requires-clause-tree c =
    let r = tree_read (goal.at.count_labels-requires-clause-tree c).In_ok-expression in
    record { tree = r.read; same = c.first.ensures ∙ r.written (omega (arith, c.if-count-gt-MOST_LABELS.false)) }

pub returns-clause-answer : goal.returns-clause-answer
returns-clause-answer c =
    let r = tree_read (goal.at.returns-clause-answer c).In_ok-expression in
    read_counted c.count_labels.result r (omega (arith, c.if-count-gt-MOST_LABELS.false)) _ c.first.ensures
    (ap length c.first.ensures ∙ length-take-le _ _ (omega (arith, c.if-count-gt-MOST_LABELS.false)))
    c.count_labels.ensures
