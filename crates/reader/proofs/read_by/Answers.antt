-- `reader::read_by` meets its contract: what is read is stored, and its places are put in; or it has too many nodes, or
-- the refusal is handed on.
use Rattle.std.proofs.Common.{◌≤◌, length, refl, arith}
use Rattle.std.proofs.lemmas.Result.{err_from_is_err_and}
use Rattle.operands.specs.Bytes.{syntax_of}
use Rattle.scanner.specs.Expression.{LabelsRead, labels_read}
use Rattle.checker.specs.Counted.{too_large_read, refused_before}
use Rattle.reader.specs.LabelsStored.{ready, due_stored, by_reading, by_storing}
use Rattle.reader.proofs.read_by.Goals as goal
use Rattle.reader.proofs.read_by.Goals.{Else-count-gt-MOST_LABELS, In_ok-expression}

-- the expression is read, and the labels of its tree are noted
tree_read : (c : In_ok-expression)
    → LabelsRead (syntax_of c.args.syntax) c.args.expr.now c.expression.new.notes.numbers.now c.expression.new.notes.count
tree_read c = labels_read (rw (← c.new-notes.ensures.kind) c.in_ok-expression.ensures.answer)

-- there are no more labels than there is room for
within : (c : Else-count-gt-MOST_LABELS) → c.expression.new.notes.count ≤ length c.expression.new.notes.numbers.now
within c = omega (arith, c.if-count-gt-MOST_LABELS.false)

pub returns-in_err-expression : goal.returns-in_err-expression
returns-in_err-expression c =
    let p = err_from_is_err_and c.from_residual.result c.from_residual.ensures.1 in
    rw (p.1, p.2) (by_reading (refused_before c.in_err-expression.ensures.answer), refl, refl)

pub returns-then-count-gt-MOST_LABELS : goal.returns-then-count-gt-MOST_LABELS
returns-then-count-gt-MOST_LABELS c = (
  by_reading (too_large_read (tree_read (goal.at.returns-then-count-gt-MOST_LABELS c).In_ok-expression)
      (omega (arith, c.if-count-gt-MOST_LABELS.true))),
  refl,
  refl,
)

pub store_front-requires-clause-ready : goal.store_front-requires-clause-ready
store_front-requires-clause-ready c =
    ready (tree_read (goal.at.store_front-requires-clause-ready c).In_ok-expression) c.if-count-gt-MOST_LABELS.false
    (within (goal.at.store_front-requires-clause-ready c).Else-count-gt-MOST_LABELS)

pub returns-in_err-counts : goal.returns-in_err-counts
returns-in_err-counts c =
    let p = err_from_is_err_and c.from_residual-in_err-counts.result c.from_residual-in_err-counts.ensures.1 in
    let a = c.in_err-counts.ensures in
    rw (p.1, p.2) (
      by_storing (tree_read (goal.at.returns-in_err-counts c).In_ok-expression) c.if-count-gt-MOST_LABELS.false
          (within (goal.at.returns-in_err-counts c).Else-count-gt-MOST_LABELS) a.0,
      a.1,
      a.2,
    )

pub place_records-requires-clause-due : goal.place_records-requires-clause-due
place_records-requires-clause-due c =
    due_stored (tree_read (goal.at.place_records-requires-clause-due c).In_ok-expression)
    c.if-count-gt-MOST_LABELS.false
    (within (goal.at.place_records-requires-clause-due c).Else-count-gt-MOST_LABELS) c.in_ok-counts.ensures

pub returns : goal.returns
returns c =
    record {
      later = c.expression.new.notes.numbers.now;
      total = c.expression.new.notes.count;
      read = tree_read (goal.at.returns c).In_ok-expression;
      few = c.if-count-gt-MOST_LABELS.false;
      fits = within (goal.at.returns c).Else-count-gt-MOST_LABELS;
      between = c.store_front.new.records;
      stored = c.in_ok-counts.ensures;
      put = c.place_records.ensures;
    }
