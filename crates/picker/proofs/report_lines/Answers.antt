-- `picker::report_lines` meets its contract: what reading the first line answers is the expression's outcome, and what
-- is printed for it is reported.
use Rattle.std.proofs.Common.{◌*◌, ◌≤◌, rules, arith, ap, refl, length, replicate}
use Rattle.input.specs.First.{FirstGiven, first_given}
use Rattle.input.specs.Left.{lines_left}
use Rattle.input.specs.Lines.{lines}
use Rattle.input.proofs.EndLaws.{after_inside}
use Rattle.tree.specs.Limits.{most_records}
use Rattle.tree.specs.Layout.{record_size}
use Rattle.tree.specs.Refusing.{refusal_number}
use Rattle.reader.specs.Kept.{Kept, kept}
use Rattle.printing.specs.PrinterLaws.{puts_front}
use Rattle.picker.specs.Report.{RefusalRead, told, read_outcome, expression_short, texts_space}
use Rattle.reporting.specs.OutputBound.{refusal_line_length}
use Rattle.picker.proofs.report_lines.Goals as goal
use Rattle.picker.proofs.report_lines.Goals.{After-unwrap_or-expression, In-Err, In-Ok}

-- the expression is the first line, and the texts are those that are left
first : (c : After-unwrap_or-expression)
    → FirstGiven (lines c.args.input.now) c.unwrap_or-expression.result.now (lines_left c.next.new.self)
first c =
    first_given _ c.of-lines.result c.next.new.self _ _ _ c.of-lines.ensures c.next.ensures.steps
    c.unwrap_or-expression.ensures refl

-- the refusal is the outcome of the first line
refusal : (c : In-Err) → RefusalRead c.unwrap_or-expression.result.now (refusal_number c.in-Err.refused.refusal)
    c.in-Err.refused.place
refusal c = told _ (record_size * most_records) _ _ (omega arith) c.in-Err.ensures.answer

-- the records of the first line stand in the list
records : (c : In-Ok) → Kept c.unwrap_or-expression.result.now (replicate (record_size * most_records) 0)
    c.read.new.records c.in-Ok.read.records c.in-Ok.read.pieces
records c = kept _ (replicate (record_size * most_records) 0) _ _ _ c.in-Ok.ensures.answer c.in-Ok.ensures.buffer

-- the expression ends within the input
expression_inside : (c : After-unwrap_or-expression) → length c.unwrap_or-expression.result.now ≤ length c.args.input.now
expression_inside c = omega (arith, expression_short c.args.input.now, ap length (first c).is_expression)

pub next_line-requires : goal.next_line-requires
next_line-requires c = expression_inside (goal.at.next_line-requires c).After-unwrap_or-expression

pub overflow_sub-bytes : goal.overflow_sub-bytes
overflow_sub-bytes c =
    let inside = expression_inside (goal.at.overflow_sub-bytes c).After-unwrap_or-expression in
    omega (arith, c.next_line.ensures, after_inside c.args.input.now _ inside)

pub list_texts-requires-clause-list : goal.list_texts-requires-clause-list
list_texts-requires-clause-list c =
    let list = records (goal.at.list_texts-requires-clause-list c).In-Ok in
    record { some = list.read; good = list.good }

pub list_texts-requires-clause-space : goal.list_texts-requires-clause-space
list_texts-requires-clause-space c =
    let known = first (goal.at.list_texts-requires-clause-space c).After-unwrap_or-expression in
    let list = records (goal.at.list_texts-requires-clause-space c).In-Ok in
    rw (← known.are_texts)
    (texts_space c.args.input.now c.unwrap_or-expression.result.now known.is_expression c.requires.short
    c.requires.room list)

pub refusal_line-requires : goal.refusal_line-requires
refusal_line-requires c =
    let read = refusal (goal.at.refusal_line-requires c).In-Err in
    rw c.number.ensures
    (omega (
      arith,
      c.new-printer.ensures.front,
      ap length c.new-printer.ensures.front.0,
      refusal_line_length _ _ read.small_number read.small_place,
    ))

pub returns-in-Err : goal.returns-in-Err
returns-in-Err c =
    let known = first (goal.at.returns-in-Err c).After-unwrap_or-expression in
    let read = refusal (goal.at.returns-in-Err c).In-Err in
    rw (known.is_expression, read.outcome)
    (puts_front c.new-printer.ensures.front (rw c.number.ensures at c.refusal_line.ensures) (search rules))

pub returns-in-Ok : goal.returns-in-Ok
returns-in-Ok c =
    let known = first (goal.at.returns-in-Ok c).After-unwrap_or-expression in
    let list = records (goal.at.returns-in-Ok c).In-Ok in
    rw (known.is_expression, read_outcome list, known.are_texts) (c.list_texts.ensures list.read list.good)
