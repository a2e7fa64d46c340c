-- `explaining::explain_rule` meets its contract: what reading the rule answers is its outcome, and that is printed.
use Rattle.std.proofs.Common.{rules, arith, sym, ap, ◌∙◌, ◌*◌, ◌≡◌, length, take, replicate}
use Rattle.std.proofs.Math.Seq.{length-take-le}
use Rattle.tree.specs.Limits.{most_records}
use Rattle.tree.specs.Layout.{record_size, class_record_size}
use Rattle.tree.specs.Refusing.{refusal_number}
use Rattle.checker.specs.Checked.{counted_numbers}
use Rattle.printing.specs.PrinterLaws.{puts_front}
use Rattle.reader.specs.SecondKept.{SecondKept}
use Rattle.reader.proofs.SecondKept.{second_kept}
use Rattle.showing.specs.Refusal.{refusal_lines}
use Rattle.explaining.specs.Explained.{explained_rule}
use Rattle.explaining.specs.Rule.{told_refusal, read_rule, lent_long}
use Rattle.explaining.proofs.explain_rule.Goals as goal
use Rattle.explaining.proofs.explain_rule.Goals.{In-Ok, In-Err}

-- the refusal is the rule's outcome
refusal : (c : In-Err) → explained_rule c.args.rule.now
    ≡ refusal_lines c.args.rule.now (refusal_number c.in-Err.refused.refusal) c.in-Err.refused.place
refusal c = told_refusal _ _ _ c.in-Err.ensures.answer

-- the records of the rule stand in the list
records : (c : In-Ok)
    → SecondKept c.args.rule.now (replicate (record_size * most_records) 0)
    (replicate (class_record_size * most_records) 0) c.read_second.new.records
    c.read_second.new.classes c.in-Ok.counts.records c.in-Ok.counts.pieces
    c.in-Ok.counts.classes
records c =
    second_kept _ (replicate (record_size * most_records) 0) (replicate (class_record_size * most_records) 0) _ _ _ _ _
    c.in-Ok.ensures.answer c.in-Ok.ensures.record_buffer c.in-Ok.ensures.class_buffer

pub overflow_mul-list : goal.overflow_mul-list
overflow_mul-list c = record { fits = omega (arith, (records (goal.at.overflow_mul-list c).In-Ok).fits) }

pub slice_bounds-list-end : goal.slice_bounds-list-end
slice_bounds-list-end c =
    omega (arith, (records (goal.at.slice_bounds-list-end c).In-Ok).fits, c.read_second.auto)

pub draw-requires : goal.draw-requires
draw-requires c =
    let kept = records (goal.at.draw-requires c).In-Ok in
    let rule = read_rule kept in
    record {
      few = rule.few;
      long = length-take-le _ _ (omega (arith, kept.fits, c.read_second.auto));
      short = rule.short;
      room = omega (arith, c.new-printer.ensures.front, ap length c.new-printer.ensures.front.0);
    }

pub returns-in-Err : goal.returns-in-Err
returns-in-Err c =
    let told = refusal (goal.at.returns-in-Err c).In-Err in
    let long = lent_long (length c.args.out.now) c.args.rule.now (refusal_number c.in-Err.refused.refusal)
    c.in-Err.refused.place c.requires in
    rw (told ∙ sym long) (rw c.number.ensures at c.refusal.ensures)

pub returns-in-Ok : goal.returns-in-Ok
returns-in-Ok c =
    let drawn = (read_rule (records (goal.at.returns-in-Ok c).In-Ok)).drawn in
    puts_front c.new-printer.ensures.front (rw (← drawn) at c.draw.ensures) (search rules)
