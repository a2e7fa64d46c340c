-- Matching the lines of a text, by a list or by a table: what it answers fits its number, is given back by unpacking,
-- and is the only answer.
use Rattle.std.specs.Prelude.{ℕ, ◌+◌, ◌≤◌, ◌≡◌, List}
use Rattle.std.proofs.Common.{arith, ap, sym, ◌∙◌}
use Rattle.tree.specs.Limits.{longest_text}
use Rattle.finder.specs.Promise.{Refuses, not_good, too_few_classes, too_long}
use Rattle.input.proofs.LineLaws.{lines_count}
use Rattle.tree.specs.RefusalNumbers.{table_too_short}
use Rattle.lines.specs.Answer.{LinesNumbers}
use Rattle.lines.specs.Promise.{LinesAnswers, lines_refused, lines_no_room, lines_answered}
use Rattle.lines.specs.Unique.{each_yes, lines_unique}
use Rattle.table_lines.specs.Promise.{TableLinesAnswers, table_short, text_long, no_room, answered}
use Rattle.table_lines.specs.Unique.{table_lines_unique}
use Rattle.one_number.specs.Packed.{Unpacks}
use Rattle.foamlattice.specs.PackedBounds.{unpacks}
use Rattle.foamlattice.specs.Promise.{lines_packed, AnsweringLines, AnsweringByTable}

-- a text of at most 65,536 bytes has no more lines
pub record LinesRanges (n : LinesNumbers) : Type 0 where
  pub refusal_small : n.refusal ≤ table_too_short
  pub x_small : n.place + n.line_count ≤ longest_text
  pub y_small : n.yes_lines ≤ longest_text

refused_small : {list classes text : List ℕ} {number : ℕ} → Refuses list classes text number
    → number ≤ table_too_short
refused_small (not_good why) = omega arith
refused_small (too_few_classes why) = omega arith
refused_small (too_long a) = omega arith

pub lines_ranges : {list classes text before after : List ℕ} {n : LinesNumbers}
    → LinesAnswers list classes text before after n → LinesRanges n
lines_ranges (lines_refused r e) =
    record { refusal_small = refused_small r; x_small = omega arith; y_small = omega arith }
lines_ranges (lines_no_room a e) =
    record { refusal_small = omega arith; x_small = omega arith; y_small = omega arith }
lines_ranges {text = text} (lines_answered a) =
    record {
      refusal_small = omega arith;
      x_small = omega (arith, a.short, a.holds.counted, lines_count text);
      y_small = omega (arith, a.short, each_yes a.holds.each, lines_count text);
    }

pub table_lines_ranges : {table text before after : List ℕ} {n : LinesNumbers}
    → TableLinesAnswers table text before after n → LinesRanges n
table_lines_ranges (table_short a e) =
    record { refusal_small = omega arith; x_small = omega arith; y_small = omega arith }
table_lines_ranges (text_long a long e) =
    record { refusal_small = omega arith; x_small = omega arith; y_small = omega arith }
table_lines_ranges (no_room a few e) =
    record { refusal_small = omega arith; x_small = omega arith; y_small = omega arith }
table_lines_ranges {text = text} (answered a w) =
    record {
      refusal_small = omega arith;
      x_small = omega (arith, a.short, w.counted, lines_count text);
      y_small = omega (arith, a.short, each_yes w.each, lines_count text);
    }

-- so the number gives its parts back
numbers_unpack : (r : ℕ) (n : LinesNumbers) → LinesRanges n → r ≡ lines_packed n
    → Unpacks r n.refusal 0 (n.place + n.line_count) n.yes_lines
numbers_unpack r n known e =
    unpacks r n.refusal 0 (n.place + n.line_count) n.yes_lines
    (record {
      number_small = omega (arith, known.refusal_small);
      flag_small = omega arith;
      x_small = omega (arith, known.x_small);
      y_small = omega (arith, known.y_small);
    }) e

pub lines_unpacks : (list classes text before after : List ℕ) (r : ℕ)
    (m : AnsweringLines list classes text before after r)
    → Unpacks r m.numbers.refusal 0 (m.numbers.place + m.numbers.line_count) m.numbers.yes_lines
lines_unpacks list classes text before after r m =
    numbers_unpack r m.numbers (lines_ranges m.right) m.as_number

pub table_lines_unpacks : (table text before after : List ℕ) (r : ℕ) (m : AnsweringByTable table text before after r)
    → Unpacks r m.numbers.refusal 0 (m.numbers.place + m.numbers.line_count) m.numbers.yes_lines
table_lines_unpacks table text before after r m =
    numbers_unpack r m.numbers (table_lines_ranges m.right) m.as_number

-- two results that both fit the promise are equal
pub answering_unique : (list classes text before after after' : List ℕ) (r s : ℕ)
    → AnsweringLines list classes text before after r → AnsweringLines list classes text before after' s
    → (r ≡ s) × (after ≡ after')
answering_unique list classes text before after after' r s m n =
    let same = lines_unique m.right n.right in
    (m.as_number ∙ ap lines_packed same.0 ∙ sym n.as_number, same.1)

pub by_table_unique : (table text before after after' : List ℕ) (r s : ℕ)
    → AnsweringByTable table text before after r → AnsweringByTable table text before after' s
    → (r ≡ s) × (after ≡ after')
by_table_unique table text before after after' r s m n =
    let same = table_lines_unique m.right n.right in
    (m.as_number ∙ ap lines_packed same.0 ∙ sym n.as_number, same.1)
