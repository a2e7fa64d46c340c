-- `table_lines::lines_by_table` meets its contract: a table that is too short is refused, then a text that is too long,
-- then a buffer that is too short; otherwise what is written of each line is what the table says of it.
use Rattle.std.proofs.Common.{arith, refl, rules}
use Rattle.lines.specs.LinesLoop.{written_tells}
use Rattle.table_lines.specs.Promise.{table_short, text_long, no_room, answered}
use Rattle.table_lines.proofs.lines_by_table.Goals as goal

pub returns-then-table-lt-HEADING : goal.returns-then-table-lt-HEADING
returns-then-table-lt-HEADING c =
    table_short (omega (arith, c.if-table-lt-HEADING.true)) refl

pub returns-then-text-gt-LONGEST_TEXT : goal.returns-then-text-gt-LONGEST_TEXT
returns-then-text-gt-LONGEST_TEXT c =
    text_long (omega (arith, c.if-table-lt-HEADING.false)) (omega (arith, c.if-text-gt-LONGEST_TEXT.true)) refl

pub returns-then-not-has_room : goal.returns-then-not-has_room
returns-then-not-has_room c =
    let more = c.has_room.ensures.fails (search rules) in
    no_room
    (record {
      long_enough = omega (arith, c.if-table-lt-HEADING.false);
      short = omega (arith, c.if-text-gt-LONGEST_TEXT.false);
    })
    (omega (arith, more)) refl

pub returns : goal.returns
returns c =
    answered
    (record {
      long_enough = omega (arith, c.if-table-lt-HEADING.false);
      short = omega (arith, c.if-text-gt-LONGEST_TEXT.false);
    })
    (written_tells (λ line matched short says. search rules) c.answer_lines-counts.ensures)
