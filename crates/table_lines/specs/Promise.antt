-- What running a table over the lines of a text promises: each line's byte is what the table says of that line.
use Rattle.std.specs.Prelude.{ℕ, ◌≤◌, ◌<◌, ◌≡◌, Bool, List, Result, length}
use Rattle.tree.specs.RefusalNumbers.{text_too_long, buffer_too_short, table_too_short}
use Rattle.tree.specs.Limits.{longest_text}
use Rattle.running.specs.Runs.{runs}
use Rattle.running.specs.Answer.{shortest_table}
use Rattle.input.specs.Lines.{lines}
use Rattle.lines.specs.Answer.{LinesNumbers, refusing_lines, counting_lines, lines_numbers}
use Rattle.lines.specs.Promise.{LinesWritten}
use Rattle.tree.specs.declared.counted.LineCounts.{LineCounts}
use Rattle.tree.specs.declared.refusal.Refusal.{Refusal}

-- the numbers that each case of an answer gives back: those of the lines' answers
abbrev pub table_lines_numbers : Result LineCounts Refusal → LinesNumbers
table_lines_numbers = lines_numbers

-- the table says yes or no of a line
abbrev pub TableSays : (table : List ℕ) → List ℕ → Bool → Type 0
TableSays table line matched = matched ≡ runs table line

-- there are entries enough, and the text has at most 65,536 bytes
pub record Runnable (table text : List ℕ) : Type 0 where
  pub long_enough : shortest_table ≤ length table
  pub short : length text ≤ longest_text

-- the numbers given back, and the buffer afterwards: 28 where the table is too short, then 11 where the text is too
-- long, then 9 where the buffer has fewer bytes than there are lines; else the answers
pub data TableLinesAnswers (table text before after : List ℕ) : LinesNumbers → Type 0 where
  table_short : length table < shortest_table → after ≡ before
      → TableLinesAnswers table text before after (refusing_lines table_too_short)
  text_long : shortest_table ≤ length table → longest_text < length text → after ≡ before
      → TableLinesAnswers table text before after (refusing_lines text_too_long)
  no_room : Runnable table text → length before < length (lines text) → after ≡ before
      → TableLinesAnswers table text before after (refusing_lines buffer_too_short)
  answered : {line_count yes_lines : ℕ} → Runnable table text
      → LinesWritten (TableSays table) text before after line_count yes_lines
      → TableLinesAnswers table text before after (counting_lines line_count yes_lines)
