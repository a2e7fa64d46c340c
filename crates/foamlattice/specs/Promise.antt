-- What each call of the outside interface answers: the number that an answer is packed into, and that the answer is
-- right.
use Rattle.std.specs.Prelude.{ℕ, ◌+◌, ◌*◌, ◌≡◌, cond, List, Result, Ok, Err}
use Rattle.tree.specs.declared.refusal.Refusal.{Refusal}
use Rattle.reader.specs.Answer.{ReadNumbers}
use Rattle.checker.specs.Checked.{CountedNumbers}
use Rattle.marks.specs.declared.numbers.MarksNumbers.{MarksNumbers}
use Rattle.marks.specs.Promise.{Starts, Steps}
use Rattle.marks.specs.StepsEach.{StepsEach}
use Rattle.finder.specs.declared.numbers.FoundNumbers.{FoundNumbers}
use Rattle.finder.specs.Promise.{MatchAnswers, SearchAnswers}
use Rattle.lines.specs.Answer.{LinesNumbers}
use Rattle.lines.specs.Promise.{LinesAnswers}
use Rattle.table_lines.specs.Promise.{TableLinesAnswers}
use Rattle.picker.specs.Promise.{Picks}
use Rattle.widen.specs.Promise.{Widens, widen_refusal}
use Rattle.running.specs.declared.numbers.TableNumbers.{TableNumbers}
use Rattle.making.specs.declared.numbers.MadeNumbers.{MadeNumbers}
use Rattle.making.specs.Promise.{Makes}
use Rattle.one_number.specs.Packed.{packed}

-- read: x is the count of records, or the place of a refusal, the other of which is 0; y is the count of pieces
abbrev pub read_packed : ReadNumbers → ℕ
read_packed n = packed n.refusal 0 (n.place + n.records) n.pieces

-- read2 and the checks: x as for read; y is the count of pieces, which is below 256, and 256 times that of classes
abbrev pub second_packed : CountedNumbers → ℕ
second_packed n = packed n.refusal 0 (n.place + n.records) (n.pieces + 256 * n.classes)

-- match and search: the flag is 1 for yes, or where a part was found; x is that part's start, or the place of a
-- refusal, and y is its end
abbrev pub found_packed : FoundNumbers → ℕ
found_packed n = packed n.refusal (cond n.matched 1 0) (n.place + n.start) n.end

-- start and step: the flag is 1 where the root's accepting state is marked; x is 1 where nothing is left, or the place
-- of a refusal
abbrev pub marks_packed : MarksNumbers → ℕ
marks_packed n = packed n.refusal (cond n.accepting 1 0) (n.place + cond n.nothing 1 0) 0

-- lines: x is the count of lines, or the place of a refusal; y is the count of yes lines
abbrev pub lines_packed : LinesNumbers → ℕ
lines_packed n = packed n.refusal 0 (n.place + n.line_count) n.yes_lines

-- pick: the flag is 1 where the output was written; x is its length
abbrev pub pick_flag : Result ℕ Refusal → ℕ
pick_flag (Ok size) = 1
pick_flag (Err refusal) = 0

abbrev pub pick_length : Result ℕ Refusal → ℕ
pick_length (Ok size) = size
pick_length (Err refusal) = 0

abbrev pub pick_packed : Result ℕ Refusal → ℕ
pick_packed answer = packed 0 (pick_flag answer) (pick_length answer) 0

-- widen: x is the count of records
abbrev pub widen_count : Result ℕ Refusal → ℕ
widen_count (Ok records) = records
widen_count (Err refusal) = 0

abbrev pub widen_packed : Result ℕ Refusal → ℕ
widen_packed answer = packed (widen_refusal answer) 0 (widen_count answer) 0

-- table: the flag is 1 where the table was made; x is the count of its states, y that of its entries
abbrev pub made_packed : MadeNumbers → ℕ
made_packed n = packed n.refusal (cond n.made 1 0) n.states n.entries

-- match by table: the flag is 1 for yes
abbrev pub table_packed : TableNumbers → ℕ
table_packed n = packed n.refusal (cond n.matched 1 0) 0 0

-- the number r packs right numbers of a match
pub record Matching (list classes text : List ℕ) (r : ℕ) : Type 0 where
  pub numbers : FoundNumbers
  pub right : MatchAnswers list classes text numbers
  pub as_number : r ≡ found_packed numbers

-- the number r packs right numbers of a search
pub record Searching (list classes text : List ℕ) (r : ℕ) : Type 0 where
  pub numbers : FoundNumbers
  pub right : SearchAnswers list classes text numbers
  pub as_number : r ≡ found_packed numbers

-- the words afterwards and the number r are those of a right start
pub record Starting (list classes before after : List ℕ) (r : ℕ) : Type 0 where
  pub numbers : MarksNumbers
  pub right : Starts list classes before after numbers
  pub as_number : r ≡ marks_packed numbers

-- the words afterwards and the number r are those of a right step
pub record Stepping (list classes : List ℕ) (byte : ℕ) (before after : List ℕ) (r : ℕ) : Type 0 where
  pub numbers : MarksNumbers
  pub right : Steps list classes byte before after numbers
  pub as_number : r ≡ marks_packed numbers

-- the words afterwards and the number r are those of right steps, one for each byte
pub record SteppingEach (list classes before bytes after : List ℕ) (r : ℕ) : Type 0 where
  pub numbers : MarksNumbers
  pub right : StepsEach list classes before bytes after numbers
  pub as_number : r ≡ marks_packed numbers

-- the buffer afterwards and the number r are those of right answers for the lines of a text
pub record AnsweringLines (list classes text before after : List ℕ) (r : ℕ) : Type 0 where
  pub numbers : LinesNumbers
  pub right : LinesAnswers list classes text before after numbers
  pub as_number : r ≡ lines_packed numbers

-- the buffer afterwards and the number r are those of right answers for the lines of a text by a table of steps
pub record AnsweringByTable (table text before after : List ℕ) (r : ℕ) : Type 0 where
  pub numbers : LinesNumbers
  pub right : TableLinesAnswers table text before after numbers
  pub as_number : r ≡ lines_packed numbers

-- the buffer afterwards and the number r are those of a right picking
pub record Picking (input before after : List ℕ) (r : ℕ) : Type 0 where
  pub answer : Result ℕ Refusal
  pub right : Picks input before after answer
  pub as_number : r ≡ pick_packed answer

-- the buffer afterwards and the number r are those of a right turning of an old list into one of today
pub record Widening (old before after : List ℕ) (r : ℕ) : Type 0 where
  pub answer : Result ℕ Refusal
  pub right : Widens old before after answer
  pub as_number : r ≡ widen_packed answer

-- the table and the room afterwards and the number r are those of a right making of a table
pub record Tabling (list classes table after room cleared : List ℕ) (r : ℕ) : Type 0 where
  pub numbers : MadeNumbers
  pub right : Makes list classes table after room cleared numbers
  pub as_number : r ≡ made_packed numbers
