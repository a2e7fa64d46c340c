-- What matching the lines of a text promises: each line's byte is what match answers for that line.
use Rattle.std.specs.Prelude.{ℕ, ◌+◌, ◌≤◌, ◌<◌, ◌≡◌, Bool, cond, List, [], ◌∷◌, ◌++◌, length, drop}
use Rattle.tree.specs.RefusalNumbers.{buffer_too_short}
use Rattle.finder.specs.Answer.{answering_match}
use Rattle.finder.specs.Promise.{OfGood, Refuses, MatchAnswers}
use Rattle.input.specs.Lines.{lines}
use Rattle.lines.specs.Answer.{LinesNumbers, refusing_lines, counting_lines}

-- the byte of a line: 1 for yes, 0 for no
abbrev pub answer_byte : Bool → ℕ
answer_byte matched = cond matched 1 0

-- a byte for each line, by what is said of it, and how many of them are yes
pub data EachAnswered (Says : List ℕ → Bool → Type 0) : (texts : List (List ℕ)) (bytes : List ℕ) (yes_lines : ℕ)
    → Type 0 where
  no_line : EachAnswered Says [] [] 0
  line_answered : {line : List ℕ} {later : List (List ℕ)} {bytes : List ℕ} {yes_lines : ℕ} {matched : Bool}
      → Says line matched → EachAnswered Says later bytes yes_lines
      → EachAnswered Says (line ∷ later) (answer_byte matched ∷ bytes) (answer_byte matched + yes_lines)

-- the answers for the lines of a text stand at the front of the buffer, and past them what was there
pub record LinesWritten (Says : List ℕ → Bool → Type 0) (text before after : List ℕ) (line_count yes_lines : ℕ) :
    Type 0 where
  pub bytes : List ℕ
  pub each : EachAnswered Says (lines text) bytes yes_lines
  pub counted : line_count ≡ length (lines text)
  pub room : length (lines text) ≤ length before
  pub stored : after ≡ bytes ++ drop (length (lines text)) before

-- match says yes or no of a line
abbrev pub MatchSays : (list classes : List ℕ) → List ℕ → Bool → Type 0
MatchSays list classes line matched = MatchAnswers list classes line (answering_match matched)

-- the numbers given back, and the buffer afterwards: a refusal of match for the whole text, 10, 15 or 11; else 9 where
-- the buffer has fewer bytes than there are lines; else the answers
pub data LinesAnswers (list classes text before after : List ℕ) : LinesNumbers → Type 0 where
  lines_refused : {number : ℕ} → Refuses list classes text number → after ≡ before
      → LinesAnswers list classes text before after (refusing_lines number)
  lines_no_room : OfGood list classes text (λ t. length before < length (lines text)) → after ≡ before
      → LinesAnswers list classes text before after (refusing_lines buffer_too_short)
  lines_answered : {line_count yes_lines : ℕ}
      → OfGood list classes text (λ t. LinesWritten (MatchSays list classes) text before after line_count yes_lines)
      → LinesAnswers list classes text before after (counting_lines line_count yes_lines)
