-- The three lines of a refusal, and what a lent buffer gets of them.
use Rattle.std.specs.Prelude.{ℕ, cond, List, [], ◌++◌, ltb}
use Rattle.showing.specs.CutShort.{marked_lines}
use Rattle.wording.specs.RefusalWords.{told_line}

-- how many bytes of a buffer are always enough
abbrev pub most_shown : ℕ
most_shown = 256

-- the expression, the caret, and the refusal in words
abbrev pub refusal_lines : List ℕ → (number place : ℕ) → List ℕ
refusal_lines bytes number place = marked_lines bytes place ++ told_line number place

-- what is written into a buffer of `room` bytes: nothing where it is too short for some refusal
abbrev pub lent_refusal : (room : ℕ) → List ℕ → (number place : ℕ) → List ℕ
lent_refusal room bytes number place = cond (ltb room most_shown) [] (refusal_lines bytes number place)
