-- The numbers that a start or a step gives back: one definition for each case of its answer, by the table of refusals.
use Rattle.std.specs.Prelude.{ℕ, Bool, false, Result, Ok, Err}
use Rattle.tree.specs.Refusing.{refusal_number}
use Rattle.tree.specs.declared.refusal.Refusal.{Refusal}
use Rattle.stepping.specs.declared.inner.Told.{Told}
-- the refusal's number, 0 for none, and its place; whether the root's accepting state is now marked, and whether
-- nothing is left
pub use Rattle.marks.specs.declared.numbers.MarksNumbers.{MarksNumbers}

-- a refusal gives back its number, place 0, and neither flag
abbrev pub refusing_marks : (number : ℕ) → MarksNumbers
refusing_marks number = record { refusal = number; place = 0; accepting = false; nothing = false }

-- where nothing is refused, the marks say whether the accepting state is among them, and whether there are none
abbrev pub marking : (accepting nothing : Bool) → MarksNumbers
marking accepting nothing = record { refusal = 0; place = 0; accepting = accepting; nothing = nothing }

-- the numbers that each case of an answer gives back
abbrev pub marks_numbers : Result Told Refusal → MarksNumbers
marks_numbers (Ok told) = marking told.accepting told.nothing
marks_numbers (Err refusal) = refusing_marks (refusal_number refusal)
