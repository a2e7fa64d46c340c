-- What is found in a text: the whole text, or the part that starts earliest and then ends furthest.
use Rattle.std.specs.Prelude.{ℕ, ◌≡◌, true, ◌↔◌, List, Option, is_some}
use Rattle.matching.specs.Found.{Answers}
use Rattle.matching.specs.SearchAnswers.{answer_of}
use Rattle.matching.specs.declared.part.Span.{Span}
use Rattle.finding.specs.declared.Sought.{Sought}
use Rattle.finding.specs.declared.Sought.TheVariants.{WholeText, FirstPart}

-- the whole text is found exactly where it is in the language, and of the parts the right one
abbrev pub FoundOf : (L : List ℕ → Type 0) (text : List ℕ) → Sought → Option Span → Type 0
FoundOf L text WholeText found = (is_some found ≡ true) ↔ L text
FoundOf L text FirstPart found = Answers L text (answer_of found)
