-- The numbers that match and search give back, for each case of their answers.
use Rattle.std.specs.Prelude.{ℕ, Bool, true, false, Option, None, Some, is_some, Result, Ok, Err}
use Rattle.tree.specs.Refusing.{refusal_number}
use Rattle.tree.specs.declared.refusal.Refusal.{Refusal}
use Rattle.matching.specs.declared.part.Span.{Span}
use Rattle.finder.specs.declared.numbers.FoundNumbers.{FoundNumbers}

-- a refusal gives its number and place 0
abbrev pub refusing_match : (number : ℕ) → FoundNumbers
refusing_match number = record { refusal = number; place = 0; matched = false; start = 0; end = 0 }

-- whether the text, or a part of it, is in the language
abbrev pub answering_match : Bool → FoundNumbers
answering_match matched = record { refusal = 0; place = 0; matched = matched; start = 0; end = 0 }

-- the part that was found, by its start and its end
abbrev pub finding : (start end : ℕ) → FoundNumbers
finding start end = record { refusal = 0; place = 0; matched = true; start = start; end = end }

-- the numbers of each answer of a match
abbrev pub match_numbers : Result Bool Refusal → FoundNumbers
match_numbers (Ok matched) = answering_match matched
match_numbers (Err refusal) = refusing_match (refusal_number refusal)

-- a match is a search of the whole text alone: yes where it is found
abbrev pub as_match : Result (Option Span) Refusal → Result Bool Refusal
as_match (Ok found) = Ok (is_some found)
as_match (Err refusal) = Err refusal

-- the numbers of each answer of a search
abbrev pub search_numbers : Result (Option Span) Refusal → FoundNumbers
search_numbers (Ok (Some found)) = finding found.start found.end
search_numbers (Ok None) = answering_match false
search_numbers (Err refusal) = refusing_match (refusal_number refusal)
