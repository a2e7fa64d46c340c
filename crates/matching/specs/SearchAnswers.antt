-- What the answers of search say.
use Rattle.std.specs.Prelude.{ℕ, Bool, true, false, Option, None, Some}
use Rattle.matching.specs.Found.{SearchOutcome, at, nothing}
use Rattle.matching.specs.declared.part.Span.{Span}

-- the furthest end, if any
abbrev pub end_of : Option ℕ → Option ℕ
end_of (Some e) = Some e
end_of None = None

-- the part found, or nothing
abbrev pub answer_of : Option Span → SearchOutcome
answer_of (Some found) = at found.start found.end
answer_of None = nothing

-- whether a part was found
abbrev pub is_part : Option Span → Bool
is_part (Some found) = true
is_part None = false
