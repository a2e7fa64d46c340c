-- The numbers that the making of a table gives back, for each case of its answer.
use Rattle.std.specs.Prelude.{ℕ, true, false, Option, Some, None, Result, Ok, Err}
use Rattle.tree.specs.Refusing.{refusal_number}
use Rattle.tree.specs.declared.refusal.Refusal.{Refusal}
use Rattle.tabulating.specs.declared.Made.{Made}
use Rattle.making.specs.declared.numbers.MadeNumbers.{MadeNumbers}

-- no table was made: a refusal gives its number, a table that does not fit 0
abbrev pub not_made : (refusal : ℕ) → MadeNumbers
not_made refusal = record { refusal = refusal; made = false; states = 0; entries = 0 }

-- the table was made, with so many states and entries
abbrev pub making : (states entries : ℕ) → MadeNumbers
making states entries = record { refusal = 0; made = true; states = states; entries = entries }

-- the numbers of each answer
abbrev pub made_numbers : Result (Option Made) Refusal → MadeNumbers
made_numbers (Ok (Some made)) = making made.states made.entries
made_numbers (Ok None) = not_made 0
made_numbers (Err refusal) = not_made (refusal_number refusal)
