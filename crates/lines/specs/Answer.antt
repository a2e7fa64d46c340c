-- The numbers that matching the lines of a text gives back: one definition for each case of its answer.
use Rattle.std.specs.Prelude.{ℕ, Result, Ok, Err}
use Rattle.tree.specs.Refusing.{refusal_number}
use Rattle.tree.specs.declared.refusal.Refusal.{Refusal}
use Rattle.tree.specs.declared.counted.LineCounts.{LineCounts}

-- the refusal's number, 0 for none, and its place; how many lines there are, and how many of them are yes
pub record LinesNumbers : Type 0 where
  pub refusal : ℕ
  pub place : ℕ
  pub line_count : ℕ
  pub yes_lines : ℕ

-- a refusal gives its number and place 0
abbrev pub refusing_lines : (number : ℕ) → LinesNumbers
refusing_lines number = record { refusal = number; place = 0; line_count = 0; yes_lines = 0 }

-- where nothing is refused, the two counts
abbrev pub counting_lines : (line_count yes_lines : ℕ) → LinesNumbers
counting_lines line_count yes_lines = record { refusal = 0; place = 0; line_count = line_count; yes_lines = yes_lines }

-- the numbers that each case of an answer gives back
abbrev pub lines_numbers : Result LineCounts Refusal → LinesNumbers
lines_numbers (Ok counts) = counting_lines counts.lines counts.yes
lines_numbers (Err refusal) = refusing_lines (refusal_number refusal)
