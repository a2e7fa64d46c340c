-- The numbers that a match by table gives back: for each case of its answer, and for each table and text.
use Rattle.std.specs.Prelude.{ℕ, Bool, false, cond, List, ltb, length, Result, Ok, Err}
use Rattle.tree.specs.RefusalNumbers.{table_too_short}
use Rattle.tree.specs.Refusing.{refusal_number}
use Rattle.tree.specs.declared.refusal.Refusal.{Refusal}
use Rattle.running.specs.Runs.{runs}
use Rattle.running.specs.declared.numbers.TableNumbers.{TableNumbers}

-- the entries that say where columns begin: one for each byte, and one for the column of accepting
abbrev pub shortest_table : ℕ
shortest_table = 257

-- a refusal gives its number
abbrev pub refusing_table : (number : ℕ) → TableNumbers
refusing_table number = record { refusal = number; matched = false }

-- whether the table accepts the text
abbrev pub answering_table : Bool → TableNumbers
answering_table matched = record { refusal = 0; matched = matched }

-- the numbers of each answer
abbrev pub table_numbers : Result Bool Refusal → TableNumbers
table_numbers (Ok matched) = answering_table matched
table_numbers (Err refusal) = refusing_table (refusal_number refusal)

-- the numbers for a table and a text: a table that is too short is refused, else it runs
abbrev pub table_answered : (table text : List ℕ) → TableNumbers
table_answered table text =
    cond (ltb (length table) shortest_table) (refusing_table table_too_short) (answering_table (runs table text))
