-- The lines that are printed of texts, of a refusal and of an input that is too long.
use Rattle.std.specs.Prelude.{ℕ, ◌-◌, Bool, true, false, List, ◌++◌}
use Rattle.operands.specs.Text.{bytes}
use Rattle.printing.specs.Digits.{digits}

-- the line of a text: its number, `yes` or `no`, and its rank among the yes lines, or `-`
abbrev pub text_line : Bool → (number rank : ℕ) → List ℕ
text_line true number rank = digits number ++ bytes " yes " ++ digits rank ++ bytes "\n"
text_line false number rank = digits number ++ bytes " no -\n"

-- the last line: how many texts, yes lines and no lines
abbrev pub total_line : (texts yes_lines : ℕ) → List ℕ
total_line count yes_lines =
    bytes "total " ++ digits count ++ bytes " yes " ++ digits yes_lines ++ bytes " no " ++ digits (count - yes_lines)
    ++ bytes "\n"

-- a refusal: its number, and its place
abbrev pub refused_at : (number place : ℕ) → List ℕ
refused_at number place = bytes "refused " ++ digits number ++ bytes " at " ++ digits place

-- the only line for an expression that is refused
abbrev pub refusal_line : (number place : ℕ) → List ℕ
refusal_line number place = bytes "refused " ++ digits number ++ bytes " at " ++ digits place ++ bytes "\n"

-- the only line for an input that is too long
abbrev pub too_long_line : List ℕ
too_long_line = bytes "input too long\n"
