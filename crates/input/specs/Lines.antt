-- The lines of the input: byte 10 ends a line, a byte 13 directly before it belongs to the end, and last bytes without
-- an end are a line if there is at least one.
use Rattle.std.specs.Prelude.{ℕ, Bool, false, ◌&&◌, cond, List, [], ◌∷◌, eqb}

-- a byte at the front of the first line, which begins with it where there is none yet
abbrev pub in_line : ℕ → List (List ℕ) → List (List ℕ)
in_line b [] = (b ∷ []) ∷ []
in_line b (line ∷ lines) = (b ∷ line) ∷ lines

-- whether a byte with these after it is a 13 directly before a 10
abbrev pub begins_end : ℕ → List ℕ → Bool
begins_end b [] = false
begins_end b (c ∷ rest) = eqb b 13 && eqb c 10

-- byte 10 ends a line, a byte 13 directly before it is in no line, every other byte is one of its line
unfoldable pub lines : List ℕ → List (List ℕ)
lines [] = []
lines (b ∷ rest) = cond (eqb b 10) ([] ∷ lines rest) (cond (begins_end b rest) (lines rest) (in_line b (lines rest)))

-- the first line is the expression, empty if there is no input
abbrev pub expression : List (List ℕ) → List ℕ
expression [] = []
expression (line ∷ texts) = line

-- each later line is a text
abbrev pub texts : List (List ℕ) → List (List ℕ)
texts [] = []
texts (line ∷ later) = later
