-- How bytes are shown: those from 32 to 126 as they are, each other one as `\x` and two hexadecimal digits.
use Rattle.std.specs.Prelude.{ℕ, ◌+◌, ◌/◌, ◌%◌, Bool, cond, ◌&&◌, List, [], ◌∷◌, ◌++◌, length, replicate, ltb}

-- a digit below 16, from 10 on a small letter
abbrev pub hex_digit : ℕ → ℕ
hex_digit d = cond (ltb d 10) (48 + d) (87 + d)

-- whether a byte is shown as it is
abbrev pub printable : ℕ → Bool
printable b = ltb 31 b && ltb b 127

-- a byte as it is shown
unfoldable pub shown_byte : ℕ → List ℕ
shown_byte b = cond (printable b) (b ∷ []) (92 ∷ 120 ∷ hex_digit (b / 16) ∷ hex_digit (b % 16) ∷ [])

-- how many columns it takes
abbrev pub shown_width : ℕ → ℕ
shown_width b = length (shown_byte b)

-- bytes as they are shown
unfoldable pub shown : List ℕ → List ℕ
shown [] = []
shown (b ∷ rest) = shown_byte b ++ shown rest

-- so many spaces
unfoldable pub spaces : ℕ → List ℕ
spaces count = replicate count 32
