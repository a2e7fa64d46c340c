-- The records mean what was written: with the class records of an expression, the tree of its records has the language
-- of its written tree. A text is of bytes: no value is above 255.
use Rattle.std.specs.Prelude.{ℕ, ◌<◌, List, [], ◌∷◌}

-- every value of a text is a byte
abbrev pub OfBytes : List ℕ → Type 0
OfBytes [] = Unit {0}
OfBytes (b ∷ w) = (b < 256) × OfBytes w
