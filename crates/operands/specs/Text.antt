-- Written words as bytes, so that an example reads as it is typed.
use Rattle.std.specs.Prelude.{ℕ, List, [], ◌∷◌}
use Prim.Native.Char.{code}
use Prim.Native.String.{String, [] as no-letters, ◌∷◌ as ◌and◌}

-- the bytes of plain letters, one for each
abbrev pub bytes : String → List ℕ
bytes no-letters = []
bytes (◌and◌ letter letters) = code letter ∷ bytes letters
