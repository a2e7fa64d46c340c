-- A part of a text.
use Rattle.std.specs.Prelude.{ℕ, List, take, drop}

-- the part of a text from its byte s up to, not including, its byte e
abbrev pub part : ℕ → ℕ → List ℕ → List ℕ
part s e text = drop s (take e text)
