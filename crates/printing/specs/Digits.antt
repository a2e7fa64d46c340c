-- A number in decimal digits, as bytes, the first digit not 0 but for the number 0 itself.
use Rattle.std.specs.Prelude.{ℕ, zero, suc, ◌+◌, ◌/◌, ◌%◌, true, false, List, [], ◌∷◌, ◌++◌, ltb}

-- the digit d as a byte
abbrev pub digit : ℕ → ℕ
digit d = 48 + d

-- the digits of n, of which there are at most steps + 1
unfoldable pub digits_within : (steps n : ℕ) → List ℕ
digits_within zero n = digit n ∷ []
digits_within (suc steps) n =
    elim (ltb n 10) [ true ↦ digit n ∷ [] | false ↦ digits_within steps (n / 10) ++ (digit (n % 10) ∷ []) ]

-- a number has no more digits than itself, and one
unfoldable pub digits : ℕ → List ℕ
digits n = digits_within n n
