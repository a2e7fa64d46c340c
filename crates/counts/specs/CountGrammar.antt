-- The written form of a count, as the prose has it: two numbers with a comma between them, each 0 to 16 in decimal with
-- no leading zero, the first not above the second, and the second at least 1.
use Rattle.std.specs.Prelude.{ℕ, ◌+◌, ◌*◌, ◌≤◌, ◌<◌, ◌≡◌, List, ◌∷◌}
use Rattle.counts.specs.Count.{largest}

-- a byte is the digit of a value
pub record IsDigit (b value : ℕ) : Type 0 where
  pub same : b ≡ 48 + value
  pub small : value < 10

-- `SpellsNumber bytes rest v`: the bytes begin with v in decimal, and `rest` follows it. Of more digits the first is
-- not 0
pub data SpellsNumber : List ℕ → List ℕ → ℕ → Type 0 where
  one_digit : {b value : ℕ} {rest : List ℕ} → IsDigit b value → SpellsNumber (b ∷ rest) rest value
  more_digits : {bytes rest : List ℕ} {b value before : ℕ} → SpellsNumber bytes (b ∷ rest) before → 1 ≤ before
      → IsDigit b value → SpellsNumber bytes rest (10 * before + value)

-- a count, from after its `{` up to its `}`
pub data SpellsCount : List ℕ → List ℕ → (fewest most : ℕ) → Type 0 where
  from_to : {bytes between rest : List ℕ} {fewest most : ℕ} → SpellsNumber bytes (44 ∷ between) fewest
      → SpellsNumber between (125 ∷ rest) most → fewest ≤ most → 1 ≤ most → most ≤ largest
      → SpellsCount bytes rest fewest most
