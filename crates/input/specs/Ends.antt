-- Where a line ends, and where the next one begins.
use Rattle.std.specs.Prelude.{ℕ, ◌+◌, ◌≤◌, ◌<◌, ◌≡◌, cond, List, [], ◌∷◌, length, drop, eqb}
use Rattle.input.specs.Lines.{begins_end}

-- how many bytes the end at the front has: one for 10, two for 13 and 10; none where no end stands there
abbrev pub end_size : List ℕ → ℕ
end_size [] = 0
end_size (b ∷ rest) = cond (eqb b 10) 1 (cond (begins_end b rest) 2 0)

-- the line that begins at `start` ends at `end`: where the first end from there on stands, or the input is over
pub record Ends (input : List ℕ) (start end : ℕ) : Type 0 where
  pub ordered : start ≤ end
  pub inside : end ≤ length input
  pub unbroken : (i : ℕ) → start ≤ i → i < end → end_size (drop i input) ≡ 0
  pub stops : end < length input → 0 < end_size (drop end input)

-- the place after the end
abbrev pub after_end : (input : List ℕ) (end : ℕ) → ℕ
after_end input end = end + end_size (drop end input)
