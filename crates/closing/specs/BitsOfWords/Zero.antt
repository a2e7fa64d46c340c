-- Words of 0.
use Rattle.std.specs.Prelude.{ℕ, ◌<◌, ◌≡◌, List, get_or}

-- the first so many words are 0
abbrev pub AllZero : ℕ → List ℕ → Type 0
AllZero count words = (k : ℕ) → k < count → get_or words k 0 ≡ 0
