-- The texts of the trees that signs stand for: of `repeated` one or more texts of the operand joined, of `perhaps` none
-- or one, of `times` as many as the count allows.
use Rattle.std.specs.Prelude.{ℕ, ◌≤◌, List}
use Rattle.language.specs.SignedTree.{Joined}

-- between `fewest` and `most` texts of L, joined
abbrev pub Between : (L : List ℕ → Type 0) (fewest most : ℕ) → List ℕ → Type 0
Between L fewest most w = (k : ℕ) × (fewest ≤ k) × (k ≤ most) × Joined L k w
