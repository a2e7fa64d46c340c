-- The tree of what was written, with `+`, `?` and counts as signs of their own and with a place at every node, and its
-- language, said of the signs themselves. The places say nothing of the language.
use Rattle.std.specs.Prelude.{ℕ, suc, ◌≤◌, ◌≡◌, List, [], ◌∷◌, ◌++◌, ◌⊎◌}
use Rattle.language.specs.Meaning.{Meaning}
use Rattle.language.specs.Language.{Repeated}

pub data SignedTree (A : Type 0) : Type 0 where
  leaf : (place : ℕ) → A → SignedTree A
  catenation : (place : ℕ) → SignedTree A → SignedTree A → SignedTree A
  union : (place : ℕ) → SignedTree A → SignedTree A → SignedTree A
  star : (place : ℕ) → SignedTree A → SignedTree A
  one_or_more : (place : ℕ) → SignedTree A → SignedTree A
  optional : (place : ℕ) → SignedTree A → SignedTree A
  counted : (place fewest most : ℕ) → SignedTree A → SignedTree A

-- in every count the fewest are at most the most, and the most are at least 1
abbrev pub WellCounted : {A : Type 0} → SignedTree A → Type 0
WellCounted (leaf place a) = Unit {0}
WellCounted (catenation place s t) = WellCounted s × WellCounted t
WellCounted (union place s t) = WellCounted s × WellCounted t
WellCounted (star place s) = WellCounted s
WellCounted (one_or_more place s) = WellCounted s
WellCounted (optional place s) = WellCounted s
WellCounted (counted place fewest most s) = (fewest ≤ most) × (1 ≤ most) × WellCounted s

-- n texts of L, joined
pub data Joined (L : List ℕ → Type 0) : ℕ → List ℕ → Type 0 where
  none : Joined L 0 []
  more : {n : ℕ} {u v : List ℕ} → L u → Joined L n v → Joined L (suc n) (u ++ v)

module _ {A : Type 0} (M : Meaning A) where
  -- leaf, catenation, union and star as in a tree; `+` one or more texts of its operand joined; `?` none or one; a
  -- count from `fewest` to `most` of them
  abbrev pub SignedLanguage : SignedTree A → List ℕ → Type 0
  SignedLanguage (leaf place a) w = ((b : ℕ) × (w ≡ b ∷ []) × M.Takes a b) ⊎ ((w ≡ []) × M.HasEmpty a)
  SignedLanguage (catenation place s t) w =
      (u : List ℕ) × (v : List ℕ) × (w ≡ u ++ v) × SignedLanguage s u × SignedLanguage t v
  SignedLanguage (union place s t) w = SignedLanguage s w ⊎ SignedLanguage t w
  SignedLanguage (star place s) w = Repeated (SignedLanguage s) w
  SignedLanguage (one_or_more place s) w = (k : ℕ) × (1 ≤ k) × Joined (SignedLanguage s) k w
  SignedLanguage (optional place s) w = (k : ℕ) × (k ≤ 1) × Joined (SignedLanguage s) k w
  SignedLanguage (counted place fewest most s) w =
      (k : ℕ) × (fewest ≤ k) × (k ≤ most) × Joined (SignedLanguage s) k w
