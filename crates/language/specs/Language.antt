-- The language of a tree, after Bille's paper (docs/REFERENCE.md, section 11): which texts, lists of bytes, it matches.
use Rattle.std.specs.Prelude.{ℕ, ◌≡◌, List, [], ◌∷◌, ◌++◌, ◌⊎◌}
use Rattle.language.specs.Tree.{Tree, leaf, catenation, union, star}
use Rattle.language.specs.Meaning.{Meaning}

-- zero or more texts of L, joined
pub data Repeated (L : List ℕ → Type 0) : List ℕ → Type 0 where
  none : Repeated L []
  more : {u v : List ℕ} → L u → Repeated L v → Repeated L (u ++ v)

module _ {A : Type 0} (M : Meaning A) where
  -- a leaf gives the one-byte texts that it takes, and the empty text where it has it; catenation a text of the first
  -- followed by one of the second; union texts of either; star zero or more texts of its operand joined
  abbrev pub Language : Tree A → List ℕ → Type 0
  Language (leaf a) w = ((b : ℕ) × (w ≡ b ∷ []) × M.Takes a b) ⊎ ((w ≡ []) × M.HasEmpty a)
  Language (catenation s t) w = (u : List ℕ) × (v : List ℕ) × (w ≡ u ++ v) × Language s u × Language t v
  Language (union s t) w = Language s w ⊎ Language t w
  Language (star s) w = Repeated (Language s) w
