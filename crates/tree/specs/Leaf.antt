-- What a leaf of a tree holds, and what it means: all other crates reach a leaf's meaning through this file, so that a
-- new kind of leaf is a constructor and a clause of each definition here.
use Rattle.std.specs.Prelude.{ℕ, ◌+◌, ◌*◌, ◌/◌, ◌%◌, ◌^◌, ◌≡◌, Bool, true, false, List, [], get_or}
use Rattle.language.specs.Tree.{Tree}
use Rattle.language.specs.Meaning.{Meaning}
use Rattle.language.specs.Language.{Language}
use Rattle.tree.specs.Layout.{class_record_size}

-- a character is a byte; a class is told by its number, and the set of its bytes stands in the class records; the third
-- holds nothing, and the empty text is its only text
pub data Leaf : Type 0 where
  character : ℕ → Leaf
  class : ℕ → Leaf
  empty_text : Leaf

-- the byte b lies in class k: bit b % 8 of byte b / 8 of its record is 1; a byte past the records' end counts as 0
abbrev pub InClass : (classes : List ℕ) → (k b : ℕ) → Type 0
InClass classes k b = get_or classes (class_record_size * k + b / 8) 0 / 2 ^ (b % 8) % 2 ≡ 1

-- the bytes that a leaf takes: a character takes the byte that it is, a class those that lie in it, the leaf of the
-- empty text none
abbrev pub TakesByte : (classes : List ℕ) → Leaf → ℕ → Type 0
TakesByte classes (character c) b = c ≡ b
TakesByte classes (class k) b = InClass classes k b
TakesByte classes empty_text b = ⊥

-- whether a leaf has the empty text
abbrev pub has_empty : Leaf → Bool
has_empty (character c) = false
has_empty (class k) = false
has_empty empty_text = true

-- what the leaves mean, by the class records
abbrev pub meaning : (classes : List ℕ) → Meaning Leaf
meaning classes = record { Takes = TakesByte classes; HasEmpty = λ a. has_empty a ≡ true }

-- what they mean with no class record: closing asks only for the empty text, and that is the same by all records
abbrev pub byteless : Meaning Leaf
byteless = meaning []

-- the text w lies in the language of the expression's tree t
abbrev pub Matches : (classes : List ℕ) → Tree Leaf → List ℕ → Type 0
Matches classes t w = Language (meaning classes) t w
