-- Whether a text lies in the language can be computed: by trying every way to split the text.
use Rattle.std.specs.Prelude.{ℕ, zero, suc, ◌+◌, ◌*◌, ◌/◌, ◌%◌, ◌^◌, Bool, true, false, ◌&&◌, ◌||◌, List, [], ◌∷◌, length, get_or, eqb}
use Rattle.language.specs.Tree.{Tree, leaf, catenation, union, star}
use Rattle.tree.specs.Layout.{class_record_size}
use Rattle.tree.specs.Leaf.{Leaf, character, class, empty_text, has_empty}

-- some way to split the text into two passes the test
unfoldable pub any_split : (List ℕ → List ℕ → Bool) → List ℕ → Bool
any_split test [] = test [] []
any_split test (b ∷ w) = test [] (b ∷ w) || any_split (λ u v. test (b ∷ u) v) w

-- the text is made of texts that pass the test, each of at least one byte; there are no more of them than n
unfoldable pub any_repeat : (List ℕ → Bool) → ℕ → List ℕ → Bool
any_repeat test zero [] = true
any_repeat test zero (b ∷ w) = false
any_repeat test (suc n) [] = true
any_repeat test (suc n) (b ∷ w) = any_split (λ u v. test (b ∷ u) && any_repeat test n v) w

-- the text is one byte that passes the test, or the empty text where `empty` says that this passes too
unfoldable pub leaf_text : (ℕ → Bool) → Bool → List ℕ → Bool
leaf_text test empty [] = empty
leaf_text test empty (b ∷ []) = test b
leaf_text test empty (b ∷ c ∷ w) = false

-- tests on the leaves: whether a leaf takes a byte, and whether it has the empty text
pub record Tests (A : Type 0) : Type 0 where
  pub takes : A → ℕ → Bool
  pub has_empty : A → Bool

module _ {A : Type 0} (tests : Tests A) where
  -- whether a text lies in the language of a tree
  unfoldable pub matched : Tree A → List ℕ → Bool
  matched (leaf a) w = leaf_text (tests.takes a) (tests.has_empty a) w
  matched (catenation s t) w = any_split (λ u v. matched s u && matched t v) w
  matched (union s t) w = matched s w || matched t w
  matched (star s) w = any_repeat (matched s) (length w) w

-- whether a leaf of an expression's tree takes the byte
abbrev pub takes_byte : (classes : List ℕ) → Leaf → ℕ → Bool
takes_byte classes (character c) b = eqb c b
takes_byte classes (class k) b = eqb (get_or classes (class_record_size * k + b / 8) 0 / 2 ^ (b % 8) % 2) 1
takes_byte classes empty_text b = false

-- the tests on a leaf of an expression's tree
abbrev pub leaf_tests : (classes : List ℕ) → Tests Leaf
leaf_tests classes = record { takes = takes_byte classes; has_empty = has_empty }

-- whether a text lies in the language of an expression's tree
abbrev pub matches : (classes : List ℕ) → Tree Leaf → List ℕ → Bool
matches classes = matched (leaf_tests classes)
