-- What is drawn from the tree of an expression: the tree of its records, with the class leaves numbered in their order
-- from 0, and its classes in that order. And what its leaves mean.
use Rattle.std.specs.Prelude.{ℕ, ◌+◌, ◌≡◌, true, List, [], ◌∷◌, ◌++◌, length}
use Rattle.language.specs.Tree.{Tree, leaf, catenation, union, star}
use Rattle.language.specs.Meaning.{Meaning}
use Rattle.language.specs.Language.{Language}
use Rattle.language.specs.SignedTree.{SignedTree, SignedLanguage}
use Rattle.tree.specs.Leaf.{Leaf, character}
use Rattle.classes.specs.Class.{Class, class_takes}
use Rattle.operands.specs.Scanner.{Atom, literal, one_of, no_text, Outcome, tree, refused}

-- the classes of a tree, in the order of its leaves
abbrev pub classes_of : Tree Atom → List Class
classes_of (leaf (literal b)) = []
classes_of (leaf (one_of class)) = class ∷ []
classes_of (leaf no_text) = []
classes_of (catenation s t) = classes_of s ++ classes_of t
classes_of (union s t) = classes_of s ++ classes_of t
classes_of (star s) = classes_of s

-- how many there are
abbrev pub classes_in : Tree Atom → ℕ
classes_in t = length (classes_of t)

-- the tree of the records, where the first class leaf has the number `next`
abbrev pub recorded_from : Tree Atom → (next : ℕ) → Tree Leaf
recorded_from (leaf (literal b)) next = leaf (character b)
recorded_from (leaf (one_of class)) next = leaf (Leaf.class next)
recorded_from (leaf no_text) next = leaf Leaf.empty_text
recorded_from (catenation s t) next = catenation (recorded_from s next) (recorded_from t (next + classes_in s))
recorded_from (union s t) next = union (recorded_from s next) (recorded_from t (next + classes_in s))
recorded_from (star s) next = star (recorded_from s next)

-- the tree of an expression's records: the classes are numbered from 0
abbrev pub recorded : Tree Atom → Tree Leaf
recorded t = recorded_from t 0

-- what reading comes to, with the tree of the records
abbrev pub drawn : Outcome (Tree Atom) → Outcome (Tree Leaf)
drawn (tree t) = tree (recorded t)
drawn (refused number place) = refused number place

-- the bytes that a leaf takes as it is written
abbrev pub TakesWritten : Atom → ℕ → Type 0
TakesWritten (literal c) b = c ≡ b
TakesWritten (one_of class) b = class_takes class b ≡ true
TakesWritten no_text b = ⊥

-- the leaf for the empty text has it, and no other
abbrev pub EmptyWritten : Atom → Type 0
EmptyWritten (literal c) = ⊥
EmptyWritten (one_of class) = ⊥
EmptyWritten no_text = Unit {0}

-- what the leaves mean as they are written
abbrev pub written_meaning : Meaning Atom
written_meaning = record { Takes = TakesWritten; HasEmpty = EmptyWritten }

-- the text w lies in the language of the expression, said of its signs as they are written
abbrev pub MatchesSigns : SignedTree Atom → List ℕ → Type 0
MatchesSigns s w = SignedLanguage written_meaning s w

-- it lies in that of the tree which they stand for
abbrev pub MatchesWritten : Tree Atom → List ℕ → Type 0
MatchesWritten t w = Language written_meaning t w
