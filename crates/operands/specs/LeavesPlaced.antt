-- The tree that the labels of the scratch are of: while an expression is read, a class leaf has the place of its `.` or
-- `[` where its number will be.
use Rattle.std.specs.Prelude.{ℕ, List}
use Rattle.language.specs.Tree.{Tree}
use Rattle.language.specs.SignedTree.{SignedTree}
use Rattle.language.specs.WithLeaves.{with_leaves, signed_with_leaves, EveryLeaf, EverySignedLeaf}
use Rattle.tree.specs.Leaf.{Leaf}
use Rattle.classes.specs.ClassAt.{class_at, ClassHere}
use Rattle.operands.specs.Scanner.{Atom, literal, one_of, no_text}

-- what is written where a leaf holds a place
abbrev pub atom_at : List ℕ → Leaf → Atom
atom_at bytes (Leaf.character b) = literal b
atom_at bytes (Leaf.class at) = one_of (class_at bytes at)
atom_at bytes Leaf.empty_text = no_text

-- a class leaf holds the place of a class
abbrev pub LeafPlaced : List ℕ → Leaf → Type 0
LeafPlaced bytes (Leaf.character b) = Unit {0}
LeafPlaced bytes (Leaf.class at) = ClassHere bytes at
LeafPlaced bytes Leaf.empty_text = Unit {0}

-- the written tree of a tree whose class leaves hold places
abbrev pub written_at : List ℕ → Tree Leaf → Tree Atom
written_at bytes t = with_leaves (atom_at bytes) t

-- every class leaf holds the place of a class
abbrev pub LeavesPlaced : List ℕ → Tree Leaf → Type 0
LeavesPlaced bytes t = EveryLeaf (LeafPlaced bytes) t

-- the same of a tree with signs
abbrev pub signs_at : List ℕ → SignedTree Leaf → SignedTree Atom
signs_at bytes s = signed_with_leaves (atom_at bytes) s

abbrev pub SignsPlaced : List ℕ → SignedTree Leaf → Type 0
SignsPlaced bytes s = EverySignedLeaf (LeafPlaced bytes) s
