-- What an expression comes to with the tree that its signs stand for: 17 where that tree has more than 2,047 nodes.
use Rattle.std.specs.Prelude.{cond, List, ℕ, ltb}
use Rattle.language.specs.Tree.{Tree, nodes}
use Rattle.language.specs.SignedTree.{SignedTree}
use Rattle.language.specs.StandsFor.{stands_for}
use Rattle.tree.specs.Limits.{most_labels}
use Rattle.tree.specs.RefusalNumbers.{too_many_nodes}
use Rattle.operands.specs.Bytes.{Syntax}
use Rattle.operands.specs.Scanner.{Atom, no_text, Outcome, tree, refused, scanned}

-- the tree that the signs of an expression stand for
abbrev pub expansion : SignedTree Atom → Tree Atom
expansion s = stands_for no_text s

-- a fault of form stays; else 17 where the tree that the signs stand for has more than 2,047 nodes; else that tree
abbrev pub expanded_for : Outcome (SignedTree Atom) → Outcome (Tree Atom)
expanded_for (refused number place) = refused number place
expanded_for (tree s) = cond (ltb most_labels (nodes (expansion s))) (refused too_many_nodes 0) (tree (expansion s))

-- what these bytes come to
unfoldable pub expanded : Syntax → List ℕ → Outcome (Tree Atom)
expanded syntax bytes = expanded_for (scanned syntax bytes)
