-- The places of the nodes of the tree that an expression stands for.
use Rattle.std.specs.Prelude.{ℕ, List, []}
use Rattle.language.specs.SignedTree.{SignedTree}
use Rattle.language.specs.PlacedTree.{places}
use Rattle.language.specs.PlacedStandsFor.{placed_stands_for}
use Rattle.operands.specs.Bytes.{Syntax}
use Rattle.operands.specs.Scanner.{Atom, no_text, Outcome, tree, refused, scanned}

-- in the order of the records; none where the expression is refused
abbrev pub places_for : Outcome (SignedTree Atom) → List ℕ
places_for (tree s) = places (placed_stands_for no_text s)
places_for (refused number place) = []

-- the places of these bytes
unfoldable pub places_in : Syntax → List ℕ → List ℕ
places_in syntax bytes = places_for (scanned syntax bytes)
