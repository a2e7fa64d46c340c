-- What places the nodes have that a sign adds, and what its copies have; and what holds of every written place holds of
-- every place of the tree that the signs stand for.
use Rattle.std.specs.Prelude.{ℕ, List, [], ◌∷◌}
use Rattle.language.specs.SignedTree.{SignedTree, leaf, catenation, union, star, one_or_more, optional, counted}

module _ (P : ℕ → Type 0) where
  -- P holds of every number of a list
  abbrev pub Each : List ℕ → Type 0
  Each [] = Unit {0}
  Each (a ∷ list) = P a × Each list

  -- P holds of every place that a tree with signs has
  abbrev pub EachWritten : {A : Type 0} → SignedTree A → Type 0
  EachWritten (leaf place a) = P place
  EachWritten (catenation place s t) = P place × EachWritten s × EachWritten t
  EachWritten (union place s t) = P place × EachWritten s × EachWritten t
  EachWritten (star place s) = P place × EachWritten s
  EachWritten (one_or_more place s) = P place × EachWritten s
  EachWritten (optional place s) = P place × EachWritten s
  EachWritten (counted place fewest most s) = P place × EachWritten s
