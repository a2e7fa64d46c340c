-- The tree that a tree with signs stands for, with its places: each node that a sign adds has the place of the sign,
-- and each copy of its operand keeps the places of the operand.
use Rattle.std.specs.Prelude.{ℕ, zero, suc, ◌-◌}
use Rattle.language.specs.PlacedTree.{PlacedTree, leaf, catenation, union, star}
use Rattle.language.specs.SignedTree.{SignedTree, one_or_more, optional, counted}

module _ {A : Type 0} (place : ℕ) where
  -- t, then n times x, catenated to the left
  abbrev pub placed_followed : PlacedTree A → ℕ → PlacedTree A → PlacedTree A
  placed_followed t zero x = t
  placed_followed t (suc n) x = catenation place (placed_followed t n x) x

  -- x, then its star
  abbrev pub placed_repeated : PlacedTree A → PlacedTree A
  placed_repeated x = catenation place x (star place x)

module _ {A : Type 0} (empty : A) (place : ℕ) where
  -- x, or the empty text, in that order
  abbrev pub placed_perhaps : PlacedTree A → PlacedTree A
  placed_perhaps x = union place x (leaf place empty)

  -- `fewest` operands x, then as many as are left to `most`, each with `?`
  abbrev pub placed_times : (fewest most : ℕ) → PlacedTree A → PlacedTree A
  placed_times zero most x = placed_followed place (placed_perhaps x) (most - 1) (placed_perhaps x)
  placed_times (suc m) most x =
      placed_followed place (placed_followed place x m x) (most - suc m) (placed_perhaps x)

module _ {A : Type 0} (empty : A) where
  -- the tree that the signs stand for, as in StandsFor, with its places
  abbrev pub placed_stands_for : SignedTree A → PlacedTree A
  placed_stands_for (SignedTree.leaf place a) = leaf place a
  placed_stands_for (SignedTree.catenation place s t) =
      catenation place (placed_stands_for s) (placed_stands_for t)
  placed_stands_for (SignedTree.union place s t) = union place (placed_stands_for s) (placed_stands_for t)
  placed_stands_for (SignedTree.star place s) = star place (placed_stands_for s)
  placed_stands_for (one_or_more place s) = placed_repeated place (placed_stands_for s)
  placed_stands_for (optional place s) = placed_perhaps empty place (placed_stands_for s)
  placed_stands_for (counted place fewest most s) = placed_times empty place fewest most (placed_stands_for s)
