-- Trees with signs that have no `+`, no `?` and no count: they stand for themselves.
use Rattle.std.specs.Prelude.{◌≡◌, refl}
use Rattle.std.proofs.Common.{ap}
use Rattle.language.specs.SignedTree.{SignedTree, one_or_more, optional, counted, WellCounted}
use Rattle.language.specs.PlacedTree.{PlacedTree, leaf, catenation, union, star}
use Rattle.language.specs.PlacedStandsFor.{placed_stands_for}

-- no sign but the star stands in s
abbrev pub Plain : {A : Type 0} → SignedTree A → Type 0
Plain (SignedTree.leaf place a) = Unit {0}
Plain (SignedTree.catenation place s t) = Plain s × Plain t
Plain (SignedTree.union place s t) = Plain s × Plain t
Plain (SignedTree.star place s) = Plain s
Plain (one_or_more place s) = ⊥
Plain (optional place s) = ⊥
Plain (counted place fewest most s) = ⊥

-- a tree with places as a tree with signs
abbrev pub signed : {A : Type 0} → PlacedTree A → SignedTree A
signed (leaf place a) = SignedTree.leaf place a
signed (catenation place s t) = SignedTree.catenation place (signed s) (signed t)
signed (union place s t) = SignedTree.union place (signed s) (signed t)
signed (star place s) = SignedTree.star place (signed s)

module _ {A : Type 0} where
  -- it has no sign but the star
  pub signed_plain : (t : PlacedTree A) → Plain (signed t)
  signed_plain (leaf place a) = tt
  signed_plain (catenation place s t) = (signed_plain s, signed_plain t)
  signed_plain (union place s t) = (signed_plain s, signed_plain t)
  signed_plain (star place s) = signed_plain s

  -- and stands for the tree
  pub signed_stands_for : (empty : A) (t : PlacedTree A) → placed_stands_for empty (signed t) ≡ t
  signed_stands_for empty (leaf place a) = refl
  signed_stands_for empty (catenation place s t) = rw (signed_stands_for empty s, signed_stands_for empty t) refl
  signed_stands_for empty (union place s t) = rw (signed_stands_for empty s, signed_stands_for empty t) refl
  signed_stands_for empty (star place s) = ap (star place) (signed_stands_for empty s)

  -- a tree with signs that has no sign but the star stands for itself
  pub plain_itself : (empty : A) (s : SignedTree A) → Plain s → signed (placed_stands_for empty s) ≡ s
  plain_itself empty (SignedTree.leaf place a) plain = refl
  plain_itself empty (SignedTree.catenation place s t) plain =
      rw (plain_itself empty s plain.0, plain_itself empty t plain.1) refl
  plain_itself empty (SignedTree.union place s t) plain =
      rw (plain_itself empty s plain.0, plain_itself empty t plain.1) refl
  plain_itself empty (SignedTree.star place s) plain = ap (SignedTree.star place) (plain_itself empty s plain)
  plain_itself empty (one_or_more place _) plain = elim plain [ ]
  plain_itself empty (optional place _) plain = elim plain [ ]
  plain_itself empty (counted place fewest most _) plain = elim plain [ ]

  -- it has no count, so all are well counted
  pub plain_well_counted : (s : SignedTree A) → Plain s → WellCounted s
  plain_well_counted (SignedTree.leaf place a) plain = tt
  plain_well_counted (SignedTree.catenation place s t) plain =
      (plain_well_counted s plain.0, plain_well_counted t plain.1)
  plain_well_counted (SignedTree.union place s t) plain =
      (plain_well_counted s plain.0, plain_well_counted t plain.1)
  plain_well_counted (SignedTree.star place s) plain = plain_well_counted s plain
  plain_well_counted (one_or_more place _) plain = elim plain [ ]
  plain_well_counted (optional place _) plain = elim plain [ ]
  plain_well_counted (counted place fewest most _) plain = elim plain [ ]
