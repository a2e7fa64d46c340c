-- Other leaves in the same shape: the signs stand for the same shape, of the same size, and well counted as before;
-- and each leaf of what they stand for is one of theirs or the one for the empty text.
use Rattle.std.specs.Prelude.{ℕ, zero, suc, ◌-◌, ◌≡◌, refl}
use Rattle.std.proofs.Common.{ap, ◌∙◌}
use Rattle.language.specs.Tree.{Tree, leaf, catenation, union, star, nodes}
use Rattle.language.specs.SignedTree.{SignedTree, one_or_more, optional, counted, WellCounted}
use Rattle.language.specs.StandsFor.{followed, repeated, perhaps, times, stands_for}
use Rattle.language.specs.WithLeaves.{with_leaves, signed_with_leaves, EveryLeaf, EverySignedLeaf}

module _ {A B : Type 0} (f : A → B) where
  -- x follows t as often
  followed_leaves : (t : Tree A) (n : ℕ) (x : Tree A)
      → followed (with_leaves f t) n (with_leaves f x) ≡ with_leaves f (followed t n x)
  followed_leaves t zero x = refl
  followed_leaves t (suc n) x =
      ap (λ (s : Tree B). catenation s (with_leaves f x)) (followed_leaves t n x)

  -- a count is the same count
  times_leaves : (empty : A) (fewest most : ℕ) (x : Tree A)
      → times (f empty) fewest most (with_leaves f x) ≡ with_leaves f (times empty fewest most x)
  times_leaves empty zero most x = followed_leaves (perhaps empty x) (most - 1) (perhaps empty x)
  times_leaves empty (suc m) most x =
      ap (λ (t : Tree B). followed t (most - suc m) (perhaps (f empty) (with_leaves f x))) (followed_leaves x m x)
      ∙ followed_leaves (followed x m x) (most - suc m) (perhaps empty x)

  -- the result: with other leaves the signs stand for the same tree with these leaves
  pub stands_for_leaves : (empty : A) (s : SignedTree A)
      → stands_for (f empty) (signed_with_leaves f s) ≡ with_leaves f (stands_for empty s)
  stands_for_leaves empty (SignedTree.leaf place a) = refl
  stands_for_leaves empty (SignedTree.catenation place s t) =
      rw (stands_for_leaves empty s, stands_for_leaves empty t) refl
  stands_for_leaves empty (SignedTree.union place s t) = rw (stands_for_leaves empty s, stands_for_leaves empty t) refl
  stands_for_leaves empty (SignedTree.star place s) = ap star (stands_for_leaves empty s)
  stands_for_leaves empty (one_or_more place s) = ap repeated (stands_for_leaves empty s)
  stands_for_leaves empty (optional place s) = ap (perhaps (f empty)) (stands_for_leaves empty s)
  stands_for_leaves empty (counted place fewest most s) =
      ap (times (f empty) fewest most) (stands_for_leaves empty s)
      ∙ times_leaves empty fewest most (stands_for empty s)

  -- as many nodes
  pub nodes_leaves : (t : Tree A) → nodes (with_leaves f t) ≡ nodes t
  nodes_leaves (leaf a) = refl
  nodes_leaves (catenation s t) = rw (nodes_leaves s, nodes_leaves t) refl
  nodes_leaves (union s t) = rw (nodes_leaves s, nodes_leaves t) refl
  nodes_leaves (star s) = rw (nodes_leaves s) refl

  -- well counted as before
  pub well_counted_leaves : (s : SignedTree A) → WellCounted s → WellCounted (signed_with_leaves f s)
  well_counted_leaves (SignedTree.leaf place a) well = tt
  well_counted_leaves (SignedTree.catenation place s t) well =
      (well_counted_leaves s well.0, well_counted_leaves t well.1)
  well_counted_leaves (SignedTree.union place s t) well =
      (well_counted_leaves s well.0, well_counted_leaves t well.1)
  well_counted_leaves (SignedTree.star place s) well = well_counted_leaves s well
  well_counted_leaves (one_or_more place s) well = well_counted_leaves s well
  well_counted_leaves (optional place s) well = well_counted_leaves s well
  well_counted_leaves (counted place fewest most s) well = (well.0, well.1, well_counted_leaves s well.2)

module _ {A : Type 0} (P : A → Type 0) where
  -- what holds of the leaves of t and of x, holds of those of t followed by x
  every_followed : (t : Tree A) (n : ℕ) (x : Tree A) → EveryLeaf P t → EveryLeaf P x → EveryLeaf P (followed t n x)
  every_followed t zero x first each = first
  every_followed t (suc n) x first each = (every_followed t n x first each, each)

  -- and of those of a count
  every_times : (empty : A) → P empty → (fewest most : ℕ) (x : Tree A) → EveryLeaf P x
      → EveryLeaf P (times empty fewest most x)
  every_times empty e zero most x each =
      every_followed (perhaps empty x) (most - 1) (perhaps empty x) (each, e) (each, e)
  every_times empty e (suc m) most x each =
      every_followed (followed x m x) (most - suc m) (perhaps empty x) (every_followed x m x each each) (each, e)

  -- what holds of the written leaves, and of the one for the empty text, holds of all that the signs stand for
  pub every_stands_for : (empty : A) → P empty → (s : SignedTree A) → EverySignedLeaf P s
      → EveryLeaf P (stands_for empty s)
  every_stands_for empty e (SignedTree.leaf place a) each = each
  every_stands_for empty e (SignedTree.catenation place s t) each =
      (every_stands_for empty e s each.0, every_stands_for empty e t each.1)
  every_stands_for empty e (SignedTree.union place s t) each =
      (every_stands_for empty e s each.0, every_stands_for empty e t each.1)
  every_stands_for empty e (SignedTree.star place s) each = every_stands_for empty e s each
  every_stands_for empty e (one_or_more place s) each =
      (every_stands_for empty e s each, every_stands_for empty e s each)
  every_stands_for empty e (optional place s) each = (every_stands_for empty e s each, e)
  every_stands_for empty e (counted place fewest most s) each =
      every_times empty e fewest most (stands_for empty s) (every_stands_for empty e s each)
