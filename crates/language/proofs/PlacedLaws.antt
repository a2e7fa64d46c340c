-- The tree with places is the tree that the signs stand for, and has one place for each node; other leaves change
-- neither.
use Rattle.std.specs.Prelude.{ℕ, zero, suc, ◌+◌, ◌-◌, ◌≡◌, refl, List, [], ◌∷◌, ◌++◌, length}
use Rattle.std.proofs.Common.{ap, ◌∙◌, arith, length-append}
use Rattle.language.specs.Tree.{Tree, nodes}
use Rattle.language.specs.SignedTree.{SignedTree, one_or_more, optional, counted}
use Rattle.language.specs.StandsFor.{followed, repeated, perhaps, times, stands_for}
use Rattle.language.specs.WithLeaves.{with_leaves, signed_with_leaves}
use Rattle.language.specs.PlacedTree.{
  PlacedTree,
  leaf,
  catenation,
  union,
  star,
  unplaced,
  places,
  placed_with_leaves,
}
use Rattle.language.specs.PlacedStandsFor.{
  placed_followed,
  placed_repeated,
  placed_perhaps,
  placed_times,
  placed_stands_for,
}

-- the length of two lists with one more number behind them
length_two : (xs ys : List ℕ) (a m n : ℕ) → length xs ≡ m → length ys ≡ n → length (xs ++ ys ++ (a ∷ [])) ≡ m + n + 1
length_two xs ys a m n p q = simp length-append (omega arith)

module _ {A : Type 0} where
  -- x follows t as often
  unplaced_followed : (place : ℕ) (t : PlacedTree A) (n : ℕ) (x : PlacedTree A)
      → unplaced (placed_followed place t n x) ≡ followed (unplaced t) n (unplaced x)
  unplaced_followed place t zero x = refl
  unplaced_followed place t (suc n) x =
      ap (λ (s : Tree A). Tree.catenation s (unplaced x)) (unplaced_followed place t n x)

  -- a count is the same count
  unplaced_times : (empty : A) (place fewest most : ℕ) (x : PlacedTree A)
      → unplaced (placed_times empty place fewest most x) ≡ times empty fewest most (unplaced x)
  unplaced_times empty place zero most x =
      unplaced_followed place (placed_perhaps empty place x) (most - 1) (placed_perhaps empty place x)
  unplaced_times empty place (suc m) most x =
      unplaced_followed place (placed_followed place x m x) (most - suc m) (placed_perhaps empty place x)
      ∙ ap (λ (t : Tree A). followed t (most - suc m) (perhaps empty (unplaced x))) (unplaced_followed place x m x)

  -- the result: without the places it is the tree that the signs stand for
  pub unplaced_stands_for : (empty : A) (s : SignedTree A) → unplaced (placed_stands_for empty s) ≡ stands_for empty s
  unplaced_stands_for empty (SignedTree.leaf place a) = refl
  unplaced_stands_for empty (SignedTree.catenation place s t) =
      rw (unplaced_stands_for empty s, unplaced_stands_for empty t) refl
  unplaced_stands_for empty (SignedTree.union place s t) =
      rw (unplaced_stands_for empty s, unplaced_stands_for empty t) refl
  unplaced_stands_for empty (SignedTree.star place s) = ap Tree.star (unplaced_stands_for empty s)
  unplaced_stands_for empty (one_or_more place s) = ap repeated (unplaced_stands_for empty s)
  unplaced_stands_for empty (optional place s) = ap (perhaps empty) (unplaced_stands_for empty s)
  unplaced_stands_for empty (counted place fewest most s) =
      unplaced_times empty place fewest most (placed_stands_for empty s)
      ∙ ap (times empty fewest most) (unplaced_stands_for empty s)

  -- there is one place for each node
  pub length_places : (x : PlacedTree A) → length (places x) ≡ nodes (unplaced x)
  length_places (leaf place a) = refl
  length_places (catenation place s t) =
      length_two (places s) (places t) place _ _ (length_places s) (length_places t)
  length_places (union place s t) = length_two (places s) (places t) place _ _ (length_places s) (length_places t)
  length_places (star place s) = let r = length_places s in simp length-append (omega arith)

module _ {A B : Type 0} (f : A → B) where
  -- with other leaves the places are the same
  pub places_leaves : (x : PlacedTree A) → places (placed_with_leaves f x) ≡ places x
  places_leaves (leaf place a) = refl
  places_leaves (catenation place s t) = rw (places_leaves s, places_leaves t) refl
  places_leaves (union place s t) = rw (places_leaves s, places_leaves t) refl
  places_leaves (star place s) = rw (places_leaves s) refl

  -- and the tree without them is the one with other leaves
  pub unplaced_leaves : (x : PlacedTree A) → unplaced (placed_with_leaves f x) ≡ with_leaves f (unplaced x)
  unplaced_leaves (leaf place a) = refl
  unplaced_leaves (catenation place s t) = rw (unplaced_leaves s, unplaced_leaves t) refl
  unplaced_leaves (union place s t) = rw (unplaced_leaves s, unplaced_leaves t) refl
  unplaced_leaves (star place s) = ap Tree.star (unplaced_leaves s)

  -- x follows t as often
  placed_followed_leaves : (place : ℕ) (t : PlacedTree A) (n : ℕ) (x : PlacedTree A)
      → placed_followed place (placed_with_leaves f t) n (placed_with_leaves f x)
      ≡ placed_with_leaves f (placed_followed place t n x)
  placed_followed_leaves place t zero x = refl
  placed_followed_leaves place t (suc n) x =
      ap (λ (s : PlacedTree B). catenation place s (placed_with_leaves f x)) (placed_followed_leaves place t n x)

  -- a count is the same count
  placed_times_leaves : (empty : A) (place fewest most : ℕ) (x : PlacedTree A)
      → placed_times (f empty) place fewest most (placed_with_leaves f x)
      ≡ placed_with_leaves f (placed_times empty place fewest most x)
  placed_times_leaves empty place zero most x =
      placed_followed_leaves place (placed_perhaps empty place x) (most - 1) (placed_perhaps empty place x)
  placed_times_leaves empty place (suc m) most x =
      ap (λ (t : PlacedTree B). placed_followed place t (most - suc m) (placed_perhaps (f empty) place
      (placed_with_leaves f x))) (placed_followed_leaves place x m x)
      ∙ placed_followed_leaves place (placed_followed place x m x) (most - suc m) (placed_perhaps empty place x)

  -- with other leaves the signs stand for the same tree with these leaves and the same places
  pub placed_stands_for_leaves : (empty : A) (s : SignedTree A)
      → placed_stands_for (f empty) (signed_with_leaves f s) ≡ placed_with_leaves f (placed_stands_for empty s)
  placed_stands_for_leaves empty (SignedTree.leaf place a) = refl
  placed_stands_for_leaves empty (SignedTree.catenation place s t) =
      rw (placed_stands_for_leaves empty s, placed_stands_for_leaves empty t) refl
  placed_stands_for_leaves empty (SignedTree.union place s t) =
      rw (placed_stands_for_leaves empty s, placed_stands_for_leaves empty t) refl
  placed_stands_for_leaves empty (SignedTree.star place s) = ap (star place) (placed_stands_for_leaves empty s)
  placed_stands_for_leaves empty (one_or_more place s) =
      ap (placed_repeated place) (placed_stands_for_leaves empty s)
  placed_stands_for_leaves empty (optional place s) =
      ap (placed_perhaps (f empty) place) (placed_stands_for_leaves empty s)
  placed_stands_for_leaves empty (counted place fewest most s) =
      ap (placed_times (f empty) place fewest most) (placed_stands_for_leaves empty s)
      ∙ placed_times_leaves empty place fewest most (placed_stands_for empty s)
