-- What is noted of each node of a tree: its label or its place, as is told.
use Rattle.std.specs.Prelude.{ℕ, ◌+◌, ◌≡◌, refl, Bool, true, false, List, [], ◌∷◌, ◌++◌, length}
use Rattle.std.proofs.Common.{arith, length-append}
use Rattle.language.specs.Tree.{nodes}
use Rattle.language.specs.PlacedTree.{PlacedTree, leaf, catenation, union, star, unplaced, places}
use Rattle.tree.specs.Leaf.{Leaf}
use Rattle.tree.specs.Layout.{label_of, catenation_kind, union_kind, star_kind}
use Rattle.tree.specs.Records.{leaf_label, labels}

-- what is noted of a node: its place, or its label
abbrev pub note : (places : Bool) → (label place : ℕ) → ℕ
note false label place = label
note true label place = place

-- what is noted of the nodes of a tree, in postorder
abbrev pub noted : (places : Bool) → PlacedTree Leaf → List ℕ
noted places (leaf place a) = note places (leaf_label a) place ∷ []
noted places (catenation place s t) =
    noted places s ++ noted places t ++ (note places (label_of catenation_kind 0) place ∷ [])
noted places (union place s t) =
    noted places s ++ noted places t ++ (note places (label_of union_kind 0) place ∷ [])
noted places (star place s) = noted places s ++ (note places (label_of star_kind 0) place ∷ [])

-- these are the labels
pub noted_labels : (x : PlacedTree Leaf) → noted false x ≡ labels (unplaced x)
noted_labels (leaf place a) = refl
noted_labels (catenation place s t) = rw (noted_labels s, noted_labels t) refl
noted_labels (union place s t) = rw (noted_labels s, noted_labels t) refl
noted_labels (star place s) = rw (noted_labels s) refl

-- or the places
pub noted_places : (x : PlacedTree Leaf) → noted true x ≡ places x
noted_places (leaf place a) = refl
noted_places (catenation place s t) = rw (noted_places s, noted_places t) refl
noted_places (union place s t) = rw (noted_places s, noted_places t) refl
noted_places (star place s) = rw (noted_places s) refl

-- the length of two lists with one more note behind them
length_two : (xs ys : List ℕ) (a m n : ℕ) → length xs ≡ m → length ys ≡ n → length (xs ++ ys ++ (a ∷ [])) ≡ m + n + 1
length_two xs ys a m n p q = simp length-append (omega arith)

-- one note for each node
pub length_noted : (places : Bool) (x : PlacedTree Leaf) → length (noted places x) ≡ nodes (unplaced x)
length_noted places (leaf place a) = refl
length_noted places (catenation place s t) =
    length_two (noted places s) (noted places t) _ _ _ (length_noted places s) (length_noted places t)
length_noted places (union place s t) =
    length_two (noted places s) (noted places t) _ _ _ (length_noted places s) (length_noted places t)
length_noted places (star place s) = let r = length_noted places s in simp length-append (omega arith)
