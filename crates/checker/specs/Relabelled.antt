-- The labels of the records' tree, from those of the tree with places: each class label gets the number that is next.
use Rattle.std.specs.Prelude.{ℕ, ◌+◌, ◌*◌, ◌/◌, ◌%◌, ◌≤◌, ◌≡◌, refl, Bool, true, false, cond, List, [], ◌∷◌, ◌++◌, length, eqb}
use Rattle.std.proofs.Common.{ap, ◌∙◌, append-nil, arith}
use Rattle.language.specs.Tree.{Tree, leaf, catenation, union, star}
use Rattle.tree.specs.Leaf.{Leaf, character}
use Rattle.tree.specs.Layout.{class_kind, class_label}
use Rattle.tree.specs.Records.{labels}
use Rattle.classes.specs.Class.{Class}
use Rattle.checker.specs.Drawn.{classes_of, classes_in, recorded_from}
use Rattle.classes.specs.ClassAt.{class_at}
use Rattle.operands.specs.LeavesPlaced.{written_at}

-- how many class labels there are
abbrev pub class_labels : List ℕ → ℕ
class_labels [] = 0
class_labels (l ∷ ls) = cond (eqb (l % 8) class_kind) (1 + class_labels ls) (class_labels ls)

-- the labels with the class labels numbered from `next` on
abbrev pub relabelled : List ℕ → (next : ℕ) → List ℕ
relabelled [] next = []
relabelled (l ∷ ls) next =
    cond (eqb (l % 8) class_kind) (class_label next ∷ relabelled ls (next + 1)) (l ∷ relabelled ls next)

-- the classes at the places that the class labels hold
abbrev pub labelled_classes : (bytes labels : List ℕ) → List Class
labelled_classes bytes [] = []
labelled_classes bytes (l ∷ ls) =
    cond (eqb (l % 8) class_kind) (class_at bytes (l / 8) ∷ labelled_classes bytes ls) (labelled_classes bytes ls)

-- of two lists, one after the other
pub relabelled_append : (xs ys : List ℕ) (next : ℕ)
    → relabelled (xs ++ ys) next ≡ relabelled xs next ++ relabelled ys (next + class_labels xs)
relabelled_append [] ys next = ap (relabelled ys) (omega arith)
relabelled_append (l ∷ xs) ys next = by_kind (eqb (l % 8) class_kind)
    (relabelled_append xs ys (next + 1) ∙ ap (λ (n : ℕ). relabelled xs (next + 1) ++ relabelled ys n) (omega arith))
    (relabelled_append xs ys next)
  where
    by_kind : (b : Bool)
        → relabelled (xs ++ ys) (next + 1) ≡ relabelled xs (next + 1) ++ relabelled ys (next + (1 + class_labels xs))
        → relabelled (xs ++ ys) next ≡ relabelled xs next ++ relabelled ys (next + class_labels xs)
        → cond b (class_label next ∷ relabelled (xs ++ ys) (next + 1)) (l ∷ relabelled (xs ++ ys) next)
        ≡ cond b (class_label next ∷ relabelled xs (next + 1)) (l ∷ relabelled xs next)
        ++ relabelled ys (next + cond b (1 + class_labels xs) (class_labels xs))
    by_kind true e f = ap (λ (ls : List ℕ). class_label next ∷ ls) e
    by_kind false e f = ap (λ (ls : List ℕ). l ∷ ls) f

pub labelled_append : (bytes xs ys : List ℕ)
    → labelled_classes bytes (xs ++ ys) ≡ labelled_classes bytes xs ++ labelled_classes bytes ys
labelled_append bytes [] ys = refl
labelled_append bytes (l ∷ xs) ys = by_kind (eqb (l % 8) class_kind) (labelled_append bytes xs ys)
  where
    by_kind : (b : Bool) → labelled_classes bytes (xs ++ ys) ≡ labelled_classes bytes xs ++ labelled_classes bytes ys
        → cond b (class_at bytes (l / 8) ∷ labelled_classes bytes (xs ++ ys)) (labelled_classes bytes (xs ++ ys))
        ≡ cond b (class_at bytes (l / 8) ∷ labelled_classes bytes xs) (labelled_classes bytes xs)
        ++ labelled_classes bytes ys
    by_kind true e = ap (λ (cs : List Class). class_at bytes (l / 8) ∷ cs) e
    by_kind false e = e

-- as many classes as class labels
pub labelled_counted : (bytes ls : List ℕ) → length (labelled_classes bytes ls) ≡ class_labels ls
labelled_counted bytes [] = refl
labelled_counted bytes (l ∷ ls) = by_kind (eqb (l % 8) class_kind) (labelled_counted bytes ls)
  where
    by_kind : (b : Bool) → length (labelled_classes bytes ls) ≡ class_labels ls
        → length (cond b (class_at bytes (l / 8) ∷ labelled_classes bytes ls) (labelled_classes bytes ls))
        ≡ cond b (1 + class_labels ls) (class_labels ls)
    by_kind true e = omega arith
    by_kind false e = e

pub class_labels_append : (xs ys : List ℕ) → class_labels (xs ++ ys) ≡ class_labels xs + class_labels ys
class_labels_append [] ys = omega arith
class_labels_append (l ∷ xs) ys = by_kind (eqb (l % 8) class_kind) (class_labels_append xs ys)
  where
    by_kind : (b : Bool) → class_labels (xs ++ ys) ≡ class_labels xs + class_labels ys
        → cond b (1 + class_labels (xs ++ ys)) (class_labels (xs ++ ys))
        ≡ cond b (1 + class_labels xs) (class_labels xs) + class_labels ys
    by_kind true e = omega arith
    by_kind false e = e

-- there are no more of them than labels
pub class_labels_le : (ls : List ℕ) → class_labels ls ≤ length ls
class_labels_le [] = omega arith
class_labels_le (l ∷ ls) = by_kind (eqb (l % 8) class_kind) (class_labels_le ls)
  where
    by_kind : (b : Bool) → class_labels ls ≤ length ls
        → cond b (1 + class_labels ls) (class_labels ls) ≤ length (l ∷ ls)
    by_kind true h = omega arith
    by_kind false h = omega arith

-- a label of another kind
character_label : (b : ℕ) → (1 + 256 * b) % 8 ≡ 1
character_label b = omega arith

kind_of_class : (k : ℕ) → (5 + 8 * k) % 8 ≡ 5
kind_of_class k = omega arith

number_of_class : (k : ℕ) → (5 + 8 * k) / 8 ≡ k
number_of_class k = omega arith

module _ (bytes : List ℕ) where
  -- the classes of the written tree are those at the places, in the order of the labels
  pub classes_labelled : (p : Tree Leaf) → classes_of (written_at bytes p) ≡ labelled_classes bytes (labels p)
  classes_labelled (leaf (character b)) = rw (character_label b)
  classes_labelled (leaf (Leaf.class at)) = rw (kind_of_class at, number_of_class at)
  classes_labelled (leaf Leaf.empty_text) = refl
  classes_labelled (catenation s t) =
      let left = classes_labelled s in
      let right = classes_labelled t in
      simp (labelled_append, append-nil, left, right)
  classes_labelled (union s t) =
      let left = classes_labelled s in
      let right = classes_labelled t in
      simp (labelled_append, append-nil, left, right)
  classes_labelled (star s) = let only = classes_labelled s in simp (labelled_append, append-nil, only)

  -- so there are as many as class labels
  pub classes_counted : (p : Tree Leaf) → classes_in (written_at bytes p) ≡ class_labels (labels p)
  classes_counted p = ap length (classes_labelled p) ∙ labelled_counted bytes (labels p)

  -- the labels of the records' tree are those of the tree with places, numbered
  pub labels_numbered : (p : Tree Leaf) (next : ℕ)
      → relabelled (labels p) next ≡ labels (recorded_from (written_at bytes p) next)
  labels_numbered (leaf (character b)) next = rw (character_label b)
  labels_numbered (leaf (Leaf.class at)) next = rw (kind_of_class at)
  labels_numbered (leaf Leaf.empty_text) next = refl
  labels_numbered (catenation s t) next =
      let left = labels_numbered s in
      let right = labels_numbered t in
      let count = classes_counted s in
      simp (relabelled_append, left, right, count)
  labels_numbered (union s t) next =
      let left = labels_numbered s in
      let right = labels_numbered t in
      let count = classes_counted s in
      simp (relabelled_append, left, right, count)
  labels_numbered (star s) next = let only = labels_numbered s in simp (relabelled_append, only)
