-- The signs and the tree that they stand for have the same texts.
use Rattle.std.specs.Prelude.{ℕ, List, ◌↔◌}
use Rattle.std.proofs.Common.{inl, inr}
use Rattle.language.specs.Meaning.{Meaning}
use Rattle.language.specs.Language.{Language}
use Rattle.language.specs.SignedTree.{
  SignedTree,
  leaf,
  catenation,
  union,
  star,
  one_or_more,
  optional,
  counted,
  WellCounted,
  SignedLanguage,
}
use Rattle.language.specs.StandsFor.{stands_for}
use Rattle.language.specs.JoinedTexts.{Within, joined_within, repeated_within}
use Rattle.language.proofs.CountedTexts.{more_repeated, repeated_more, few_perhaps, perhaps_few, between_times, times_between}

module _ {A : Type 0} (M : Meaning A) (empty : A) (has : M.HasEmpty empty) where
  -- each text by the signs is a text of the tree
  signs_tree : (s : SignedTree A) → WellCounted s → Within (SignedLanguage M s) (Language M (stands_for empty s))
  signs_tree (leaf place a) well w l = l
  signs_tree (catenation place s t) well w (u, v, same, first, second) =
      (u, v, same, signs_tree s well.0 u first, signs_tree t well.1 v second)
  signs_tree (union place s t) well w (inl l) = inl (signs_tree s well.0 w l)
  signs_tree (union place s t) well w (inr l) = inr (signs_tree t well.1 w l)
  signs_tree (star place s) well w l = repeated_within (signs_tree s well) l
  signs_tree (one_or_more place s) well w l =
      more_repeated M (stands_for empty s) l.0 w l.1 (joined_within (signs_tree s well) l.2)
  signs_tree (optional place s) well w l =
      few_perhaps M empty has (stands_for empty s) l.0 w l.1 (joined_within (signs_tree s well) l.2)
  signs_tree (counted place fewest most s) well w l =
      between_times M empty has (stands_for empty s) fewest most well.0 well.1 w
      (l.0, l.1, l.2, joined_within (signs_tree s well.2) l.3)

module _ {A : Type 0} (M : Meaning A) (empty : A) (Takes-none : (b : ℕ) → M.Takes empty b → ⊥) where
  -- each text of the tree is a text by the signs
  tree_signs : (s : SignedTree A) → WellCounted s → Within (Language M (stands_for empty s)) (SignedLanguage M s)
  tree_signs (leaf place a) well w l = l
  tree_signs (catenation place s t) well w (u, v, same, first, second) =
      (u, v, same, tree_signs s well.0 u first, tree_signs t well.1 v second)
  tree_signs (union place s t) well w (inl l) = inl (tree_signs s well.0 w l)
  tree_signs (union place s t) well w (inr l) = inr (tree_signs t well.1 w l)
  tree_signs (star place s) well w l = repeated_within (tree_signs s well) l
  tree_signs (one_or_more place s) well w l =
      let (k, some, j) = repeated_more M (stands_for empty s) w l in
      (k, some, joined_within (tree_signs s well) j)
  tree_signs (optional place s) well w l =
      let (k, _, few, j) = perhaps_few M empty Takes-none (stands_for empty s) w l in
      (k, few, joined_within (tree_signs s well) j)
  tree_signs (counted place fewest most s) well w l =
      let (k, least, few, j) =
      times_between M empty Takes-none (stands_for empty s) fewest most well.0 well.1 w l in
      (k, least, few, joined_within (tree_signs s well.2) j)

-- the result: they have the same texts, by any meaning in which the leaf `empty` has the empty text and takes no byte
pub same_texts : {A : Type 0} (M : Meaning A) (empty : A) → M.HasEmpty empty → ((b : ℕ) → M.Takes empty b → ⊥)
    → (s : SignedTree A) → WellCounted s → (w : List ℕ)
    → SignedLanguage M s w ↔ Language M (stands_for empty s) w
same_texts M empty has Takes-none s well w = (signs_tree M empty has s well w, tree_signs M empty Takes-none s well w)
