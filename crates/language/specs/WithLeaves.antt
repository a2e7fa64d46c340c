-- Other leaves in the same shape: what the signs stand for keeps its shape, whatever the leaves hold.
use Rattle.language.specs.Tree.{Tree, leaf, catenation, union, star}
use Rattle.language.specs.SignedTree.{SignedTree, one_or_more, optional, counted}

module _ {A B : Type 0} (f : A → B) where
  -- the tree with f a in place of each leaf a
  abbrev pub with_leaves : Tree A → Tree B
  with_leaves (leaf a) = leaf (f a)
  with_leaves (catenation s t) = catenation (with_leaves s) (with_leaves t)
  with_leaves (union s t) = union (with_leaves s) (with_leaves t)
  with_leaves (star s) = star (with_leaves s)

  -- the same of a tree with signs
  abbrev pub signed_with_leaves : SignedTree A → SignedTree B
  signed_with_leaves (SignedTree.leaf place a) = SignedTree.leaf place (f a)
  signed_with_leaves (SignedTree.catenation place s t) =
      SignedTree.catenation place (signed_with_leaves s) (signed_with_leaves t)
  signed_with_leaves (SignedTree.union place s t) = SignedTree.union place (signed_with_leaves s)
      (signed_with_leaves t)
  signed_with_leaves (SignedTree.star place s) = SignedTree.star place (signed_with_leaves s)
  signed_with_leaves (one_or_more place s) = one_or_more place (signed_with_leaves s)
  signed_with_leaves (optional place s) = optional place (signed_with_leaves s)
  signed_with_leaves (counted place fewest most s) = counted place fewest most (signed_with_leaves s)

-- every leaf of a tree is in P
abbrev pub EveryLeaf : {A : Type 0} (P : A → Type 0) → Tree A → Type 0
EveryLeaf P (leaf a) = P a
EveryLeaf P (catenation s t) = EveryLeaf P s × EveryLeaf P t
EveryLeaf P (union s t) = EveryLeaf P s × EveryLeaf P t
EveryLeaf P (star s) = EveryLeaf P s

-- every leaf of a tree with signs is in P
abbrev pub EverySignedLeaf : {A : Type 0} (P : A → Type 0) → SignedTree A → Type 0
EverySignedLeaf P (SignedTree.leaf place a) = P a
EverySignedLeaf P (SignedTree.catenation place s t) = EverySignedLeaf P s × EverySignedLeaf P t
EverySignedLeaf P (SignedTree.union place s t) = EverySignedLeaf P s × EverySignedLeaf P t
EverySignedLeaf P (SignedTree.star place s) = EverySignedLeaf P s
EverySignedLeaf P (one_or_more place s) = EverySignedLeaf P s
EverySignedLeaf P (optional place s) = EverySignedLeaf P s
EverySignedLeaf P (counted place fewest most s) = EverySignedLeaf P s
