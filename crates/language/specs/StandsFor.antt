-- The tree that a tree with signs stands for: `+` the operand and then its star; `?` the operand or the empty text; a
-- count {m,n} m operands, then n-m operands each with `?`, catenated to the left.
use Rattle.std.specs.Prelude.{ℕ, zero, suc, ◌-◌}
use Rattle.language.specs.Tree.{Tree, leaf, catenation, union, star}
use Rattle.language.specs.SignedTree.{SignedTree, one_or_more, optional, counted}

module _ {A : Type 0} where
  -- t, then n times x, catenated to the left
  abbrev pub followed : Tree A → ℕ → Tree A → Tree A
  followed t zero x = t
  followed t (suc n) x = catenation (followed t n x) x

  -- x, then its star
  abbrev pub repeated : Tree A → Tree A
  repeated x = catenation x (star x)

module _ {A : Type 0} (empty : A) where
  -- x, or the empty text, in that order
  abbrev pub perhaps : Tree A → Tree A
  perhaps x = union x (leaf empty)

  -- `fewest` operands x, then as many as are left to `most`, each with `?`
  abbrev pub times : (fewest most : ℕ) → Tree A → Tree A
  times zero most x = followed (perhaps x) (most - 1) (perhaps x)
  times (suc m) most x = followed (followed x m x) (most - suc m) (perhaps x)

  -- the tree that the signs stand for; the leaf `empty` is the one for the empty text
  abbrev pub stands_for : SignedTree A → Tree A
  stands_for (SignedTree.leaf place a) = leaf a
  stands_for (SignedTree.catenation place s t) = catenation (stands_for s) (stands_for t)
  stands_for (SignedTree.union place s t) = union (stands_for s) (stands_for t)
  stands_for (SignedTree.star place s) = star (stands_for s)
  stands_for (one_or_more place s) = repeated (stands_for s)
  stands_for (optional place s) = perhaps (stands_for s)
  stands_for (counted place fewest most s) = times fewest most (stands_for s)
