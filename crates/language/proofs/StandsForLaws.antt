-- Which tree each sign stands for, said of the signs: these laws leave no choice for any tree with signs.
use Rattle.std.specs.Prelude.{ℕ, zero, suc, ◌-◌, ◌≤◌, ◌≡◌, refl}
use Rattle.std.proofs.Common.{ap, sym, ◌∙◌, arith}
use Rattle.language.specs.Tree.{Tree, leaf, catenation, union, star}
use Rattle.language.specs.SignedTree.{SignedTree, one_or_more, optional, counted}
use Rattle.language.specs.StandsFor.{followed, perhaps, stands_for}

module _ {A : Type 0} (t x : Tree A) where
  -- nothing follows
  followed_none : (k : ℕ) → k ≡ 0 → followed t k x ≡ t
  followed_none k none = ap (λ (n : ℕ). followed t n x) none

  -- the last that follows
  followed_last : (k n : ℕ) → k ≡ suc n → followed t k x ≡ catenation (followed t n x) x
  followed_last k n more = ap (λ (n : ℕ). followed t n x) more

module _ {A : Type 0} (empty : A) (place : ℕ) (s : SignedTree A) where
  -- `+` is the operand catenated with its star
  pub plus_tree : stands_for empty (one_or_more place s) ≡ catenation (stands_for empty s) (star (stands_for empty s))
  plus_tree = refl

  -- `?` is the union of the operand and the empty text, in that order
  pub question_tree : stands_for empty (optional place s) ≡ union (stands_for empty s) (leaf empty)
  question_tree = refl

  -- `{1,1}` is the operand itself
  pub once_tree : stands_for empty (counted place 1 1 s) ≡ stands_for empty s
  once_tree = refl

  -- `{0,1}` is what `?` is
  pub at_most_once_tree : stands_for empty (counted place 0 1 s) ≡ stands_for empty (optional place s)
  at_most_once_tree = refl

  -- one operand more in both numbers is catenated at the right, where no `?` stands
  pub one_more_tree : (n : ℕ) → 1 ≤ n
      → stands_for empty (counted place (suc n) (suc n) s)
      ≡ catenation (stands_for empty (counted place n n s)) (stands_for empty s)
  one_more_tree zero some = absurd (omega arith)
  one_more_tree (suc n) some =
      let x : Tree A = stands_for empty s in
      followed_none (followed x (suc n) x) (perhaps empty x) (suc (suc n) - suc (suc n)) (omega arith)
      ∙ ap (λ (t : Tree A). catenation t x)
      (sym (followed_none (followed x n x) (perhaps empty x) (suc n - suc n) (omega arith)))

  -- one more in the second number alone is catenated at the right with its `?`
  pub perhaps_more_tree : (fewest most : ℕ) → fewest ≤ most → 1 ≤ most
      → stands_for empty (counted place fewest (suc most) s)
      ≡ catenation (stands_for empty (counted place fewest most s)) (stands_for empty (optional place s))
  perhaps_more_tree zero most order some =
      let x : Tree A = stands_for empty s in
      followed_last (perhaps empty x) (perhaps empty x) (suc most - 1) (most - 1) (omega arith)
  perhaps_more_tree (suc m) most order some =
      let x : Tree A = stands_for empty s in
      followed_last (followed x m x) (perhaps empty x) (suc most - suc m) (most - suc m) (omega arith)

  -- so `{2,4}` is ((x x) x?) x?
  pub two_to_four_tree : stands_for empty (counted place 2 4 s)
      ≡ catenation (catenation (catenation (stands_for empty s) (stands_for empty s))
      (stands_for empty (optional place s)))
      (stands_for empty (optional place s))
  two_to_four_tree = refl
