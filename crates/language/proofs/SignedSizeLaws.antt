-- The nodes that are counted on the signs are those of the tree that they stand for; and laws of counting that stops
-- past a limit: what is added up that way tells exactly whether the whole is above the limit.
use Rattle.std.specs.Prelude.{ℕ, zero, suc, ◌+◌, ◌*◌, ◌-◌, ◌≤◌, ◌<◌, ◌≡◌, refl, ◌↔◌}
use Rattle.std.proofs.Common.{ap, ◌∙◌, arith}
use Rattle.std.proofs.Math.Decide.{dec_le}
use Rattle.language.specs.Tree.{Tree, nodes}
use Rattle.language.specs.SignedTree.{SignedTree, leaf, catenation, union, star, one_or_more, optional, counted}
use Rattle.language.specs.StandsFor.{followed, perhaps, times, stands_for}
use Rattle.language.specs.SignedSize.{
  times_size,
  signed_size,
  capped,
  counting_on,
  capped_size,
}

module _ {A : Type 0} where
  -- each x that follows brings its nodes and a catenation
  pub nodes_followed : (t : Tree A) (n : ℕ) (x : Tree A) → nodes (followed t n x) ≡ nodes t + n * (nodes x + 1)
  nodes_followed t zero x = omega arith
  nodes_followed t (suc n) x = omega (arith, nodes_followed t n x)

  -- the nodes of a count, by those of its operand
  pub nodes_times : (empty : A) (fewest most : ℕ) (x : Tree A)
      → nodes (times empty fewest most x) ≡ times_size fewest most (nodes x)
  nodes_times empty zero most x = omega (arith, nodes_followed (perhaps empty x) (most - 1) (perhaps empty x))
  nodes_times empty (suc m) most x =
      omega (arith, nodes_followed x m x, nodes_followed (followed x m x) (most - suc m) (perhaps empty x))

  -- the result: the nodes of the tree that the signs stand for
  pub nodes_signed : (empty : A) (s : SignedTree A) → nodes (stands_for empty s) ≡ signed_size s
  nodes_signed empty (leaf place a) = refl
  nodes_signed empty (catenation place s t) = omega (arith, nodes_signed empty s, nodes_signed empty t)
  nodes_signed empty (union place s t) = omega (arith, nodes_signed empty s, nodes_signed empty t)
  nodes_signed empty (star place s) = omega (arith, nodes_signed empty s)
  nodes_signed empty (one_or_more place s) = omega (arith, nodes_signed empty s)
  nodes_signed empty (optional place s) = omega (arith, nodes_signed empty s)
  nodes_signed empty (counted place fewest most s) =
      nodes_times empty fewest most (stands_for empty s) ∙ rw (nodes_signed empty s) refl

-- a count has its operand's nodes, and more
operand_size : (fewest most n : ℕ) → n ≤ times_size fewest most n
operand_size zero most n = omega arith
operand_size (suc m) most n = omega arith

module _ (limit : ℕ) where
  -- up to the limit, and one past it, the count is exact
  pub capped_exact : (n : ℕ) → n ≤ suc limit → capped limit n ≡ n
  capped_exact n within = omega arith

  -- past the limit it stands still
  pub capped_past : (n : ℕ) → limit < n → capped limit n ≡ suc limit
  capped_past n past = omega arith

  -- counting on in steps comes to the whole sum
  pub counting_whole : (start n step : ℕ) → counting_on limit start n step ≡ capped limit (start + n * step)
  counting_whole start zero step = omega arith
  counting_whole start (suc n) step =
      ap (λ (c : ℕ). capped limit (c + step)) (counting_whole start n step) ∙ omega arith

  -- and it does so where the step itself was counted that way
  pub counting_capped : (start n step : ℕ)
      → counting_on limit start n (capped limit step) ≡ capped limit (start + n * step)
  counting_capped start zero step = omega arith
  counting_capped start (suc n) step =
      ap (λ (c : ℕ). capped limit (c + capped limit step)) (counting_capped start n step) ∙ omega arith

  -- a count of what was counted that way comes to the same
  pub capped_times : (fewest most n : ℕ)
      → capped limit (times_size fewest most (capped limit n)) ≡ capped limit (times_size fewest most n)
  capped_times fewest most n = by_size (dec_le n (suc limit))
    where
      by_size : Dec (n ≤ suc limit)
          → capped limit (times_size fewest most (capped limit n)) ≡ capped limit (times_size fewest most n)
      by_size (yes within) = ap (λ (k : ℕ). capped limit (times_size fewest most k)) (capped_exact n within)
      by_size (no past) = omega (
        arith,
        capped_past n (omega arith),
        operand_size fewest most n,
        operand_size fewest most (capped limit n),
      )

  -- so does the whole tree, counted on the signs
  pub capped_signed : {A : Type 0} (s : SignedTree A) → capped_size limit s ≡ capped limit (signed_size s)
  capped_signed (leaf place a) = refl
  capped_signed (catenation place s t) = omega (arith, capped_signed s, capped_signed t)
  capped_signed (union place s t) = omega (arith, capped_signed s, capped_signed t)
  capped_signed (star place s) = omega (arith, capped_signed s)
  capped_signed (one_or_more place s) = omega (arith, capped_signed s)
  capped_signed (optional place s) = omega (arith, capped_signed s)
  capped_signed (counted place fewest most s) =
      ap (λ (n : ℕ). capped limit (times_size fewest most n)) (capped_signed s)
      ∙ capped_times fewest most (signed_size s)

  -- the result: counting that stops past the limit tells exactly whether the tree has more nodes than the limit
  pub too_large_exactly : {A : Type 0} (empty : A) (s : SignedTree A)
      → (capped_size limit s ≡ suc limit) ↔ (limit < nodes (stands_for empty s))
  too_large_exactly empty s = omega (arith, capped_signed s, nodes_signed empty s)
