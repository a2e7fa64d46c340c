-- The wanted cut has few pieces for the nodes.
use Rattle.std.specs.Prelude.{ℕ, ◌+◌, ◌*◌, ◌-◌, ◌/◌, ◌≤◌, Bool}
use Rattle.std.proofs.Common.{arith}
use Rattle.language.specs.Tree.{Tree, leaf, catenation, union, star, nodes}
use Rattle.tree.specs.Cut.{kept, one, cuts, pieces, open_size, wanted}
use Rattle.tree.specs.Choice.{
  Choice,
  neither,
  left_off,
  right_off,
  both_off,
  chosen,
  OnlyChoice,
  stays,
  goes_off,
  only_choice,
  open_positive,
}

-- a child that the choice cuts off has open size at least 8: it pays for its piece with 8 nodes of its own
paid_of_two : {l r : ℕ} {b c : Bool} (k m i j : ℕ) → Choice l r b c → 8 * k + l ≤ i → 8 * m + r ≤ j
    → 8 * (one b + k + (one c + m)) + (1 + kept b l + kept c r) ≤ i + j + 1
paid_of_two k m i j (neither small) x y = omega arith
paid_of_two k m i j (left_off large larger small) x y = omega arith
paid_of_two k m i j (right_off large larger small) x y = omega arith
paid_of_two k m i j (both_off large still) x y = omega arith

-- so does an operand that a star cuts off, of open size 15
paid_of_one : {n : ℕ} {b : Bool} (k i : ℕ) → OnlyChoice n b → 8 * k + n ≤ i → 8 * (one b + k) + (1 + kept b n) ≤ i + 1
paid_of_one k i (stays small) x = omega arith
paid_of_one k i (goes_off large) x = omega arith

-- 8 nodes for each cut edge, and the open size
paid : {A : Type 0} (t : Tree A) → 8 * cuts t (wanted t) + open_size t ≤ nodes t
paid (leaf a) = omega arith
paid (catenation s t) = paid_of_two _ _ _ _ (chosen s t) (paid s) (paid t)
paid (union s t) = paid_of_two _ _ _ _ (chosen s t) (paid s) (paid t)
paid (star s) = paid_of_one _ _ (only_choice (open_size s)) (paid s)

-- for m nodes there are at most (m - 1) / 8 + 1 pieces
pub few_pieces : {A : Type 0} (t : Tree A) → pieces t (wanted t) ≤ (nodes t - 1) / 8 + 1
few_pieces t = omega (arith, paid t, open_positive t)
