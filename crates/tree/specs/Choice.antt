-- What the rule of the wanted cut comes to at each node, told without tests, and the bounds of open sizes that follow.
use Rattle.std.specs.Prelude.{ℕ, ◌+◌, ◌≤◌, ◌<◌, ◌≡◌, refl, Bool, true, false, ◌&&◌, ltb}
use Rattle.std.proofs.Common.{arith, add-zero, lt-ltb, le-ltb, le-leb}
use Rattle.std.proofs.Math.Decide.{dec_le, dec_lt}
use Rattle.std.proofs.Math.Dec.{leb-zero, leb-suc-zero}
use Rattle.std.proofs.lemmas.Bool.{lt-leb}
use Rattle.language.specs.Tree.{Tree, leaf, catenation, union, star}
use Rattle.tree.specs.Limits.{most_nodes}
use Rattle.tree.specs.Cut.{kept, cut_left, cut_right, cut_only, open_size}

-- an only child is cut off as a left child without a right one
pub only_left : (n : ℕ) → cut_left n 0 ≡ cut_only n
only_left n = rw (add-zero, leb-zero) (and_true (ltb most_nodes (1 + n)))
  where
    and_true : (b : Bool) → b && true ≡ b
    and_true true = refl
    and_true false = refl

-- where there is no right child none is cut off
pub none_right : (n : ℕ) → cut_right n 0 ≡ false
none_right n = rw (leb-suc-zero n) (and_false (ltb most_nodes (1 + n + 0)))
  where
    and_false : (b : Bool) → b && false ≡ false
    and_false true = refl
    and_false false = refl

-- what the cut of a node with two children, of open sizes l and r, comes to: neither is cut off, or the larger, the
-- left one on a tie, or both
pub data Choice (l r : ℕ) : Bool → Bool → Type 0 where
  neither : 1 + l + r ≤ most_nodes → Choice l r false false
  left_off : most_nodes < 1 + l + r → r ≤ l → 1 + r ≤ most_nodes → Choice l r true false
  right_off : most_nodes < 1 + l + r → l < r → 1 + l ≤ most_nodes → Choice l r false true
  both_off : most_nodes < 1 + l → most_nodes < 1 + r → Choice l r true true

-- the choice at open sizes of at most 15: by cases on the sum, on which is the larger, and on whether the other is too
-- large alone
pub choice : (l r : ℕ) → l ≤ most_nodes → r ≤ most_nodes → Choice l r (cut_left l r) (cut_right l r)
choice l r p q = by_sum (dec_le (1 + l + r) most_nodes) (dec_lt l r) (dec_lt most_nodes (1 + r))
  where
    by_sum : Dec (1 + l + r ≤ most_nodes) → Dec (l < r) → Dec (most_nodes < 1 + r)
        → Choice l r (cut_left l r) (cut_right l r)
    by_sum (yes small) b c = rw (le-ltb most_nodes (1 + l + r)) (neither small)
    by_sum (no large) (yes larger) c =
        rw (
          lt-ltb most_nodes (1 + l + r) (omega arith),
          lt-leb r l,
          le-ltb most_nodes (1 + l) (omega arith),
          lt-ltb l r,
        )
        (right_off (omega arith) larger (omega arith))
    by_sum (no large) (no smaller) (yes still) =
        rw (
          lt-ltb most_nodes (1 + l + r) (omega arith),
          le-leb r l (omega arith),
          le-ltb l r (omega arith),
          lt-ltb most_nodes (1 + r),
        )
        (both_off (omega arith) still)
    by_sum (no large) (no smaller) (no enough) =
        rw (
          lt-ltb most_nodes (1 + l + r) (omega arith),
          le-leb r l (omega arith),
          le-ltb l r (omega arith),
          le-ltb most_nodes (1 + r) (omega arith),
        ) (left_off (omega arith) (omega arith) (omega arith))

-- what the cut of a star, with an operand of open size n, comes to
pub data OnlyChoice (n : ℕ) : Bool → Type 0 where
  stays : 1 + n ≤ most_nodes → OnlyChoice n false
  goes_off : most_nodes < 1 + n → OnlyChoice n true

-- by cases on whether the operand is too large
pub only_choice : (n : ℕ) → OnlyChoice n (cut_only n)
only_choice n = by_size (dec_le (1 + n) most_nodes)
  where
    by_size : Dec (1 + n ≤ most_nodes) → OnlyChoice n (cut_only n)
    by_size (yes small) = rw (le-ltb most_nodes (1 + n)) (stays small)
    by_size (no large) = rw (lt-ltb most_nodes (1 + n) (omega arith)) (goes_off (omega arith))

-- what is left after the choice has at most 15 nodes
chosen_fits : {l r : ℕ} {b c : Bool} → Choice l r b c → 1 + kept b l + kept c r ≤ most_nodes
chosen_fits (neither small) = small
chosen_fits (left_off large larger small) = omega arith
chosen_fits (right_off large larger small) = omega arith
chosen_fits (both_off large still) = omega arith

-- so has a star
only_fits : {n : ℕ} {b : Bool} → OnlyChoice n b → 1 + kept b n ≤ most_nodes
only_fits (stays small) = small
only_fits (goes_off large) = omega arith

-- an open size is at most 15
pub open_at_most : {A : Type 0} (t : Tree A) → open_size t ≤ most_nodes
open_at_most (leaf a) = omega arith
open_at_most (catenation s t) = chosen_fits (choice (open_size s) (open_size t) (open_at_most s) (open_at_most t))
open_at_most (union s t) = chosen_fits (choice (open_size s) (open_size t) (open_at_most s) (open_at_most t))
open_at_most (star s) = only_fits (only_choice (open_size s))

-- the choice of the wanted cut at a node with the children s and t
pub chosen : {A : Type 0} (s t : Tree A)
    → Choice (open_size s) (open_size t) (cut_left (open_size s) (open_size t)) (cut_right (open_size s) (open_size t))
chosen s t = choice (open_size s) (open_size t) (open_at_most s) (open_at_most t)

-- an open size is at least 1: the node itself
pub open_positive : {A : Type 0} (t : Tree A) → 1 ≤ open_size t
open_positive (leaf a) = omega arith
open_positive (catenation s t) = omega arith
open_positive (union s t) = omega arith
open_positive (star s) = omega arith
