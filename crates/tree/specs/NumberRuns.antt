-- A piece and those below it own a run of numbers with no gap.
use Rattle.std.specs.Prelude.{ℕ, ◌+◌, ◌≤◌, ◌<◌, ◌≡◌, ◌↔◌, ◌⊎◌, Bool, true, false}
use Rattle.std.proofs.Common.{inl, inr, arith}
use Rattle.std.proofs.Math.Decide.{dec_lt}
use Rattle.language.specs.Tree.{Tree, leaf, catenation, union, star}
use Rattle.tree.specs.Cut.{Cut, one, cuts}
use Rattle.tree.specs.Numbering.{child_piece, NodeNumbers, alone, above_one, above_two, numbered}

-- a number is one of these
abbrev pub IsNumber : ℕ → NodeNumbers → Type 0
IsNumber a (alone n) = a ≡ n
IsNumber a (above_one n x) = (a ≡ n) ⊎ IsNumber a x
IsNumber a (above_two n x y) = (a ≡ n) ⊎ (IsNumber a x ⊎ IsNumber a y)

-- a is the number of the root's piece, or one of the k numbers from `new` on
abbrev pub RootOrRun : (a piece new k : ℕ) → Type 0
RootOrRun a piece new k = (a ≡ piece) ⊎ ((new ≤ a) × (a < new + k))

-- the numbers of a child are its parent's, or lie in the run from `new` on: where the edge is cut, the child's own is
-- the first of them
from_child : (b : Bool) (a piece new k : ℕ) → RootOrRun a (child_piece b piece new) (one b + new) k
    → RootOrRun a piece new (one b + k)
from_child true a piece new k (inl e) = inr (omega arith)
from_child true a piece new k (inr h) = inr (omega arith)
from_child false a piece new k (inl e) = inl e
from_child false a piece new k (inr h) = inr (omega arith)

-- and every number of the run is one of the child's
to_child : (b : Bool) (a piece new k : ℕ) → new ≤ a → a < new + (one b + k)
    → RootOrRun a (child_piece b piece new) (one b + new) k
to_child true a piece new k low high = elim (dec_lt new a) [ yes h ↦ inr (omega arith) | no h ↦ inl (omega arith) ]
to_child false a piece new k low high = inr (omega arith)

-- two runs, one behind the other, are one
first_run : (a piece new k m : ℕ) → RootOrRun a piece new k → RootOrRun a piece new (k + m)
first_run a piece new k m (inl e) = inl e
first_run a piece new k m (inr h) = inr (omega arith)

-- the second begins where the first ends
second_run : (a piece new k m : ℕ) → RootOrRun a piece (k + new) m → RootOrRun a piece new (k + m)
second_run a piece new k m (inl e) = inl e
second_run a piece new k m (inr h) = inr (omega arith)

-- at a node with two children: the runs of the left and of the right one are the node's
exactly_two : (a piece new : ℕ) (b c : Bool) (k m : ℕ) {X Y : Type 0}
    → (X ↔ RootOrRun a (child_piece b piece new) (one b + new) k)
    → (Y ↔ RootOrRun a (child_piece c piece (one b + k + new)) (one c + (one b + k + new)) m)
    → ((a ≡ piece) ⊎ (X ⊎ Y)) ↔ RootOrRun a piece new (one b + k + (one c + m))
exactly_two a piece new b c k m {X} {Y} left right = (there, back)
  where
    there : (a ≡ piece) ⊎ (X ⊎ Y) → RootOrRun a piece new (one b + k + (one c + m))
    there (inl e) = inl e
    there (inr (inl h)) = first_run a piece new (one b + k) (one c + m) (from_child b a piece new k (left.0 h))
    there (inr (inr h)) =
        second_run a piece new (one b + k) (one c + m) (from_child c a piece (one b + k + new) m (right.0 h))

    back : RootOrRun a piece new (one b + k + (one c + m)) → (a ≡ piece) ⊎ (X ⊎ Y)
    back (inl e) = inl e
    back (inr h) =
        elim (dec_lt a (one b + k + new)) [
          | yes l ↦ inr (inl (left.1 (to_child b a piece new k h.0 (omega arith))))
          | no l ↦ inr (inr (right.1 (to_child c a piece (one b + k + new) m (omega arith) (omega arith))))
        ]

-- at a star: the run of the operand is the star's
exactly_one : (a piece new : ℕ) (b : Bool) (k : ℕ) {X : Type 0}
    → (X ↔ RootOrRun a (child_piece b piece new) (one b + new) k)
    → ((a ≡ piece) ⊎ X) ↔ RootOrRun a piece new (one b + k)
exactly_one a piece new b k {X} only = (there, back)
  where
    there : (a ≡ piece) ⊎ X → RootOrRun a piece new (one b + k)
    there (inl e) = inl e
    there (inr h) = from_child b a piece new k (only.0 h)

    back : RootOrRun a piece new (one b + k) → (a ≡ piece) ⊎ X
    back (inl e) = inl e
    back (inr h) = inr (only.1 (to_child b a piece new k h.0 h.1))

-- a leaf has no run
exactly_alone : (a piece new : ℕ) → (a ≡ piece) ↔ RootOrRun a piece new 0
exactly_alone a piece new = (inl, back)
  where
    back : RootOrRun a piece new 0 → a ≡ piece
    back (inl e) = e
    back (inr h) = omega arith

-- in a subtree stand the number of its root's piece and the run of numbers from `new` on, one for each cut edge, with
-- no gap and no other.
-- Where the edge above the subtree is cut, the root's number is new - 1, so they are one run: a piece and those below
-- it own the numbers of the piece and the next ones
pub numbers_exactly : {A : Type 0} (t : Tree A) (c : Cut t) (piece new a : ℕ) → IsNumber a (numbered t c piece new)
    ↔ RootOrRun a piece new (cuts t c)
numbers_exactly (leaf l) c piece new a = exactly_alone a piece new
numbers_exactly (catenation s t) c piece new a =
    exactly_two a piece new c.0 c.2 _ _ (numbers_exactly s c.1 _ _ a) (numbers_exactly t c.3 _ _ a)
numbers_exactly (union s t) c piece new a = exactly_two a piece new c.0 c.2 _ _ (numbers_exactly s c.1 _ _ a)
    (numbers_exactly t c.3 _ _ a)
numbers_exactly (star s) c piece new a = exactly_one a piece new c.0 _ (numbers_exactly s c.1 _ _ a)
