-- The numbers of a node, by those of its children: one rule for all four kinds, with 0 for a child that is not there.
use Rattle.std.specs.Prelude.{ℕ, ◌+◌}
use Rattle.tree.specs.Cut.{kept, one, cut_left, cut_right}

-- the open size that a node has by those of its children
abbrev pub open_sum : (l r : ℕ) → ℕ
open_sum l r = 1 + kept (cut_left l r) l + kept (cut_right l r) r

-- the cut edges at and below a node: by the open sizes of its children, and the cut edges below each
abbrev pub cut_sum : (l r below_left below_right : ℕ) → ℕ
cut_sum l r below_left below_right = one (cut_left l r) + below_left + (one (cut_right l r) + below_right)
