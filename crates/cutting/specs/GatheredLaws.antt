-- What a node's numbers are, gathered from its children's: one rule for all four kinds, and the bounds that follow.
use Rattle.std.specs.Prelude.{ℕ, ◌+◌, ◌≤◌, ◌<◌, ◌≡◌, refl, Bool, true, false}
use Rattle.std.proofs.Common.{ap, sym, arith, add-zero, le_refl}
use Rattle.language.specs.Tree.{Tree, leaf, catenation, union, star, nodes}
use Rattle.tree.specs.Leaf.{Leaf}
use Rattle.tree.specs.Cut.{kept, one, cut_only, open_size}
use Rattle.tree.specs.Records.{piece_count}
use Rattle.tree.specs.Choice.{only_left, none_right}
use Rattle.cutting.specs.Seats.{cut_edges, of_left, of_right, left_apart, right_apart}
use Rattle.cutting.specs.Gathered.{open_sum, cut_sum}

-- the nodes of a tree
pub nodes_gathered : (u : Tree Leaf) → nodes u ≡ of_left nodes u + of_right nodes u + 1
nodes_gathered (leaf a) = refl
nodes_gathered (catenation s t) = refl
nodes_gathered (union s t) = refl
nodes_gathered (star s) = ap (λ (n : ℕ). n + 1) (sym (add-zero (nodes s)))

-- its open size
pub open_gathered : (u : Tree Leaf) → open_size u ≡ open_sum (of_left open_size u) (of_right open_size u)
open_gathered (leaf a) = refl
open_gathered (catenation s t) = refl
open_gathered (union s t) = refl
open_gathered (star s) = rw (only_left, none_right, add-zero)

-- its cut edges
pub cuts_gathered : (u : Tree Leaf)
    → cut_edges u ≡ cut_sum (of_left open_size u) (of_right open_size u) (of_left cut_edges u) (of_right cut_edges u)
cuts_gathered (leaf a) = refl
cuts_gathered (catenation s t) = refl
cuts_gathered (union s t) = refl
cuts_gathered (star s) = rw (only_left, none_right) (sym (add-zero (one (cut_only (open_size s)) + cut_edges s)))

-- a cut edge counts for at most 1
pub one_le : (b : Bool) → one b ≤ 1
one_le true = omega arith
one_le false = omega arith

-- a child adds at most its own open size
pub kept_le : (b : Bool) (n : ℕ) → kept b n ≤ n
kept_le true n = omega arith
kept_le false n = le_refl n

-- fewer edges are cut than there are nodes
pub cut_edges_lt : (u : Tree Leaf) → cut_edges u < nodes u
cut_edges_lt (leaf a) = omega arith
cut_edges_lt (catenation s t) = omega (
  arith,
  cut_edges_lt s,
  cut_edges_lt t,
  one_le (left_apart (catenation s t)),
  one_le (right_apart (catenation s t)),
)
cut_edges_lt (union s t) =
    omega (arith, cut_edges_lt s, cut_edges_lt t, one_le (left_apart (union s t)), one_le (right_apart (union s t)))
cut_edges_lt (star s) = omega (arith, cut_edges_lt s, one_le (cut_only (open_size s)))

-- so there are at most as many pieces as nodes
pub pieces_at_most_nodes : (t : Tree Leaf) → piece_count t ≤ nodes t
unfolding piece_count
pieces_at_most_nodes t = omega (arith, cut_edges_lt t)
