-- Laws of the pieces of a tree that is cut: how many there are, and that each is small.
use Rattle.std.specs.Prelude.{◌+◌, ◌*◌, ◌≤◌, ◌≡◌, refl, Bool, true, false}
use Rattle.std.proofs.Common.{arith}
use Rattle.language.specs.Tree.{Tree, leaf, catenation, union, star, nodes}
use Rattle.language.specs.Nested.{
  Nested,
  below,
  whole,
  own,
  leaf as nested-leaf,
  catenation as nested-catenation,
  union as nested-union,
  star as nested-star,
}
use Rattle.tree.specs.Limits.{most_nodes}
use Rattle.tree.specs.Cut.{Cut, kept, one, root_piece_nodes, cuts, Fits, edge, nest}
use Rattle.tree.specs.Parts.{pieces_below, top_nodes, child_pieces, EveryBelow, EveryPiece, Small}
use Rattle.tree.specs.Least.{part_at_most}

-- what follows from P for one piece follows for every piece below another
pub every_below : {A : Type 0} {P Q : Nested A → Type 0} → ((x : Nested A) → P x → Q x) → (x : Nested A)
    → EveryBelow P x → EveryBelow Q x
every_below f (nested-leaf a) h = tt
every_below f (nested-catenation x y) h = (every_below f x h.0, every_below f y h.1)
every_below f (nested-union x y) h = (every_below f x h.0, every_below f y h.1)
every_below f (nested-star x) h = every_below f x h
every_below f (below x) h = (f x h.0, every_below f x h.1)

-- an edge, cut or not, leaves the tree under it
pub whole_edge : {A : Type 0} (b : Bool) (x : Nested A) → whole (edge b x) ≡ whole x
whole_edge true x = refl
whole_edge false x = refl

-- it adds the child's nodes to the top piece where it is not cut
top_nodes_edge : {A : Type 0} (b : Bool) (x : Nested A) → top_nodes (edge b x) ≡ kept b (top_nodes x)
top_nodes_edge true x = refl
top_nodes_edge false x = refl

-- and one piece more where it is cut
pub pieces_below_edge : {A : Type 0} (b : Bool) (x : Nested A) → pieces_below (edge b x) ≡ one b + pieces_below x
pieces_below_edge true x = refl
pieces_below_edge false x = omega arith

-- a tree that is cut is the whole tree again with no edge cut
pub whole_nest : {A : Type 0} (t : Tree A) (c : Cut t) → whole (nest t c) ≡ t
whole_nest (leaf a) c = refl
whole_nest (catenation s t) c = let left = whole_nest s c.1 in let right =
    whole_nest t c.3 in simp (whole_edge, left, right)
whole_nest (union s t) c = let left = whole_nest s c.1 in let right =
    whole_nest t c.3 in simp (whole_edge, left, right)
whole_nest (star s) c = let only = whole_nest s c.1 in simp (whole_edge, only)

-- the top piece has the nodes at and below the root that are in the root's piece
pub top_nodes_nest : {A : Type 0} (t : Tree A) (c : Cut t) → top_nodes (nest t c) ≡ root_piece_nodes t c
top_nodes_nest (leaf a) c = refl
top_nodes_nest (catenation s t) c = let left = top_nodes_nest s c.1 in let right =
    top_nodes_nest t c.3 in simp (top_nodes_edge, left, right)
top_nodes_nest (union s t) c = let left = top_nodes_nest s c.1 in let right =
    top_nodes_nest t c.3 in simp (top_nodes_edge, left, right)
top_nodes_nest (star s) c = let only = top_nodes_nest s c.1 in simp (top_nodes_edge, only)

-- there is one piece below each cut edge
pub pieces_below_nest : {A : Type 0} (t : Tree A) (c : Cut t) → pieces_below (nest t c) ≡ cuts t c
pieces_below_nest (leaf a) c = refl
pieces_below_nest (catenation s t) c = let left = pieces_below_nest s c.1 in let right =
    pieces_below_nest t c.3 in simp (pieces_below_edge, left, right)
pieces_below_nest (union s t) c = let left = pieces_below_nest s c.1 in let right =
    pieces_below_nest t c.3 in simp (pieces_below_edge, left, right)
pieces_below_nest (star s) c = let only = pieces_below_nest s c.1 in simp (pieces_below_edge, only)

-- a piece's own tree has its nodes and a stand-in for each child piece
pub nodes_own : {A : Type 0} (x : Nested A) → nodes (own x) ≡ top_nodes x + child_pieces x
nodes_own (nested-leaf a) = refl
nodes_own (nested-catenation x y) = omega (arith, nodes_own x, nodes_own y)
nodes_own (nested-union x y) = omega (arith, nodes_own x, nodes_own y)
nodes_own (nested-star x) = omega (arith, nodes_own x)
nodes_own (below x) = refl

-- a piece has at most one child piece more than nodes: a node has at most two children, and all nodes but the top one
-- are children too
pub child_pieces_at_most : {A : Type 0} (x : Nested A) → child_pieces x ≤ top_nodes x + 1
child_pieces_at_most (nested-leaf a) = omega arith
child_pieces_at_most (nested-catenation x y) = omega (arith, child_pieces_at_most x, child_pieces_at_most y)
child_pieces_at_most (nested-union x y) = omega (arith, child_pieces_at_most x, child_pieces_at_most y)
child_pieces_at_most (nested-star x) = omega (arith, child_pieces_at_most x)
child_pieces_at_most (below x) = omega arith

-- a piece of 1 to 15 nodes is small
small : {A : Type 0} (x : Nested A) → 1 ≤ top_nodes x → top_nodes x ≤ most_nodes → Small x
small x g h = record {
  some_node = g;
  few_nodes = h;
  few_child_pieces = omega (arith, child_pieces_at_most x);
  few_own_nodes = omega (arith, child_pieces_at_most x, nodes_own x);
}

-- the root is in the root's piece
top_nodes_positive : {A : Type 0} (t : Tree A) (c : Cut t) → 1 ≤ top_nodes (nest t c)
top_nodes_positive (leaf a) c = omega arith
top_nodes_positive (catenation s t) c = omega arith
top_nodes_positive (union s t) c = omega arith
top_nodes_positive (star s) c = omega arith

-- the root's piece of a cut that fits is small
small_top : {A : Type 0} (t : Tree A) (c : Cut t) → Fits t c → Small (nest t c)
small_top t c h = small (nest t c) (top_nodes_positive t c) (rw (top_nodes_nest t c) (part_at_most t c h))

-- so is the piece below an edge that is cut
small_edge : {A : Type 0} (b : Bool) (s : Tree A) (d : Cut s) → Fits s d → EveryBelow Small (nest s d)
    → EveryBelow Small (edge b (nest s d))
small_edge true s d h e = (small_top s d h, e)
small_edge false s d h e = e

-- so is every piece below another
small_below : {A : Type 0} (t : Tree A) (c : Cut t) → Fits t c → EveryBelow Small (nest t c)
small_below (leaf a) c h = tt
small_below (catenation s t) c h = (
  small_edge c.0 s c.1 h.1 (small_below s c.1 h.1),
  small_edge c.2 t c.3 h.2 (small_below t c.3 h.2),
)
small_below (union s t) c h = (
  small_edge c.0 s c.1 h.1 (small_below s c.1 h.1),
  small_edge c.2 t c.3 h.2 (small_below t c.3 h.2),
)
small_below (star s) c h = small_edge c.0 s c.1 h.1 (small_below s c.1 h.1)

-- in a cut that fits, every piece is small
pub small_pieces : {A : Type 0} (t : Tree A) (c : Cut t) → Fits t c → EveryPiece Small (nest t c)
small_pieces t c h = (small_top t c h, small_below t c h)

-- every node is in the top piece, or one of at most 15 in a piece below it
nodes_of_pieces : {A : Type 0} (x : Nested A) → EveryBelow Small x
    → nodes (whole x) ≤ top_nodes x + most_nodes * pieces_below x
nodes_of_pieces (nested-leaf a) h = omega arith
nodes_of_pieces (nested-catenation x y) h = omega (arith, nodes_of_pieces x h.0, nodes_of_pieces y h.1)
nodes_of_pieces (nested-union x y) h = omega (arith, nodes_of_pieces x h.0, nodes_of_pieces y h.1)
nodes_of_pieces (nested-star x) h = omega (arith, nodes_of_pieces x h)
nodes_of_pieces (below x) h = omega (arith, nodes_of_pieces x h.1, h.0.few_nodes)

-- where every piece is small there are at most 15 nodes for each
pub nodes_at_most : {A : Type 0} (x : Nested A) → EveryPiece Small x
    → nodes (whole x) ≤ most_nodes * (1 + pieces_below x)
nodes_at_most x h = omega (arith, nodes_of_pieces x h.1, h.0.few_nodes)
