-- The records of a tree, and those told by its pieces, are the same.
use Rattle.std.specs.Prelude.{ℕ, ◌+◌, ◌≡◌, refl, Bool, true, false}
use Rattle.std.proofs.Common.{ap, arith, zero-add}
use Rattle.language.specs.Tree.{Tree, leaf, catenation, union, star}
use Rattle.language.specs.Nested.{Nested}
use Rattle.tree.specs.Leaf.{Leaf}
use Rattle.tree.specs.Cut.{Cut, cuts, one, edge, nest}
use Rattle.tree.specs.Numbering.{child_piece, numbered}
use Rattle.tree.specs.Records.{records}
use Rattle.tree.specs.Nesting.{pieces_below_edge, pieces_below_nest, whole_nest}
use Rattle.tree.specs.Stored.{piece_numbers, stored}

-- below a cut edge the next piece begins
numbers_edge : {A : Type 0} (b : Bool) (x : Nested A) (piece new : ℕ)
    → piece_numbers (edge b x) piece new ≡ piece_numbers x (child_piece b piece new) (one b + new)
numbers_edge true x piece new = ap (piece_numbers x new) (omega arith)
numbers_edge false x piece new = rw (zero-add new)

-- the pieces of a tree that is cut are those of its nodes
numbers_nest : {A : Type 0} (t : Tree A) (c : Cut t) (piece new : ℕ)
    → piece_numbers (nest t c) piece new ≡ numbered t c piece new
numbers_nest (leaf a) c piece new = refl
numbers_nest (catenation s t) c piece new =
    let left = numbers_nest s c.1 in let right = numbers_nest t c.3 in
    let next : new + (one c.0 + cuts s c.1) ≡ one c.0 + cuts s c.1 + new = omega arith in
    simp (numbers_edge, pieces_below_edge, pieces_below_nest s c.1, next, left, right)
numbers_nest (union s t) c piece new =
    let left = numbers_nest s c.1 in let right = numbers_nest t c.3 in
    let next : new + (one c.0 + cuts s c.1) ≡ one c.0 + cuts s c.1 + new = omega arith in
    simp (numbers_edge, pieces_below_edge, pieces_below_nest s c.1, next, left, right)
numbers_nest (star s) c piece new = let only = numbers_nest s c.1 in simp (numbers_edge, only)

-- the records of a tree that is cut are those of its pieces
pub stored_nest : (t : Tree Leaf) (c : Cut t) (first piece new : ℕ) → stored (nest t c) first piece new
    ≡ records t (numbered t c piece new) first
stored_nest t c first piece new = rw (whole_nest t c, numbers_nest t c piece new)
