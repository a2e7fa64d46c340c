-- The tree of a good list, cut as wanted, is as stated.
use Rattle.std.specs.Prelude.{ℕ, ◌+◌, ◌*◌, ◌≤◌, List}
use Rattle.std.proofs.Common.{sym, ap, ◌∙◌, arith}
use Rattle.language.specs.Tree.{Tree, nodes}
use Rattle.tree.specs.Leaf.{Leaf}
use Rattle.tree.specs.Cut.{wanted}
use Rattle.tree.specs.Records.{encode, piece_count, Good}
use Rattle.tree.specs.Least.{wanted_fits}
use Rattle.tree.specs.Limits.{most_nodes, most_records}
use Rattle.tree.specs.Nesting.{whole_nest, pieces_below_nest, small_pieces, nodes_at_most}
use Rattle.tree.specs.StoredLaws.{stored_nest}
unfoldable pub use Rattle.tree.specs.CutUp.{cut_up}
pub use Rattle.tree.specs.CutUp.{Stated, TellsCut}

-- the wanted cut is as stated
pub stated : (t : Tree Leaf) → Stated t (cut_up t)
unfolding cut_up encode piece_count
stated t =
    record {
      same_tree = whole_nest t (wanted t);
      every_small = small_pieces t (wanted t) (wanted_fits t);
      all_pieces = ap (λ (n : ℕ). 1 + n) (pieces_below_nest t (wanted t));
      as_stored = stored_nest t (wanted t) 0 0 1;
    }

-- so a tree has at most 15 nodes for each piece
pub nodes_per_piece : (t : Tree Leaf) → nodes t ≤ most_nodes * piece_count t
nodes_per_piece t = rw ((stated t).same_tree, (stated t).all_pieces) at (nodes_at_most (cut_up t) (stated t).every_small)

-- the tree of a good list has at most 1,920 nodes: 15 in each of 128 pieces
pub good_small : (bytes : List ℕ) (t : Tree Leaf) → Good bytes t → nodes t ≤ most_records
good_small bytes t good = omega (arith, nodes_per_piece t, good.few)

-- a good list tells the wanted cut of its tree
pub good_tells : (bytes : List ℕ) (t : Tree Leaf) → Good bytes t → TellsCut bytes t (cut_up t)
good_tells bytes t good =
    record {
      cut = stated t;
      bytes_stored = good.of_tree ∙ sym (stated t).as_stored;
      few_pieces =
          rw (stated t).all_pieces good.few;
    }
