-- What the layers above may use of the cut, and nothing else: the tree of a good list, cut into small pieces.
use Rattle.std.specs.Prelude.{ℕ, ◌+◌, ◌≤◌, ◌≡◌, List}
use Rattle.language.specs.Tree.{Tree}
use Rattle.language.specs.Nested.{Nested, whole}
use Rattle.tree.specs.Leaf.{Leaf}
use Rattle.tree.specs.Cut.{nest, wanted}
use Rattle.tree.specs.Places.{bare}
use Rattle.tree.specs.Records.{encode, piece_count}
use Rattle.tree.specs.Limits.{most_pieces}
use Rattle.tree.specs.Parts.{pieces_below, EveryPiece, Small}
use Rattle.tree.specs.Stored.{stored}

-- the tree cut into its pieces as wanted; shut, so that the layers above see of it only what is stated
unfoldable pub cut_up : Tree Leaf → Nested Leaf
cut_up t = nest t (wanted t)

-- x is the tree t cut into pieces, as its list tells them
pub record Stated (t : Tree Leaf) (x : Nested Leaf) : Type 0 where
  -- with no edge cut x is t
  pub same_tree : whole x ≡ t
  -- every piece has 1 to 15 nodes and at most 16 child pieces, and its own tree at most 31 nodes
  pub every_small : EveryPiece Small x
  -- the pieces are as many as are counted
  pub all_pieces : 1 + pieces_below x ≡ piece_count t
  -- the list of t tells the pieces of x, the root's is 0, and a piece and those below it have a run of numbers
  pub as_stored : stored x 0 0 1 ≡ encode t

-- a good list, seen from above: but for the places, the records of a cut tree with small pieces, at most 128 of them
pub record TellsCut (bytes : List ℕ) (t : Tree Leaf) (x : Nested Leaf) : Type 0 where
  pub cut : Stated t x
  pub bytes_stored : bare bytes ≡ stored x 0 0 1
  pub few_pieces : 1 + pieces_below x ≤ most_pieces
