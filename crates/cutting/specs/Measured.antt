-- What the slots hold when the records up to some number are measured: of each subtree its nodes, its open size and its
-- cut edges.
use Rattle.std.specs.Prelude.{ℕ, ◌≤◌, ◌<◌, ◌≡◌, List, length, get_or}
use Rattle.language.specs.Tree.{Tree, nodes}
use Rattle.tree.specs.Leaf.{Leaf}
use Rattle.tree.specs.Cut.{open_size}
use Rattle.tree.specs.Records.{labels, piece_count}
use Rattle.cutting.specs.Seats.{Seat, seats, seat_at, cut_edges, held}

-- the labels are those of one tree, in postorder
pub record Postorder (ls : List ℕ) : Type 0 where
  pub tree : Tree Leaf
  pub same : ls ≡ labels tree

-- the subtree whose root is record i
abbrev pub node : Tree Leaf → ℕ → Tree Leaf
node t i = (seat_at (seats t 0 1) i).tree

-- three lists with a slot for each of n records, and slot 0
pub record RoomToMeasure (n : ℕ) (sizes opens cuts : List ℕ) : Type 0 where
  pub for_sizes : n < length sizes
  pub for_opens : n < length opens
  pub for_cuts : n < length cuts

-- slots 0 to i hold that number of the subtrees
pub record SlotsHold (f : Tree Leaf → ℕ) (t : Tree Leaf) (i : ℕ) (slots : List ℕ) : Type 0 where
  pub slot : (j : ℕ) → j ≤ i → get_or slots j 0 ≡ held (λ (x : Seat). f x.tree) (seats t 0 1) j

-- the records below number i are measured
pub record Measured (ls sizes opens cuts : List ℕ) (i : ℕ) : Type 0 where
  pub sized : (t : Tree Leaf) → ls ≡ labels t → SlotsHold nodes t i sizes
  pub opened : (t : Tree Leaf) → ls ≡ labels t → SlotsHold open_size t i opens
  pub counted : (t : Tree Leaf) → ls ≡ labels t → SlotsHold cut_edges t i cuts

-- the sizes alone, for every record
pub record Sized (ls sizes : List ℕ) : Type 0 where
  pub sized : (t : Tree Leaf) → ls ≡ labels t → SlotsHold nodes t (length ls) sizes

-- r is the piece count of the tree with these labels
pub record CountsPieces (ls : List ℕ) (r : ℕ) : Type 0 where
  pub count : (t : Tree Leaf) → ls ≡ labels t → r ≡ piece_count t
