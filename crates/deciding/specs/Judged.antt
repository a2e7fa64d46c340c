-- What deciding on a list promises: its tree's counts where it is good, and that no tree makes it good where it is not.
use Rattle.std.specs.Prelude.{ℕ, ◌+◌, ◌/◌, ◌≤◌, ◌<◌, ◌≡◌, List, Option, None, Some, length, get_or}
use Rattle.language.specs.Tree.{Tree, nodes}
use Rattle.tree.specs.Leaf.{Leaf}
use Rattle.tree.specs.Limits.{most_records}
use Rattle.tree.specs.Layout.{record_size}
use Rattle.tree.specs.Records.{piece_count, class_count, Good}
use Rattle.tree.specs.Parts.{below_each}
use Rattle.tree.specs.Pieces.{cut_up}
use Rattle.tree.specs.declared.counted.Counts.{Counts}

-- the list is good, for a tree with these counts
pub record GoodWith (bytes : List ℕ) (records pieces classes : ℕ) : Type 0 where
  pub tree : Tree Leaf
  pub is_good : Good bytes tree
  pub records_are : records ≡ nodes tree
  pub pieces_are : pieces ≡ piece_count tree
  pub classes_are : classes ≡ class_count tree

-- the answer fits the list
abbrev pub FitsAnswer : List ℕ → Option Counts → Type 0
FitsAnswer bytes (Some counts) = GoodWith bytes counts.records counts.pieces counts.classes
FitsAnswer bytes None = (t : Tree Leaf) → Good bytes t → ⊥

-- the promise of deciding: the answer fits
pub record Judged (bytes : List ℕ) (answer : Option Counts) : Type 0 where
  pub fits : FitsAnswer bytes answer

-- where the list is good, slot r + 1 tells how many pieces there are below the node of record r
pub record CountsBelow (bytes slots : List ℕ) : Type 0 where
  pub told : (t : Tree Leaf) → Good bytes t → (r : ℕ) → r < nodes t
      → get_or slots (r + 1) 0 ≡ get_or (below_each (cut_up t)) r 0

-- a slot for each record of the list, and slot 0, where it has not more records than a good list can have
pub record RoomToDecide (list slots : List ℕ) : Type 0 where
  pub for_slots : length list / record_size ≤ most_records → length list / record_size < length slots
