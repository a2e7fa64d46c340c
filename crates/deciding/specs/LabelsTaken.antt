-- How far taking the labels of a list and comparing its records have come, and what the comparison says.
use Rattle.std.specs.Prelude.{ℕ, ◌<◌, ◌≡◌, Bool, true, false, List, get_or}
use Rattle.language.specs.Tree.{Tree}
use Rattle.tree.specs.Leaf.{Leaf}
use Rattle.tree.specs.Layout.{label_at}
use Rattle.tree.specs.Places.{bare, LowPlaces, IsRecord}
use Rattle.tree.specs.Records.{encode, labels}
use Rattle.cutting.specs.Seats.{seats, seat_at}
use Rattle.cutting.specs.SeatRecords.{seat_record}

-- the first n labels are those that the records of the list show
pub record Taken (list ls : List ℕ) (n : ℕ) : Type 0 where
  pub each : (r : ℕ) → r < n → get_or ls r 0 ≡ label_at list r

-- the list is that of the tree but for its places, which are at most 1,023
pub record ListOf (list : List ℕ) (t : Tree Leaf) : Type 0 where
  pub of_tree : bare list ≡ encode t
  pub placed : LowPlaces list

-- b says whether the list is that of the tree with these labels
pub record Compared (ls list : List ℕ) (b : Bool) : Type 0 where
  pub if_so : b ≡ true → (t : Tree Leaf) → ls ≡ labels t → ListOf list t
  pub if_not : b ≡ false → (t : Tree Leaf) → ls ≡ labels t → ListOf list t → ⊥

-- the first i records are those of the tree with these labels
pub record Agrees (ls list : List ℕ) (i : ℕ) : Type 0 where
  pub each : (t : Tree Leaf) → ls ≡ labels t → (r : ℕ) → r < i
      → IsRecord list r (seat_record r (seat_at (seats t 0 1) r))
