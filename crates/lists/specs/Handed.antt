-- How piece numbers come down from the root: which slots are filled when the records from some number on have handed
-- theirs to their children.
use Rattle.std.specs.Prelude.{ℕ, ◌+◌, ◌-◌, ◌≤◌, ◌<◌, ◌≡◌, ◌⊎◌, List, get_or}
use Rattle.language.specs.Tree.{Tree, nodes}
use Rattle.tree.specs.Leaf.{Leaf}
use Rattle.tree.specs.Records.{labels}
use Rattle.cutting.specs.Seats.{Seat, seats, seat_at, held}

-- the nodes of a seat's subtree
abbrev pub size_of : Seat → ℕ
size_of x = nodes x.tree

-- slot m waits when the records from number i on have handed on their numbers: it is slot i, the last that is left, or
-- it waits before all that stands under slot i
pub data Waits (xs : List Seat) : ℕ → ℕ → Type 0 where
  here : {i m : ℕ} → 1 ≤ m → m ≡ i → Waits xs i m
  before : {i m : ℕ} → 1 ≤ i → Waits xs (i - held size_of xs i) m → Waits xs i m

-- the slots that are filled then: those past slot i, and those that wait
abbrev pub SlotFilled : List Seat → ℕ → ℕ → Type 0
SlotFilled xs i m = (i < m) ⊎ Waits xs i m

-- the filled slots hold that number of their seats
pub record SeatsHeld (f : Seat → ℕ) (t : Tree Leaf) (i : ℕ) (slots : List ℕ) : Type 0 where
  pub slot : (m : ℕ) → m ≤ nodes t → SlotFilled (seats t 0 1) i m → get_or slots m 0 ≡ held f (seats t 0 1) m

-- the piece of a seat
abbrev pub piece_of : Seat → ℕ
piece_of x = x.piece

-- the first new piece below a seat
abbrev pub new_of : Seat → ℕ
new_of x = x.new

-- the records from number i on have handed their pieces and new pieces to their children
pub record Handed (ls pieces news : List ℕ) (i : ℕ) : Type 0 where
  pub pieced : (t : Tree Leaf) → ls ≡ labels t → SeatsHeld piece_of t i pieces
  pub renewed : (t : Tree Leaf) → ls ≡ labels t → SeatsHeld new_of t i news

-- every record has its piece
pub record Pieced (ls pieces : List ℕ) : Type 0 where
  pub at_record : (t : Tree Leaf) → ls ≡ labels t → (i : ℕ) → i < nodes t
      → get_or pieces (i + 1) 0 ≡ (seat_at (seats t 0 1) i).piece
