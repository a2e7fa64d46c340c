-- What the room holds while states are found: for each state a number, its marks, and where each column leads from it.
use Rattle.std.specs.Prelude.{ℕ, ◌+◌, ◌*◌, ◌≤◌, ◌<◌, ◌≡◌, List, [], get_or, drop, length, set, take, Option, Some, None}
use Rattle.std.proofs.Math.Seq.{paste}
use Rattle.language.specs.Tree.{Tree}
use Rattle.tree.specs.Leaf.{Leaf}
use Rattle.tables.specs.Tables.{Holding}
use Rattle.machines.specs.Explored.{Explored, FoundAllStates}
use Rattle.exploring.specs.Keys.{SameUnder, number_under}

-- the marks of state 1 + i
abbrev pub marks_of : (count most : ℕ) → (room : List ℕ) → (i : ℕ) → List ℕ
marks_of count most room i = take count (drop (most + count * i) room)

-- where the entries begin
abbrev pub entries_from : (count most : ℕ) → ℕ
entries_from count most = most + count * most

-- the room holds what was found: the entries, and for each state the marks after the first text that led to it
pub record FoundKept (classes : List ℕ) (t : Tree Leaf) (texts : List (List ℕ)) (entries : List ℕ) (count most : ℕ)
    (room : List ℕ) : Type 0 where
  pub entries_kept : (p : ℕ) → p < length entries → get_or room (entries_from count most + p) 0 ≡ get_or entries p 0
  pub marks_kept : (i : ℕ) → i < length texts → Holding classes t (get_or texts i []) (marks_of count most room i)

-- each state can be found again by its number
pub record StatesNumbered (masks : List ℕ) (count most states : ℕ) (room : List ℕ) : Type 0 where
  pub numbers : (i : ℕ) → i < states → get_or room i 0 ≡ number_under masks (marks_of count most room i) count

-- the room with the number and the marks of state 1 + i
abbrev pub with_state : (masks : List ℕ) → (count most : ℕ) → (room : List ℕ) → (i : ℕ) → (words : List ℕ) → List ℕ
with_state masks count most room i words =
    paste (set room i (number_under masks words count)) (most + count * i) words count

-- entry p is written; where it leads to a new state, that is written too, and there is one more
pub data EntryWritten (masks : List ℕ) (count most states p entry : ℕ) (before words after : List ℕ) (r : ℕ)
    : Type 0 where
  no_state : entry ≤ states → after ≡ set before (entries_from count most + p) entry → r ≡ states
      → EntryWritten masks count most states p entry before words after r
  new_state : states < entry
      → after ≡ with_state masks count most (set before (entries_from count most + p) entry) states words
      → r ≡ states + 1 → EntryWritten masks count most states p entry before words after r

-- r is the place of the state whose marks agree with the words under the masks, or, where there is none, `states`
pub record Sought (masks : List ℕ) (count most states : ℕ) (room words : List ℕ) (r : ℕ) : Type 0 where
  pub within : r ≤ states
  pub known : r < states → SameUnder masks count (marks_of count most room r) words
  pub new : states ≤ r → StatesNumbered masks count most states room → (i : ℕ) → i < states
      → SameUnder masks count (marks_of count most room i) words → ⊥

-- all states were found, `states` of them but state 0, and the room holds them
pub record FoundAll (classes : List ℕ) (t : Tree Leaf) (firsts : List ℕ) (count most : ℕ) (room : List ℕ) (states : ℕ)
    : Type 0 where
  pub texts : List (List ℕ)
  pub entries : List ℕ
  pub found : FoundAllStates classes t firsts texts entries
  pub as_many : length texts ≡ states
  pub fit : states ≤ most
  pub kept : FoundKept classes t texts entries count most room

-- there are more states than there is room for
pub record TooMany (classes : List ℕ) (t : Tree Leaf) (firsts : List ℕ) (most : ℕ) : Type 0 where
  pub texts : List (List ℕ)
  pub entries : List ℕ
  pub explored : Explored classes t firsts texts entries
  pub more : most < length texts

-- an answer is right
abbrev pub Exploration : (classes : List ℕ) → (t : Tree Leaf) → (firsts : List ℕ) → (count most : ℕ)
    → (room : List ℕ) → Option ℕ → Type 0
Exploration classes t firsts count most room (Some states) = FoundAll classes t firsts count most room states
Exploration classes t firsts count most room None = TooMany classes t firsts most

-- none of the first i states has the number and marks that agree with the words
pub record Passed (masks : List ℕ) (count most number : ℕ) (room words : List ℕ) (i : ℕ) : Type 0 where
  pub none : (j : ℕ) → j < i → get_or room j 0 ≡ number → SameUnder masks count (marks_of count most room j) words → ⊥
