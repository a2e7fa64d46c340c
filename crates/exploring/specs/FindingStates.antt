-- How far the states are found: what is known of the room after so many entries, and where one entry leads.
use Rattle.std.specs.Prelude.{ℕ, ◌+◌, ◌-◌, ◌*◌, ◌≤◌, ◌<◌, ◌≡◌, List, ◌∷◌, [], ◌++◌, length}
use Rattle.language.specs.Tree.{Tree}
use Rattle.tree.specs.Leaf.{Leaf}
use Rattle.tree.specs.Limits.{most_pieces}
use Rattle.tables.specs.Tables.{Holding, Ready}
use Rattle.machines.specs.Explored.{Explored, NothingAfter}
use Rattle.exploring.specs.Keys.{Keys, SameUnder}
use Rattle.exploring.specs.Room.{marks_of, FoundKept, StatesNumbered}

-- states were found, and so many texts were tried
pub record Progress (classes : List ℕ) (t : Tree Leaf) (firsts : List ℕ) (count most : ℕ) (room : List ℕ)
    (states entered : ℕ) : Type 0 where
  pub texts : List (List ℕ)
  pub entries : List ℕ
  pub explored : Explored classes t firsts texts entries
  pub as_many : length texts ≡ states
  pub so_far : length entries ≡ entered
  pub kept : FoundKept classes t texts entries count most room

-- the entry r of the text w and the byte b: 0 where nothing is left, else a state that is there, or a new one, of which
-- the words hold the marks
pub record Leading (classes : List ℕ) (t : Tree Leaf) (w : List ℕ) (b : ℕ) (masks : List ℕ) (count most states : ℕ)
    (room words : List ℕ) (r : ℕ) : Type 0 where
  pub within : r ≤ states + 1
  pub nothing : r ≡ 0 → NothingAfter classes t (w ++ (b ∷ []))
  pub some : 0 < r → NothingAfter classes t (w ++ (b ∷ [])) → ⊥
  pub holding : Holding classes t (w ++ (b ∷ [])) words
  pub known : 0 < r → r ≤ states → SameUnder masks count (marks_of count most room (r - 1)) words
  pub new : states < r → StatesNumbered masks count most states room → (i : ℕ) → i < states
      → SameUnder masks count (marks_of count most room i) words → ⊥

-- where exploring stands: `states` were found, and p entries written
pub record Exploring (rows : List ℕ) (count : ℕ) (masks firsts : List ℕ) (columns most : ℕ)
    (room words : List ℕ) (states p : ℕ) : Type 0 where
  pub ready : Ready rows count
  pub some : 1 ≤ columns
  pub enough : columns ≤ length firsts
  pub few : states ≤ most
  pub fits : (1 + count + columns) * most ≤ length room
  pub masks_room : count ≤ length masks
  pub all_words : length words ≡ most_pieces
  pub not_past : p ≤ states * columns
  pub keys : Keys rows count masks
  pub numbered : StatesNumbered masks count most states room
