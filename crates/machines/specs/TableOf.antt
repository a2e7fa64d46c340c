-- The table of steps of a list: its entries, and when it fits.
use Rattle.std.specs.Prelude.{ℕ, ◌+◌, ◌-◌, ◌*◌, ◌/◌, ◌≤◌, ◌<◌, min, ◌≡◌, ◌⊎◌, List, [], length, get_or, drop}
use Rattle.language.specs.Tree.{Tree}
use Rattle.tree.specs.Leaf.{Leaf, Matches}
use Rattle.running.specs.Runs.{accepting_column}
use Rattle.machines.specs.Columns.{byte_count}

-- the entries that say where the columns begin: one for each byte, and one for the column of accepting
abbrev pub heading : ℕ
heading = 257

-- how many entries a table has at most, so that an entry of 16 bits can say where a column begins
abbrev pub most_entries : ℕ
most_entries = 65536

-- how many entries the table of so many states has, with a column for each of the firsts and that of accepting
abbrev pub entry_count : (columns states : ℕ) → ℕ
entry_count columns states = heading + (columns + 1) * states

-- how many words of room the making of a table takes for each state but 0: its marks, where each column leads from it,
-- and a number by which it is found again
abbrev pub state_room : (pieces columns : ℕ) → ℕ
state_room pieces columns = 1 + pieces + columns

-- a table of so many states fits: state 0 is one of them, and takes no room
pub record TableFits (pieces columns states table-length room-length : ℕ) : Type 0 where
  pub few : entry_count columns states ≤ most_entries
  pub in_table : entry_count columns states ≤ table-length
  pub in_room : state_room pieces columns * states ≤ room-length + state_room pieces columns

-- for how many texts the states fit at most: by the table's length, and by the room's
abbrev pub most_texts : (pieces columns table-length room-length : ℕ) → ℕ
most_texts pieces columns table-length room-length =
    min ((min most_entries table-length - heading) / (columns + 1) - 1) (room-length / state_room pieces columns)

-- the table has the columns, the states and the entries that were found; past them it is as before
pub record TableOf (classes : List ℕ) (t : Tree Leaf) (firsts columns : List ℕ) (texts : List (List ℕ))
    (entries before after : List ℕ) : Type 0 where
  pub begins : (b : ℕ) → b < byte_count
      → get_or after b 0 ≡ heading + get_or columns b 0 * (1 + length texts)
  pub accepting_begins : get_or after accepting_column 0 ≡ heading + length firsts * (1 + length texts)
  -- from state 0 every byte leads to it
  pub nothing : (c : ℕ) → c < length firsts → get_or after (heading + c * (1 + length texts)) 0 ≡ 0
  -- from the state of text i the first byte of column c leads where its entry says
  pub leads : (i c : ℕ) → i < length texts → c < length firsts
      → get_or after (heading + c * (1 + length texts) + (1 + i)) 0 ≡ get_or entries (i * length firsts + c) 0
  pub nothing_accepts : get_or after (heading + length firsts * (1 + length texts)) 0 ≡ 0
  -- the state of text i accepts, which is entry 1, or not, which is entry 0
  pub accepts : (i : ℕ) → i < length texts
      → ((get_or after (heading + length firsts * (1 + length texts) + (1 + i)) 0 ≡ 1)
      × Matches classes t (get_or texts i []))
      ⊎ ((get_or after (heading + length firsts * (1 + length texts) + (1 + i)) 0 ≡ 0)
      × (Matches classes t (get_or texts i []) → ⊥))
  pub others : drop (entry_count (length firsts) (1 + length texts)) after
      ≡ drop (entry_count (length firsts) (1 + length texts)) before
  pub same_length : length after ≡ length before
