-- What is written of a table of steps: where its columns begin, its columns, and the column of accepting, each value
-- read from where the states were found.
use Rattle.std.specs.Prelude.{ℕ, ◌+◌, ◌*◌, ◌/◌, ◌%◌, ◌^◌, ◌≤◌, ◌<◌, ◌≡◌, List, length, get_or, drop}
use Rattle.running.specs.Runs.{accepting_column}
use Rattle.machines.specs.Columns.{byte_count}
use Rattle.machines.specs.TableOf.{heading, most_entries, entry_count}
use Rattle.tables.specs.Words.{word_bits}
-- where in the room the values are
use Rattle.writing.specs.declared.Places.{Places}

-- where column c begins, in a table of so many states
abbrev pub begin_of : (c states : ℕ) → ℕ
begin_of c states = heading + c * states

module _ (places : Places) where
  -- where column c leads from the state of text i
  abbrev pub led_to : (room : List ℕ) → (c i : ℕ) → ℕ
  led_to room c i = get_or room (places.entries + c + places.columns * i) 0

  -- whether the state of text i accepts, 1 or 0
  abbrev pub accepted : (room : List ℕ) → (i : ℕ) → ℕ
  accepted room i = get_or room (places.marks + places.pieces * i) 0 / 2 ^ places.top % 2

  -- every value can be read, and fits into an entry; the table has room for all
  pub record Writable (columns room table : List ℕ) : Type 0 where
    pub few : entry_count places.columns (1 + places.texts) ≤ most_entries
    pub in_table : entry_count places.columns (1 + places.texts) ≤ length table
    pub within : (b : ℕ) → b < byte_count → get_or columns b 0 < places.columns
    pub entries_there : places.entries + places.columns * places.texts ≤ length room
    pub marks_there : places.marks + places.pieces * places.texts ≤ length room
    pub some_piece : 1 ≤ places.pieces
    pub top_low : places.top < word_bits
    pub states_only : (p : ℕ) → p < places.columns * places.texts
        → get_or room (places.entries + p) 0 ≤ places.texts

  -- the table after writing
  pub record TableWritten (columns room before after : List ℕ) : Type 0 where
    pub begins : (b : ℕ) → b < byte_count → get_or after b 0 ≡ begin_of (get_or columns b 0) (1 + places.texts)
    pub accepting_begins : get_or after accepting_column 0 ≡ begin_of places.columns (1 + places.texts)
    pub nothing : (c : ℕ) → c < places.columns → get_or after (begin_of c (1 + places.texts)) 0 ≡ 0
    pub leads : (i c : ℕ) → i < places.texts → c < places.columns
        → get_or after (begin_of c (1 + places.texts) + (1 + i)) 0 ≡ led_to room c i
    pub nothing_accepts : get_or after (begin_of places.columns (1 + places.texts)) 0 ≡ 0
    pub accepts : (i : ℕ) → i < places.texts
        → get_or after (begin_of places.columns (1 + places.texts) + (1 + i)) 0 ≡ accepted room i
    pub others : drop (entry_count places.columns (1 + places.texts)) after
        ≡ drop (entry_count places.columns (1 + places.texts)) before
    pub same_length : length after ≡ length before
