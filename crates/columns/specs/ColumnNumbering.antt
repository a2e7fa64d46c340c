-- The groups of bytes, numbered in the order of their least bytes.
use Rattle.std.specs.Prelude.{ℕ, ◌≤◌, ◌<◌, ◌≡◌, List, length, get_or}
use Rattle.machines.specs.Columns.{byte_count}

-- each byte's entry is no greater byte, which is its own entry
pub record Grouped (least : List ℕ) : Type 0 where
  pub within : (b : ℕ) → b < byte_count → get_or least b 0 ≤ b
  pub own : (b : ℕ) → b < byte_count → get_or least (get_or least b 0) 0 ≡ get_or least b 0

-- the groups of the bytes before b are numbered: there are `count`, `firsts` has their least bytes, and `columns` for
-- each byte the number of its group
pub record ColumnsNumbered (least : List ℕ) (b : ℕ) (firsts columns : List ℕ) (count : ℕ) : Type 0 where
  pub at_most : b ≤ byte_count
  pub few : count ≤ b
  pub firsts_long : length firsts ≡ byte_count
  pub columns_long : length columns ≡ byte_count
  pub within : (c : ℕ) → c < b → get_or columns c 0 < count
  pub named : (c : ℕ) → c < b → get_or firsts (get_or columns c 0) 0 ≡ get_or least c 0
  pub bytes : (i : ℕ) → i < count → get_or firsts i 0 < b
  pub own : (i : ℕ) → i < count → get_or columns (get_or firsts i 0) 0 ≡ i
  pub ordered : (i j : ℕ) → i < j → j < count → get_or firsts i 0 < get_or firsts j 0
