-- Bytes in groups, told by the least byte of each, and the groups parted by one leaf more.
use Rattle.std.specs.Prelude.{ℕ, ◌+◌, ◌*◌, ◌≤◌, ◌<◌, ◌≡◌, ◌⊎◌, List, length, get_or, set}
use Rattle.machines.specs.Columns.{byte_count}
use Rattle.moving.specs.Codes.{CodeTakes}
use Rattle.columns.specs.Alike.{Alike, LeafEntry, entry_number, AlikeBefore}

-- `least` has for each byte the least that each leaf before the entry p takes alike
pub record Least (rows classes : List ℕ) (p : ℕ) (least : List ℕ) : Type 0 where
  pub within : (b : ℕ) → b < byte_count → get_or least b 0 ≤ b
  pub alike : (b : ℕ) → b < byte_count → AlikeBefore rows classes p (get_or least b 0) b
  pub first : (b c : ℕ) → b < byte_count → AlikeBefore rows classes p c b → get_or least b 0 ≤ c

-- r is the least byte of c's group that the leaf of the number n takes as it takes c
pub record LeastAlike (classes : List ℕ) (n : ℕ) (before : List ℕ) (c r : ℕ) : Type 0 where
  pub within : r ≤ c
  pub group : get_or before r 0 ≡ get_or before c 0
  pub alike : Alike classes n r c
  pub first : (d : ℕ) → get_or before d 0 ≡ get_or before c 0 → Alike classes n d c → r ≤ d

-- the groups are parted by the leaf of the number n
pub record Parted (classes : List ℕ) (n : ℕ) (before after : List ℕ) : Type 0 where
  pub long : length after ≡ byte_count
  pub each : (b : ℕ) → b < byte_count → LeastAlike classes n before b (get_or after b 0)

-- how many places there are: two for each group
abbrev pub place_count : ℕ
place_count = 512

-- what stands at a place to which no byte has come
abbrev pub none : ℕ
none = 256

-- the place of the byte c: one of the two of its group, by whether the leaf takes it
pub data BytePlace (classes : List ℕ) (n : ℕ) (before : List ℕ) (c place : ℕ) : Type 0 where
  taken : CodeTakes classes n c → place ≡ 2 * get_or before c 0 + 1 → BytePlace classes n before c place
  left : (CodeTakes classes n c → ⊥) → place ≡ 2 * get_or before c 0 → BytePlace classes n before c place

-- s is the first of the bytes before b that came to the place
pub record Came (classes : List ℕ) (n : ℕ) (before : List ℕ) (b place s : ℕ) : Type 0 where
  pub before_it : s < b
  pub placed : BytePlace classes n before s place
  pub first : (c : ℕ) → BytePlace classes n before c place → s ≤ c

-- the byte b comes to a place, and r is the first that came there
pub data Comes (firsts after : List ℕ) (place b r : ℕ) : Type 0 where
  new : get_or firsts place 0 ≡ none → after ≡ set firsts place b → r ≡ b → Comes firsts after place b r
  again : (get_or firsts place 0 ≡ none → ⊥) → after ≡ firsts → r ≡ get_or firsts place 0 → Comes firsts after place b r

-- the bytes before b have come to their places
pub record Parting (classes : List ℕ) (n : ℕ) (before least firsts : List ℕ) (b : ℕ) : Type 0 where
  pub at_most : b ≤ byte_count
  pub long : length least ≡ byte_count
  pub places : length firsts ≡ place_count
  pub rest : (c : ℕ) → b ≤ c → get_or least c 0 ≡ get_or before c 0
  pub done : (c : ℕ) → c < b → LeastAlike classes n before c (get_or least c 0)
  pub fresh : (p : ℕ) → get_or firsts p 0 ≡ none → (c : ℕ) → c < b → BytePlace classes n before c p → ⊥
  pub held : (p : ℕ) → p < place_count → (get_or firsts p 0 ≡ none → ⊥)
      → Came classes n before b p (get_or firsts p 0)

-- how many numbers of leaves can be noted: those of all characters, and some of classes
abbrev pub known_count : ℕ
known_count = 514

-- the numbers that are noted are those of leaves before the entry p
pub record Known (rows : List ℕ) (p : ℕ) (known : List ℕ) : Type 0 where
  pub each : (n : ℕ) → get_or known n 0 ≡ 1 → (q : ℕ) × (q < p) × LeafEntry rows q × (entry_number rows q ≡ n)

-- the entries before p are gone through
pub record PartedSoFar (rows classes : List ℕ) (p : ℕ) (known least : List ℕ) : Type 0 where
  pub long : length least ≡ byte_count
  pub parts : Least rows classes p least
  pub knows : Known rows p known

-- no number is noted anew but n
pub record NotedToo (n : ℕ) (known after : List ℕ) : Type 0 where
  pub each : (m : ℕ) → get_or after m 0 ≡ 1 → (get_or known m 0 ≡ 1) ⊎ (m ≡ n)

-- a leaf of the number n was looked at: its number was noted before, or the groups are parted by it
pub data LookedAt (classes : List ℕ) (n : ℕ) (known before after : List ℕ) : Type 0 where
  passed : get_or known n 0 ≡ 1 → after ≡ before → LookedAt classes n known before after
  parted : Parted classes n before after → LookedAt classes n known before after
