-- What of a state's marks counts: the starts of leaves, and the root's accepting state; and the number by which a state
-- is found again, made of these.
use Rattle.std.specs.Prelude.{ℕ, zero, suc, ◌*◌, ◌/◌, ◌%◌, ◌^◌, ◌<◌, ◌≡◌, List, get_or}
use Rattle.std.specs.Int.Bits.{bit_or, bit_and, bit_xor}
use Rattle.tables.specs.Plan.{leaves_mask, top_of}

-- the masks under which words are compared, one for each piece
pub record Keys (rows : List ℕ) (count : ℕ) (masks : List ℕ) : Type 0 where
  pub first : get_or masks 0 0 ≡ bit_or (leaves_mask rows 0) (2 ^ top_of rows 0)
  pub others : (k : ℕ) → 0 < k → k < count → get_or masks k 0 ≡ leaves_mask rows k

-- two runs of words agree under the masks
pub record SameUnder (masks : List ℕ) (count : ℕ) (u v : List ℕ) : Type 0 where
  pub each : (k : ℕ) → k < count → bit_and (get_or u k 0) (get_or masks k 0) ≡ bit_and (get_or v k 0) (get_or masks k 0)

-- a word with its bits spread: every bit counts in three places
abbrev pub spread : ℕ → ℕ
spread word = bit_xor (bit_xor word (word * 2 ^ 13 % 2 ^ 64)) (word / 2 ^ 7)

-- the number of the first so many words
unfoldable pub number_under : (masks words : List ℕ) → (count : ℕ) → ℕ
number_under masks words zero = 0
number_under masks words (suc k) =
    spread (bit_xor (number_under masks words k) (bit_and (get_or words k 0) (get_or masks k 0)))
