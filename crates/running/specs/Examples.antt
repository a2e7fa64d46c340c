-- What a table says of texts, computed: a table of three states that accepts the text `a` alone, and the same with
-- entries that are cut off or changed.
use Rattle.std.specs.Prelude.{ℕ, ◌≡◌, refl, true, false, List, [], ◌∷◌, ◌++◌, replicate, take, set}
use Rattle.tree.specs.RefusalNumbers.{table_too_short}
use Rattle.running.specs.Runs.{led, runs}
use Rattle.running.specs.Answer.{refusing_table, answering_table, table_answered}

-- the column of `a` begins at entry 260, that of all other bytes at 257, that of accepting at 263
abbrev column_begins : List ℕ
column_begins = replicate 97 257 ++ (260 ∷ replicate 158 257) ++ (263 ∷ [])

-- states 0, 1 and 2 of each column: `a` leads from state 1 to state 2, which accepts
abbrev table : List ℕ
table = column_begins ++ (0 ∷ 0 ∷ 0 ∷ []) ++ (0 ∷ 2 ∷ 0 ∷ []) ++ (0 ∷ 0 ∷ 1 ∷ [])

only_a : (runs table (97 ∷ []) ≡ true) × (runs table [] ≡ false) × (runs table (98 ∷ []) ≡ false)
    × (runs table (97 ∷ 97 ∷ []) ≡ false)
only_a = (refl, refl, refl, refl)

-- an entry past the end counts as 0: without its last entry the table accepts nothing
cut_off : runs (take 265 table) (97 ∷ []) ≡ false
cut_off = refl

-- where a column begins past the end, every state leads to state 0
begins_past : led (set table 97 60000) (97 ∷ []) 1 ≡ 0
begins_past = refl

-- state 0 is not left, and does not accept, whatever its entries say
dead_stays : (runs (set (set table 257 2) 263 1) (98 ∷ 98 ∷ []) ≡ false)
    × (led (set table 257 2) (98 ∷ 98 ∷ []) 1 ≡ 0)
dead_stays = (refl, refl)

-- an entry of accepting that is not 1 is a no
other_than_one : runs (set table 265 2) (97 ∷ []) ≡ false
other_than_one = refl

-- 257 entries are enough, 256 are refused
lengths : (table_answered (take 256 table) [] ≡ refusing_table table_too_short)
    × (table_answered (take 257 table) [] ≡ answering_table false)
    × (table_answered table (97 ∷ []) ≡ answering_table true)
lengths = (refl, refl, refl)
