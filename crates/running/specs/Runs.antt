-- What a table of steps says of a text. Any list of numbers is a table: entry b, for each byte b, says where the column
-- of b begins, entry 256 where the column of accepting does; a column has an entry for each state. State 1 is the
-- start, state 0 is where nothing is left.
use Rattle.std.specs.Prelude.{ℕ, ◌+◌, Bool, false, cond, List, [], ◌∷◌, eqb, get_or}

-- the entry of state s in the column that begins where entry c says; an entry past the table's end counts as 0
abbrev pub entry : (table : List ℕ) → (c s : ℕ) → ℕ
entry table c s = get_or table (get_or table c 0 + s) 0

-- which entry says where the column of accepting begins: the one after those of the 256 bytes
abbrev pub accepting_column : ℕ
accepting_column = 256

-- where the byte b leads from state s: from state 0 none leads away
abbrev pub leads : (table : List ℕ) → (s b : ℕ) → ℕ
leads table s b = cond (eqb s 0) 0 (entry table b s)

-- where a text leads from state s, byte by byte
abbrev pub led : (table text : List ℕ) → (s : ℕ) → ℕ
led table [] s = s
led table (b ∷ text) s = led table text (leads table s b)

-- whether state s accepts: its entry in the column of accepting is 1; state 0 does not
abbrev pub accepts : (table : List ℕ) → (s : ℕ) → Bool
accepts table s = cond (eqb s 0) false (eqb (entry table accepting_column s) 1)

-- whether the table accepts the text: the state where it leads from state 1 does
abbrev pub runs : (table text : List ℕ) → Bool
runs table text = accepts table (led table text 1)
