-- The line of a record: its number, its piece, its place, and, indented by its level, what it is and what it holds.
use Rattle.std.specs.Prelude.{ℕ, ◌*◌, ◌-◌, cond, List, [], ◌++◌, length, ltb}
use Rattle.tree.specs.Layout.{kind_at, character_at, left_at, right_at, piece_at, place_at}
use Rattle.operands.specs.Text.{bytes}
use Rattle.printing.specs.Digits.{digits}
use Rattle.showing.specs.Shown.{shown_byte, spaces}

-- how wide a column of numbers is
abbrev pub column_width : ℕ
column_width = 7

-- numbers in a record are below this
abbrev pub most_number : ℕ
most_number = 65536

-- a number, and spaces up to the next column
unfoldable pub column : ℕ → List ℕ
column n = digits n ++ spaces (column_width - length (digits n))

-- the word for a kind, 1 to 6
unfoldable pub kind_word : (kind : ℕ) → List ℕ
kind_word kind =
    cond (ltb kind 2) (bytes "character ")
    (cond (ltb kind 3) (bytes "catenation of ")
    (cond (ltb kind 4) (bytes "union of ")
    (cond (ltb kind 5) (bytes "star of ") (cond (ltb kind 6) (bytes "class ") (bytes "empty text")))))

-- it has at most so many bytes
abbrev pub most_word : ℕ
most_word = 14

-- the numbers of two children
unfoldable pub pair : (left right : ℕ) → List ℕ
pair left right = digits left ++ bytes " and " ++ digits right

-- what record i holds: a character, its two children, its only child or the number of its class, or nothing
unfoldable pub holds : List ℕ → (i : ℕ) → List ℕ
holds list i =
    cond (ltb (kind_at list i) 2) (shown_byte (character_at list i))
    (cond (ltb (kind_at list i) 4) (pair (left_at list i) (right_at list i))
    (cond (ltb (kind_at list i) 6) (digits (left_at list i)) []))

-- which has at most so many bytes
abbrev pub most_held : ℕ
most_held = 15

-- the three numbers of record i
unfoldable pub numbers_of : List ℕ → (i : ℕ) → List ℕ
numbers_of list i = column i ++ column (piece_at list i) ++ column (place_at list i)

-- what it is and what it holds, and the line's end
unfoldable pub node_of : List ℕ → (i : ℕ) → List ℕ
node_of list i = kind_word (kind_at list i) ++ holds list i ++ bytes "\n"

-- its line, at a level
unfoldable pub record_line : List ℕ → (i level : ℕ) → List ℕ
record_line list i level = numbers_of list i ++ spaces (2 * level) ++ node_of list i

-- a line, with an empty one before it, has at most so many bytes
abbrev pub most_line : ℕ
most_line = 92
