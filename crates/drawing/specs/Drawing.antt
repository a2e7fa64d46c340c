-- A rule and its records drawn: the rule, the marks, and the records from the root down.
use Rattle.std.specs.Prelude.{ℕ, zero, suc, cond, List, [], ◌++◌, length, eqb}
use Rattle.tree.specs.Layout.{piece_at}
use Rattle.operands.specs.Text.{bytes}
use Rattle.showing.specs.Shown.{shown}
use Rattle.record_line.specs.Depth.{untold, level, told_children}
use Rattle.record_line.specs.Node.{record_line}
use Rattle.drawing.specs.Marks.{marks}

-- an empty line where a piece is not that of the line above
abbrev pub gap : (above piece : ℕ) → List ℕ
gap above piece = cond (eqb above piece) [] (bytes "\n")

-- the lines of the first i records, the last of them first, where the table has their depths as far as they were told
unfoldable pub lines_below : (list table : List ℕ) (above i : ℕ) → List ℕ
lines_below list table above zero = []
lines_below list table above (suc i) =
    gap above (piece_at list i) ++ record_line list i (level table i)
    ++ lines_below list (told_children list table i (level table i)) (piece_at list i) i

-- the lines of all records: the root is the last, in piece 0
abbrev pub record_lines : (list : List ℕ) (records : ℕ) → List ℕ
record_lines list records = lines_below list untold 0 records

-- the rule, the marks, an empty line, the names of the columns, and the records
unfoldable pub drawing : (rule list : List ℕ) (records : ℕ) → List ℕ
drawing rule list records =
    shown rule ++ bytes "\n" ++ marks rule list records (length rule) ++ bytes "\n\nrecord piece  place  node\n"
    ++ record_lines list records

-- it has at most so many bytes
abbrev pub most_drawn : ℕ
most_drawn = 184861
