-- How deep a record is drawn: a table has the depth of each record, 0 at first, and each record, from the last on,
-- tells its children that they are one deeper.
use Rattle.std.specs.Prelude.{ℕ, ◌+◌, cond, List, get_or, set, replicate, ltb, eqb}
use Rattle.tree.specs.Layout.{class_kind, kind_at, left_at, right_at}
use Rattle.tree.specs.Limits.{most_records}

-- a line is indented by so many levels at most
abbrev pub most_level : ℕ
most_level = 20

-- the table before anything was told
unfoldable pub untold : List ℕ
untold = replicate most_records 0

-- the level at which record i is drawn
unfoldable pub level : (table : List ℕ) (i : ℕ) → ℕ
level table i = cond (ltb most_level (get_or table i 0)) most_level (get_or table i 0)

-- the table after record i, at this depth, told its children; where it has none its child numbers are past the table,
-- but for a class, which has its own number there
unfoldable pub told_children : (list table : List ℕ) (i depth : ℕ) → List ℕ
told_children list table i depth =
    cond (eqb (kind_at list i) class_kind) table
    (set (set table (left_at list i) (depth + 1)) (right_at list i) (depth + 1))
