-- What the making of a table of steps promises, for the tree t: the table and the room afterwards, where it is made and
-- where it does not fit.
use Rattle.std.specs.Prelude.{ℕ, ◌+◌, ◌≡◌, List, length, replicate, Option, Some, None}
use Rattle.language.specs.Tree.{Tree}
use Rattle.tree.specs.Leaf.{Leaf}
use Rattle.tree.specs.Records.{piece_count}
use Rattle.machines.specs.Columns.{Columned}
use Rattle.machines.specs.Explored.{FoundAllStates}
use Rattle.machines.specs.TableOf.{entry_count, TableFits, TableOf}
use Rattle.tabulating.specs.declared.Made.{Made}

module _ (classes : List ℕ) (t : Tree Leaf) (table after room cleared : List ℕ) where
  -- the table was made: it has the columns and all the states of t, and fits; every word of the room is 0
  pub record TableMade (states entries : ℕ) : Type 0 where
    pub firsts : List ℕ
    pub columns : List ℕ
    pub texts : List (List ℕ)
    pub found : List ℕ
    pub columned : Columned classes t firsts columns
    pub all : FoundAllStates classes t firsts texts found
    pub fits : TableFits (piece_count t) (length firsts) (1 + length texts) (length table) (length room)
    pub made : TableOf classes t firsts columns texts found table after
    pub states_are : states ≡ 1 + length texts
    pub entries_are : entries ≡ entry_count (length firsts) (1 + length texts)
    pub room_cleared : cleared ≡ replicate (length room) 0

  -- the table of all the states of t does not fit: no entry differs, and every word of the room is 0
  pub record CannotFit : Type 0 where
    pub never : (firsts columns : List ℕ) (texts : List (List ℕ)) (found : List ℕ) → Columned classes t firsts columns
        → FoundAllStates classes t firsts texts found
        → TableFits (piece_count t) (length firsts) (1 + length texts) (length table) (length room) → ⊥
    pub unchanged : after ≡ table
    pub room_cleared : cleared ≡ replicate (length room) 0

  -- either, by the answer
  pub data Tabulates : Option Made → Type 0 where
    table_made : {made : Made} → TableMade made.states made.entries → Tabulates (Some made)
    does_not_fit : CannotFit → Tabulates None
