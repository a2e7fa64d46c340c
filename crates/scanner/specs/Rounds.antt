-- The rounds of the readers of a catenation and of a union: what each begins with, whether a part is due at its place,
-- and the node that joins the part to those before it.
use Rattle.std.specs.Prelude.{ℕ, ◌+◌, ◌<◌, ◌≡◌, Bool, true, false, List, [], ◌∷◌, length, get_or}
use Rattle.repeats.specs.Noted.{note}
use Rattle.repeats.specs.Labelled.{Appended}
use Rattle.operands.specs.Bytes.{Syntax}
use Rattle.operands.specs.Grammar.{Level, starred, joined, united}
use Rattle.operands.specs.Stopping.{Stops}
use Rattle.operands.specs.Reading.{ReadUpTo}

-- a round begins: no part was read yet; or a tree was read up to `place`, and its last part ends there
pub data Round (syntax : Syntax) (places : Bool) (level part : Level) (bytes : List ℕ) (depth at count : ℕ)
    (earlier : List ℕ) (place n : ℕ)
    (middle : List ℕ) : Type 0 where
  no_part : place ≡ at → n ≡ count → middle ≡ earlier
      → Round syntax places level part bytes depth at count earlier place n middle
  some_parts : ReadUpTo syntax places level bytes depth at count earlier place n middle
      → Stops syntax part bytes place → Round syntax places level part bytes depth at count earlier place n middle

-- whether an operand is due at a place, in a catenation that begins at `at`: the first one always, another where the
-- catenation does not stop
pub data OperandDue (bytes : List ℕ) (at place : ℕ) (due : Bool) : Type 0 where
  first_operand : due ≡ true → place ≡ at → OperandDue bytes at place due
  next_operand : due ≡ true → place < length bytes → (get_or bytes place 0 ≡ 124 → ⊥) → (get_or bytes place 0 ≡ 41 → ⊥)
      → OperandDue bytes at place due
  no_operand : due ≡ false → (place ≡ at → ⊥) → ((syntax : Syntax) → Stops syntax joined bytes place)
      → OperandDue bytes at place due

-- whether a branch is due at a place, in a union that begins at `at`: the first one always, another at a `|`
pub data BranchDue (bytes : List ℕ) (at place : ℕ) (due : Bool) : Type 0 where
  first_branch : due ≡ true → place ≡ at → BranchDue bytes at place due
  next_branch : due ≡ true → place < length bytes → get_or bytes place 0 ≡ 124 → BranchDue bytes at place due
  no_branch : due ≡ false → (place ≡ at → ⊥)
      → ((syntax : Syntax) → Stops syntax joined bytes place → Stops syntax united bytes place)
      → BranchDue bytes at place due

-- where the branch begins that is due at a place: the first one there, another after its `|`
pub data BranchBegins (at place begin : ℕ) : Type 0 where
  begins_first : place ≡ at → begin ≡ at → BranchBegins at place begin
  begins_after : (place ≡ at → ⊥) → begin ≡ place + 1 → BranchBegins at place begin

-- the node that joins the part from `place` on to what was read from `at` on is noted; there is none for the first part
pub data Joins (places : Bool) (label at place count : ℕ) (earlier : List ℕ) (total : ℕ) (later : List ℕ) : Type 0 where
  joins_none : place ≡ at → total ≡ count → later ≡ earlier → Joins places label at place count earlier total later
  joins_one : (place ≡ at → ⊥) → Appended earlier count (note places label place ∷ []) total later
      → Joins places label at place count earlier total later

-- whether a byte that may be a sign stands after an operand; where none does the operand stops
pub data SignFollows (bytes : List ℕ) (place : ℕ) (follows : Bool) : Type 0 where
  may_follow : follows ≡ true → place < length bytes → SignFollows bytes place follows
  none_follows : follows ≡ false → ((syntax : Syntax) → Stops syntax starred bytes place)
      → SignFollows bytes place follows
