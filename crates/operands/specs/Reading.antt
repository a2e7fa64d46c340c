-- What the readers of an operand, of the signs after it, of a catenation and of a union promise: the tree read, in all
-- surroundings, with the labels of what it stands for written while there is room; or the refusal.
use Rattle.std.specs.Prelude.{ℕ, ◌<◌, ◌≤◌, ◌≡◌, Bool, List, [], ◌∷◌, length, Result, Ok, Err}
use Rattle.language.specs.SignedTree.{SignedTree}
use Rattle.language.specs.PlacedTree.{PlacedTree}
use Rattle.language.specs.PlacedStandsFor.{placed_stands_for}
use Rattle.tree.specs.Limits.{most_groups, longest_expression, slot_count}
use Rattle.tree.specs.Leaf.{Leaf}
use Rattle.repeats.specs.Noted.{note}
use Rattle.repeats.specs.Labelled.{Labelled, Appended}
use Rattle.operands.specs.Bytes.{Syntax}
use Rattle.operands.specs.LeavesPlaced.{signs_at, SignsPlaced}
use Rattle.operands.specs.Grammar.{Level, starred}
use Rattle.operands.specs.Stopping.{Stops}
use Rattle.operands.specs.Surroundings.{Leads, Fails}
use Rattle.tree.specs.Refusing.{refusal_number}
use Rattle.tree.specs.declared.refusal.Refused.{Refused}

-- where a reader begins
pub record Begins (bytes : List ℕ) (at depth : ℕ) : Type 0 where
  pub within : at ≤ length bytes
  pub shallow : depth ≤ most_groups
  pub short : length bytes ≤ longest_expression

-- the tree that the labels or the places are of
abbrev pub whole_tree : SignedTree Leaf → PlacedTree Leaf
whole_tree s = placed_stands_for Leaf.empty_text s

-- a tree was read from `at` up to `next`, and the labels of what it stands for come after the `count` earlier ones; or
-- its places after earlier places
pub record ReadUpTo (syntax : Syntax) (places : Bool) (level : Level) (bytes : List ℕ) (depth at count : ℕ)
    (earlier : List ℕ)
    (next total : ℕ)
    (later : List ℕ) : Type 0 where
  pub read : SignedTree Leaf
  pub leads : Leads syntax level bytes depth at (signs_at bytes read) next
  pub placed : SignsPlaced bytes read
  pub labelled : Labelled places (whole_tree read) count earlier total later
  pub further : at < next
  pub within : next ≤ length bytes
  pub grown : count ≤ total
  pub few : total ≤ slot_count

-- the same, and nothing more of this level follows
pub record Whole (syntax : Syntax) (places : Bool) (level : Level) (bytes : List ℕ) (depth at count : ℕ)
    (earlier : List ℕ)
    (next total : ℕ)
    (later : List ℕ) : Type 0 where
  pub went : ReadUpTo syntax places level bytes depth at count earlier next total later
  pub stops : Stops syntax level bytes next

-- what a reader of this level answers
abbrev pub PartAnswer : Syntax → (places : Bool) → Level → List ℕ → (at depth count : ℕ) → (earlier : List ℕ)
    → (total : ℕ) → (later : List ℕ) → Result ℕ Refused → Type 0
PartAnswer syntax places level bytes at depth count earlier total later (Ok next) =
    Whole syntax places level bytes depth at count earlier next total later
PartAnswer syntax places level bytes at depth count earlier total later (Err fault) =
    Fails syntax level bytes depth at (refusal_number fault.refusal) fault.place

-- one character was read, whatever is open
pub record Character (syntax : Syntax) (places : Bool) (bytes : List ℕ) (at count : ℕ) (earlier : List ℕ)
    (next total : ℕ)
    (later : List ℕ) : Type 0 where
  pub went : (depth : ℕ) → ReadUpTo syntax places starred bytes depth at count earlier next total later

-- no character stands there, whatever is open
pub record Faulty (syntax : Syntax) (bytes : List ℕ) (at number place : ℕ) : Type 0 where
  pub fails : (depth : ℕ) → Fails syntax starred bytes depth at number place

-- what the reader of one character answers
abbrev pub CharacterAnswer : Syntax → (places : Bool) → List ℕ → (at count : ℕ) → (earlier : List ℕ) → (total : ℕ)
    → (later : List ℕ) → Result ℕ Refused → Type 0
CharacterAnswer syntax places bytes at count earlier total later (Ok next) =
    Character syntax places bytes at count earlier next total later
CharacterAnswer syntax places bytes at count earlier total later (Err fault) =
    Faulty syntax bytes at (refusal_number fault.refusal) fault.place

-- what was read up to `place`, with labels from `first` on, can be read on up to `next`
pub record Carries (syntax : Syntax) (places : Bool) (level : Level) (bytes : List ℕ) (depth first place count : ℕ)
    (earlier : List ℕ) (next total : ℕ)
    (later : List ℕ) : Type 0 where
  pub on : (at : ℕ) (start : List ℕ) → ReadUpTo syntax places level bytes depth at first start place count earlier
      → ReadUpTo syntax places level bytes depth at first start next total later

-- where the reader of the signs after an operand begins: the operand's labels are those from `first` on
pub record SignsBegin (bytes : List ℕ) (place first count : ℕ) : Type 0 where
  pub within : place ≤ length bytes
  pub short : length bytes ≤ longest_expression
  pub begun : first ≤ count

-- where an operand was read up to `place`, with labels from `first` on, there comes this refusal
pub record Breaks (syntax : Syntax) (places : Bool) (bytes : List ℕ) (first place count : ℕ) (earlier : List ℕ)
    (number fault : ℕ) : Type 0 where
  pub fails : (depth at : ℕ) (start : List ℕ)
      → ReadUpTo syntax places starred bytes depth at first start place count earlier
      → Fails syntax starred bytes depth at number fault

-- one sign at a place: none stands there, and nothing changes; or it makes an operand of what was read
pub data OneSign (syntax : Syntax) (places : Bool) (bytes : List ℕ) (first place count : ℕ) (earlier : List ℕ)
    (next total : ℕ)
    (later : List ℕ) : Type 0 where
  no_sign : next ≡ place → total ≡ count → later ≡ earlier → Stops syntax starred bytes place
      → OneSign syntax places bytes first place count earlier next total later
  one_sign : place < next → next ≤ length bytes → count ≤ total → total ≤ slot_count
      → ((depth : ℕ) → Carries syntax places starred bytes depth first place count earlier next total later)
      → OneSign syntax places bytes first place count earlier next total later

-- what the reader of one sign answers
abbrev pub OneSignAnswer : Syntax → (places : Bool) → List ℕ → (first place count : ℕ) → (earlier : List ℕ)
    → (total : ℕ) → (later : List ℕ) → Result ℕ Refused → Type 0
OneSignAnswer syntax places bytes first place count earlier total later (Ok next) =
    OneSign syntax places bytes first place count earlier next total later
OneSignAnswer syntax places bytes first place count earlier total later (Err fault) =
    Breaks syntax places bytes first place count earlier (refusal_number fault.refusal) fault.place

-- what was read up to `place` is read on over all the signs there
pub record SignsRead (syntax : Syntax) (places : Bool) (bytes : List ℕ) (first place count : ℕ) (earlier : List ℕ)
    (next total : ℕ)
    (later : List ℕ) : Type 0 where
  pub carries : (depth : ℕ) → Carries syntax places starred bytes depth first place count earlier next total later
  pub stops : Stops syntax starred bytes next

-- what the reader of all the signs after an operand answers
abbrev pub SignsAnswer : Syntax → (places : Bool) → List ℕ → (first place count : ℕ) → (earlier : List ℕ)
    → (total : ℕ) → (later : List ℕ) → Result ℕ Refused → Type 0
SignsAnswer syntax places bytes first place count earlier total later (Ok next) =
    SignsRead syntax places bytes first place count earlier next total later
SignsAnswer syntax places bytes first place count earlier total later (Err fault) =
    Breaks syntax places bytes first place count earlier (refusal_number fault.refusal) fault.place

-- what noting the leaf at a place answers
abbrev pub LeafAnswer : (places : Bool) → (label at next count : ℕ) → (earlier : List ℕ) → (total : ℕ)
    → (later : List ℕ) → (answer : ℕ) → Type 0
LeafAnswer places label at next count earlier total later answer =
    (answer ≡ next) × Appended earlier count (note places label at ∷ []) total later
