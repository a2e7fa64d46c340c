-- What the functions promise that write labels behind those in the scratch, or places behind places: the count stops
-- one past the most that there is room for, and up to there every one is written.
use Rattle.std.specs.Prelude.{ℕ, zero, suc, ◌+◌, ◌≤◌, ◌≡◌, Bool, true, false, List, [], ◌∷◌, ◌++◌, length, take, drop}
use Rattle.language.specs.Tree.{nodes}
use Rattle.language.specs.PlacedTree.{PlacedTree, unplaced}
use Rattle.language.specs.SignedSize.{capped}
use Rattle.tree.specs.Leaf.{Leaf}
use Rattle.tree.specs.Limits.{most_labels, slot_count}
use Rattle.tree.specs.Layout.{label_of, catenation_kind, union_kind, empty_kind}
use Rattle.repeats.specs.Noted.{note, noted}

-- the scratch has room for the most labels, and so many were counted so far
pub record LabelRoom (scratch : List ℕ) (count : ℕ) : Type 0 where
  pub long : most_labels ≤ length scratch
  pub few : count ≤ slot_count

-- behind the `count` earlier labels these new ones were counted, and stand there where all have room
pub record Appended (earlier : List ℕ) (count : ℕ) (new : List ℕ) (total : ℕ) (later : List ℕ) : Type 0 where
  pub counted : total ≡ capped most_labels (count + length new)
  pub written : total ≤ most_labels → take total later ≡ take count earlier ++ new

-- behind the `begin` earlier labels those of the tree x were counted, and stand there where all have room; or its
-- places behind earlier places
pub record Labelled (places : Bool) (x : PlacedTree Leaf) (begin : ℕ) (earlier : List ℕ) (total : ℕ)
    (later : List ℕ) : Type 0 where
  pub counted : total ≡ capped most_labels (begin + nodes (unplaced x))
  pub written : total ≤ most_labels → take total later ≡ take begin earlier ++ noted places x

-- what is noted of whatever tree stands last becomes what is noted of another tree
pub record Relabels (places : Bool) (count : ℕ) (before : List ℕ) (turned : PlacedTree Leaf → PlacedTree Leaf)
    (total : ℕ) (after : List ℕ) : Type 0 where
  pub on : (x : PlacedTree Leaf) (begin : ℕ) (earlier : List ℕ) → Labelled places x begin earlier count before
      → Labelled places (turned x) begin earlier total after
  pub grown : count ≤ total
  pub few : total ≤ slot_count

-- the same where it begins at `begin`
pub record RelabelsFrom (places : Bool) (begin count : ℕ) (before : List ℕ)
    (turned : PlacedTree Leaf → PlacedTree Leaf) (total : ℕ) (after : List ℕ) : Type 0 where
  pub on : (x : PlacedTree Leaf) (earlier : List ℕ) → Labelled places x begin earlier count before
      → Labelled places (turned x) begin earlier total after
  pub grown : count ≤ total
  pub few : total ≤ slot_count

-- a run of `size` labels that begins at `begin`, among the first `count`
pub record CopyRoom (scratch : List ℕ) (begin size count : ℕ) : Type 0 where
  pub room : LabelRoom scratch count
  pub inside : begin + size ≤ count

-- the run that stands there, if all labels so far have room
pub record RunAt (scratch : List ℕ) (begin size count : ℕ) (run : List ℕ) : Type 0 where
  pub here : count ≤ most_labels → drop begin (take (begin + size) scratch) ≡ run

-- whatever run stands there, this many labels, made of it, were appended
pub record Copies (earlier : List ℕ) (begin size count : ℕ) (made : List ℕ → List ℕ) (total : ℕ) (later : List ℕ)
    : Type 0 where
  pub on : (run : List ℕ) → RunAt earlier begin size count run → Appended earlier count (made run) total later

-- what is noted of the nodes that a `?` at a place adds: the empty text, and the union
abbrev pub question_notes : (places : Bool) (place : ℕ) → List ℕ
question_notes places place = note places (label_of empty_kind 0) place ∷ note places (label_of union_kind 0) place ∷ []

-- what is noted behind a copy that follows: of its `?`, if it has one, and of the catenation
abbrev pub copy_end : (places : Bool) (place : ℕ) (with-question : Bool) → List ℕ
copy_end places place false = note places (label_of catenation_kind 0) place ∷ []
copy_end places place true = question_notes places place ++ (note places (label_of catenation_kind 0) place ∷ [])

-- n copies, one after the other
abbrev pub copied : (n : ℕ) → List ℕ → List ℕ
copied zero copy = []
copied (suc n) copy = copied n copy ++ copy
