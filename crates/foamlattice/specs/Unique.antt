-- Two results that both fit a call's promise are equal: the answers behind them are. What `foam_read` and
-- `foam_read2` promise are equations.
use Rattle.std.specs.Prelude.{ℕ, ◌≡◌, List}
use Rattle.std.proofs.Common.{ap, sym, ◌∙◌}
use Rattle.marks.proofs.Unique.{starts_unique, steps_unique}
use Rattle.marks.proofs.StepsEachLaws.{steps_each_unique}
use Rattle.finder.specs.Unique.{match_unique, search_unique_numbers}
use Rattle.picker.specs.Unique.{picks_unique}
use Rattle.foamlattice.specs.Promise.{
  found_packed,
  marks_packed,
  pick_packed,
  Matching,
  Searching,
  Starting,
  Stepping,
  SteppingEach,
  Picking,
}

-- numbers that are packed from equal answers are equal
same_number : {A : Type 0} (packed-from : A → ℕ) (r s : ℕ) (a b : A) → r ≡ packed-from a → s ≡ packed-from b → a ≡ b
    → r ≡ s
same_number packed-from r s a b e f same = e ∙ ap packed-from same ∙ sym f

pub matching_unique : (list classes text : List ℕ) (r s : ℕ) → Matching list classes text r
    → Matching list classes text s → r ≡ s
matching_unique list classes text r s m n =
    same_number found_packed r s _ _ m.as_number n.as_number
    (match_unique list classes text m.right n.right)

pub searching_unique : (list classes text : List ℕ) (r s : ℕ) → Searching list classes text r
    → Searching list classes text s → r ≡ s
searching_unique list classes text r s m n =
    same_number found_packed r s _ _ m.as_number n.as_number
    (search_unique_numbers list classes text m.right n.right)

pub starting_unique : (list classes before after after' : List ℕ) (r s : ℕ) → Starting list classes before after r
    → Starting list classes before after' s → (r ≡ s) × (after ≡ after')
starting_unique list classes before after after' r s m n =
    let same = starts_unique m.right n.right in
    (same_number marks_packed r s _ _ m.as_number n.as_number same.0, same.1)

pub stepping_unique : (list classes : List ℕ) (byte : ℕ) (before after after' : List ℕ) (r s : ℕ)
    → Stepping list classes byte before after r → Stepping list classes byte before after' s → (r ≡ s)
    × (after ≡ after')
stepping_unique list classes byte before after after' r s m n =
    let same = steps_unique m.right n.right in
    (same_number marks_packed r s _ _ m.as_number n.as_number same.0, same.1)

pub stepping_each_unique : (list classes before bytes after after' : List ℕ) (r s : ℕ)
    → SteppingEach list classes before bytes after r → SteppingEach list classes before bytes after' s → (r ≡ s)
    × (after ≡ after')
stepping_each_unique list classes before bytes after after' r s m n =
    let same = steps_each_unique m.right n.right in
    (same_number marks_packed r s _ _ m.as_number n.as_number same.0, same.1)

pub picking_unique : (input before after after' : List ℕ) (r s : ℕ) → Picking input before after r
    → Picking input before after' s → (r ≡ s) × (after ≡ after')
picking_unique input before after after' r s m n =
    let same = picks_unique input before after after' m.answer n.answer m.right n.right in
    (same_number pick_packed r s _ _ m.as_number n.as_number same.0, same.1)
