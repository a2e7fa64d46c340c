-- What match and search promise of the numbers that they give back, by the table of refusals.
use Rattle.std.specs.Prelude.{ℕ, ◌≤◌, ◌<◌, ◌≡◌, Bool, true, false, ◌↔◌, List, length}
use Rattle.language.specs.Tree.{Tree}
use Rattle.tree.specs.RefusalNumbers.{list_not_good, text_too_long, class_buffer_too_short}
use Rattle.tree.specs.Leaf.{Leaf, Matches}
use Rattle.tree.specs.Limits.{longest_text}
use Rattle.tree.specs.Records.{Good}
use Rattle.marks.specs.Promise.{IsNotGood, Classed, HasTooFewClasses}
use Rattle.matching.specs.Found.{Found, NothingFound}
use Rattle.finder.specs.Answer.{refusing_match, answering_match, finding}
use Rattle.finder.specs.declared.numbers.FoundNumbers.{FoundNumbers}

-- the list is good, there are class records enough, the text is no longer than 65,536 bytes, and P holds of the list's
-- tree
pub record OfGood (list classes text : List ℕ) (P : Tree Leaf → Type 0) : Type 0 where
  pub t : Tree Leaf
  pub good : Good list t
  pub classed : Classed classes t
  pub short : length text ≤ longest_text
  pub holds : P t

-- the list is good, there are class records enough, and the text is longer than 65,536 bytes
pub record IsTooLong (list classes text : List ℕ) : Type 0 where
  pub t : Tree Leaf
  pub good : Good list t
  pub classed : Classed classes t
  pub long : longest_text < length text

-- the refusals of match and search, in their order
pub data Refuses (list classes text : List ℕ) : ℕ → Type 0 where
  not_good : IsNotGood list → Refuses list classes text list_not_good
  too_few_classes : HasTooFewClasses list classes → Refuses list classes text class_buffer_too_short
  too_long : IsTooLong list classes text → Refuses list classes text text_too_long

-- match: a refusal; or yes exactly when the text is in the language of the list's tree
pub data MatchAnswers (list classes text : List ℕ) : FoundNumbers → Type 0 where
  match_refused : {number : ℕ} → Refuses list classes text number
      → MatchAnswers list classes text (refusing_match number)
  match_answered : {matched : Bool} → OfGood list classes text (λ t. (matched ≡ true) ↔ Matches classes t text)
      → MatchAnswers list classes text (answering_match matched)

-- search: a refusal; or the part that starts earliest and then ends furthest, of those in the language; or nothing,
-- where no part is in it
pub data SearchAnswers (list classes text : List ℕ) : FoundNumbers → Type 0 where
  search_refused : {number : ℕ} → Refuses list classes text number
      → SearchAnswers list classes text (refusing_match number)
  search_found : {start end : ℕ} → OfGood list classes text (λ t. Found (Matches classes t) text start end)
      → SearchAnswers list classes text (finding start end)
  search_nothing : OfGood list classes text (λ t. NothingFound (Matches classes t) text)
      → SearchAnswers list classes text (answering_match false)
