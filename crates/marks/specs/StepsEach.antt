-- What a step for each byte, one after the other, gives back: what the last of the single calls does.
use Rattle.std.specs.Prelude.{ℕ, List, [], ◌∷◌, ◌++◌}
use Rattle.tree.specs.RefusalNumbers.{list_not_good, too_few_words, words_not_marks, class_buffer_too_short}
use Rattle.tree.specs.Pieces.{cut_up}
use Rattle.tables.specs.Words.{SetOf}
use Rattle.stepping.specs.Hold.{MarksOf}
use Rattle.marks.specs.Answer.{MarksNumbers}
use Rattle.marks.specs.Promise.{
  RefusedUnchanged,
  MarksMade,
  IsNotGood,
  HasTooFewClasses,
  TooFew,
  AreNotMarks,
  Steps,
}

-- the words are marks, and hold the set that they hold
pub record StandsStill (list classes words : List ℕ) (n : MarksNumbers) : Type 0 where
  pub made : MarksMade list classes (λ t. SetOf (cut_up t) words) words words n
  pub from_marks : MarksOf made.t words

-- with no byte to step along: the refusals of a step, and else what is told of the marks as they are
pub data Stays (list classes words : List ℕ) (n : MarksNumbers) : Type 0 where
  stay_not_good : RefusedUnchanged list_not_good (IsNotGood list) words words n → Stays list classes words n
  stay_too_few_classes : RefusedUnchanged class_buffer_too_short (HasTooFewClasses list classes) words words n
      → Stays list classes words n
  stay_too_few : RefusedUnchanged too_few_words (TooFew list classes words) words words n → Stays list classes words n
  stay_not_marks : RefusedUnchanged words_not_marks (AreNotMarks list classes words) words words n
      → Stays list classes words n
  stayed : StandsStill list classes words n → Stays list classes words n

-- from the words `before`, a step for each byte of w, each from the words that the one before it left: the last one
-- gave back n and left the words `after`
pub data StepsEach (list classes before : List ℕ) : (w after : List ℕ) → MarksNumbers → Type 0 where
  no_byte : {n : MarksNumbers} → Stays list classes before n → StepsEach list classes before [] before n
  one_more : {w after later : List ℕ} {n m : MarksNumbers} {byte : ℕ} → StepsEach list classes before w after n
      → Steps list classes byte after later m → StepsEach list classes before (w ++ (byte ∷ [])) later m
