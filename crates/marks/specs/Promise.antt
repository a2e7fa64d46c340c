-- What start and step promise, row by row of the table of refusals: the numbers given back, and every word that was
-- lent.
use Rattle.std.specs.Prelude.{ℕ, ◌*◌, ◌≤◌, ◌<◌, ◌≡◌, true, ◌↔◌, List, length}
use Rattle.language.specs.Tree.{Tree}
use Rattle.language.specs.Automaton.{States, accepting, Started, Stepped}
use Rattle.tree.specs.RefusalNumbers.{list_not_good, too_few_words, words_not_marks, class_buffer_too_short}
use Rattle.tree.specs.Leaf.{Leaf, meaning}
use Rattle.tree.specs.Layout.{class_record_size}
use Rattle.tree.specs.Records.{Good, piece_count, class_count}
use Rattle.tables.specs.Words.{SetOf}
use Rattle.tree.specs.Pieces.{cut_up}
use Rattle.stepping.specs.Hold.{Hold, MarksOf}
use Rattle.marks.specs.Answer.{MarksNumbers, refusing_marks, marking}
use Rattle.closing.specs.BitsOfWords.Zero.{AllZero}

-- the class buffer has a record for each class leaf of t
abbrev pub Classed : (classes : List ℕ) → Tree Leaf → Type 0
Classed classes t = class_record_size * class_count t ≤ length classes

-- a refusal gives back its number, and leaves every word as it was
pub record RefusedUnchanged (number : ℕ) (why : Type 0) (before after : List ℕ) (n : MarksNumbers) : Type 0 where
  pub because : why
  pub refuses : n ≡ refusing_marks number
  pub unchanged : after ≡ before

-- the marks X of the list's tree are made; the accepting state is among them or not, and nothing is left exactly when
-- the word of each piece is 0
pub record MarksMade (list classes : List ℕ) (X : Tree Leaf → States) (before after : List ℕ) (n : MarksNumbers)
    : Type 0 where
  pub t : Tree Leaf
  pub good : Good list t
  pub classed : Classed classes t
  pub enough : piece_count t ≤ length before
  pub hold : Hold t (X t) before after
  pub marks : n ≡ marking n.accepting n.nothing
  pub answer : (n.accepting ≡ true) ↔ X t accepting
  pub left : (n.nothing ≡ true) ↔ AllZero (piece_count t) after

-- the list is not good
abbrev pub IsNotGood : List ℕ → Type 0
IsNotGood list = (t : Tree Leaf) → Good list t → ⊥

-- the list is good, and the class buffer has no record for some class leaf
abbrev pub HasTooFewClasses : (list classes : List ℕ) → Type 0
HasTooFewClasses list classes = (t : Tree Leaf) × Good list t × (length classes < class_record_size * class_count t)

-- the list is good, there are class records enough, and fewer words are lent than there are pieces
abbrev pub TooFew : (list classes words : List ℕ) → Type 0
TooFew list classes words = (t : Tree Leaf) × Good list t × Classed classes t × (length words < piece_count t)

-- the list is good, there are class records and words enough, and the words are no marks of it
abbrev pub AreNotMarks : (list classes words : List ℕ) → Type 0
AreNotMarks list classes words =
    (t : Tree Leaf) × Good list t × Classed classes t × (piece_count t ≤ length words) × (MarksOf t words → ⊥)

-- what start gives back, and the words afterwards: they hold the closing of the root's start
pub data Starts (list classes before after : List ℕ) (n : MarksNumbers) : Type 0 where
  start_not_good : RefusedUnchanged list_not_good (IsNotGood list) before after n → Starts list classes before after n
  start_too_few_classes : RefusedUnchanged class_buffer_too_short (HasTooFewClasses list classes) before after n
      → Starts list classes before after n
  start_too_few : RefusedUnchanged too_few_words (TooFew list classes before) before after n
      → Starts list classes before after n
  started : MarksMade list classes (λ t. Started (meaning classes) t) before after n
      → Starts list classes before after n

-- from marks, the states that a path from a marked state reading the byte and then any number of empty transitions
-- leads to
pub record MovesOn (list classes : List ℕ) (byte : ℕ) (before after : List ℕ) (n : MarksNumbers) : Type 0 where
  pub made : MarksMade list classes (λ t. Stepped (meaning classes) t byte (SetOf (cut_up t) before)) before after n
  pub from_marks : MarksOf made.t before

-- what step gives back, and the words afterwards
pub data Steps (list classes : List ℕ) (byte : ℕ) (before after : List ℕ) (n : MarksNumbers) : Type 0 where
  step_not_good : RefusedUnchanged list_not_good (IsNotGood list) before after n
      → Steps list classes byte before after n
  step_too_few_classes : RefusedUnchanged class_buffer_too_short (HasTooFewClasses list classes) before after n
      → Steps list classes byte before after n
  step_too_few : RefusedUnchanged too_few_words (TooFew list classes before) before after n
      → Steps list classes byte before after n
  step_not_marks : RefusedUnchanged words_not_marks (AreNotMarks list classes before) before after n
      → Steps list classes byte before after n
  stepped : MovesOn list classes byte before after n → Steps list classes byte before after n
