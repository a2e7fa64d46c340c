-- What start and step promise leaves no choice: the numbers given back and every word afterwards are determined, and
-- each refusal is given exactly when the table says so, in the order 10, 15, 12, 13.
use Rattle.std.specs.Prelude.{ℕ, ◌+◌, ◌*◌, ◌≤◌, ◌<◌, ◌≡◌, refl, Bool, true, false, cond, Result, Ok, Err, ◌↔◌, List, ◌++◌, length, take, eqb}
use Rattle.std.proofs.Common.{arith, sym, ap, ◌∙◌, subst, take-append-drop}
use Rattle.std.proofs.Math.Logic.Iff
use Rattle.language.specs.Tree.{Tree}
use Rattle.language.specs.Automaton.{accepting, States, Started, Stepped}
use Rattle.tree.specs.RefusalNumbers.{list_not_good, too_few_words, words_not_marks, class_buffer_too_short}
use Rattle.tree.specs.Leaf.{Leaf, meaning}
use Rattle.tree.specs.Layout.{class_record_size}
use Rattle.tree.specs.Records.{Good, piece_count, class_count}
use Rattle.lists.specs.Readback.{good_unique}
use Rattle.tables.specs.Words.{run, SetOf}
use Rattle.tree.specs.Pieces.{cut_up}
use Rattle.stepping.specs.Texts.{all_words}
use Rattle.closing.specs.BitsOfWords.Zero.{AllZero}
use Rattle.closing.specs.BitsOfWords.KnownByMarks.{same_words}
use Rattle.marks.specs.Answer.{MarksNumbers, refusing_marks, marking, marks_numbers}
use Rattle.stepping.specs.Hold.{Hold, MarksOf}
use Rattle.marks.specs.Promise.{
  RefusedUnchanged,
  MarksMade,
  IsNotGood,
  Classed,
  HasTooFewClasses,
  TooFew,
  AreNotMarks,
  Starts,
  start_not_good,
  start_too_few_classes,
  start_too_few,
  started,
  Steps,
  step_not_good,
  step_too_few_classes,
  step_too_few,
  step_not_marks,
  stepped,
}
use Rattle.marks.specs.StepsEach.{
  Stays,
  stay_not_good,
  stay_too_few_classes,
  stay_too_few,
  stay_not_marks,
  stayed,
}
use Rattle.stepping.specs.declared.inner.Told.{Told}
use Rattle.tree.specs.declared.refusal.Refusal.{Refusal}
use Rattle.tree.specs.RefusalBack.{refusal_of, refusal_back, some_number}

-- words enough that hold the same set, and are as before past the pieces, are the same
hold_unique : (t : Tree Leaf) (X : States) (before after after' : List ℕ) → piece_count t ≤ length before
    → Hold t X before after → Hold t X before after' → after ≡ after'
hold_unique t X before after after' enough one other =
    sym (take-append-drop (piece_count t) after)
    ∙ joined (rw (all_words t) at fronts) (one.others ∙ sym other.others)
    ∙ take-append-drop (piece_count t) after'
  where
    joined : {u u' v v' : List ℕ} → u ≡ u' → v ≡ v' → u ++ v ≡ u' ++ v'
    joined e f = cc

    fronts : take (1 + run (cut_up t)) after ≡ take (1 + run (cut_up t)) after'
    fronts =
        same_words (cut_up t) after after' one.clean other.clean
        (λ q has. Iff.trans (one.marks q has) (Iff.symm (other.marks q has)))
        (omega (arith, all_words t, one.same_length)) (omega (arith, all_words t, other.same_length))

-- two answers that say the same are the same
same_answer : (a b : Bool) → (a ≡ true) ↔ (b ≡ true) → a ≡ b
same_answer true b h = sym (h.0 refl)
same_answer false true h = h.1 refl
same_answer false false h = refl

-- the same flags give the same numbers
both_flags : {a a' b b' : Bool} → a ≡ a' → b ≡ b' → marking a b ≡ marking a' b'
both_flags e f = cc

-- a refusal has its own number
same_refusal : {k j : ℕ} {why : Type 0} {before after : List ℕ} {n : MarksNumbers}
    → RefusedUnchanged k why before after n
    → n.refusal ≡ j → n ≡ refusing_marks j
same_refusal a e = a.refuses ∙ ap refusing_marks (sym (ap (λ (n : MarksNumbers). n.refusal) a.refuses) ∙ e)

other_number : {k j : ℕ} {why : Type 0} {before after : List ℕ} {n : MarksNumbers}
    → RefusedUnchanged k why before after n
    → n.refusal ≡ j → ¬ (k ≡ j) → ⊥
other_number a e other = other (sym (ap (λ (n : MarksNumbers). n.refusal) a.refuses) ∙ e)

-- marks that are made have none
none_refused : {list classes before after : List ℕ} {X : Tree Leaf → States} {n : MarksNumbers} {k : ℕ}
    → MarksMade list classes X before after n → n.refusal ≡ k → 0 < k → ⊥
none_refused made e some = omega (arith, ap (λ (n : MarksNumbers). n.refusal) made.marks)

module _ (list classes before : List ℕ) where
  -- the list is good, and P holds of its tree
  abbrev OfList : (Tree Leaf → Type 0) → Type 0
  OfList P = (t : Tree Leaf) × Good list t × P t

  -- what holds of the list's tree holds of one tree
  clash : {P Q : Tree Leaf → Type 0} → ((t : Tree Leaf) → P t → Q t → ⊥) → OfList P → OfList Q → ⊥
  clash {P} {Q} apart (s, good, p) (t, good', q) = apart t (subst P (good_unique list s t good good') p) q

  -- what is answered of the list's tree, where `Fine t` is asked of the words lent and X is made of them
  module _ (X : Tree Leaf → States) (Fine : Tree Leaf → Type 0) where
    -- some class leaf has no record
    abbrev Unclassed : Tree Leaf → Type 0
    Unclassed t = length classes < class_record_size * class_count t

    -- fewer words are lent than there are pieces
    abbrev Few : Tree Leaf → Type 0
    Few t = Classed classes t × (length before < piece_count t)

    -- there are words enough, and they are not as asked
    abbrev Bad : Tree Leaf → Type 0
    Bad t = Classed classes t × (piece_count t ≤ length before) × (Fine t → ⊥)

    -- there are words enough, and they are as asked
    abbrev WordsFine : Tree Leaf → Type 0
    WordsFine t = Classed classes t × (piece_count t ≤ length before) × Fine t

    -- what start and step both promise
    data GivesBack (after : List ℕ) (n : MarksNumbers) : Type 0 where
      not_good : RefusedUnchanged list_not_good (IsNotGood list) before after n → GivesBack after n
      too_few_classes : RefusedUnchanged class_buffer_too_short (OfList Unclassed) before after n → GivesBack after n
      too_few : RefusedUnchanged too_few_words (OfList Few) before after n → GivesBack after n
      not_marks : RefusedUnchanged words_not_marks (OfList Bad) before after n → GivesBack after n
      makes : (made : MarksMade list classes X before after n) → Fine made.t → GivesBack after n

    -- the list is good, and the words are taken
    taken : {after : List ℕ} {n : MarksNumbers} (made : MarksMade list classes X before after n) → Fine made.t
        → OfList WordsFine
    taken made fine = (made.t, made.good, (made.classed, made.enough, fine))

    -- the four exclude each other
    unclassed_few : (t : Tree Leaf) → Unclassed t → Few t → ⊥
    unclassed_few t none (classed, few) = omega arith

    unclassed_bad : (t : Tree Leaf) → Unclassed t → Bad t → ⊥
    unclassed_bad t none (classed, enough, bad) = omega arith

    unclassed_taken : (t : Tree Leaf) → Unclassed t → WordsFine t → ⊥
    unclassed_taken t none (classed, enough, fine) = omega arith

    few_taken : (t : Tree Leaf) → Few t → WordsFine t → ⊥
    few_taken t (_, few) (_, enough, fine) = omega arith

    few_bad : (t : Tree Leaf) → Few t → Bad t → ⊥
    few_bad t (_, few) (_, enough, bad) = omega arith

    bad_taken : (t : Tree Leaf) → Bad t → WordsFine t → ⊥
    bad_taken t (_, enough, bad) (_, enough', fine) = bad fine

    module _ {after : List ℕ} {n : MarksNumbers} where
      -- so each row of the table is given exactly when it says: 10
      not_good_exactly : GivesBack after n → (n.refusal ≡ list_not_good) ↔ IsNotGood list
      not_good_exactly (not_good a) = (λ e. a.because, λ why. rw a.refuses)
      not_good_exactly (too_few_classes a) =
          (λ e. absurd (other_number a e (omega arith)), λ why. absurd (why a.because.0 a.because.1))
      not_good_exactly (too_few a) =
          (λ e. absurd (other_number a e (omega arith)), λ why. absurd (why a.because.0 a.because.1))
      not_good_exactly (not_marks a) =
          (λ e. absurd (other_number a e (omega arith)), λ why. absurd (why a.because.0 a.because.1))
      not_good_exactly (makes made fine) =
          (λ e. absurd (none_refused made e (omega arith)), λ why. absurd (why made.t made.good))

      -- 15
      too_few_classes_exactly : GivesBack after n → (n.refusal ≡ class_buffer_too_short) ↔ OfList Unclassed
      too_few_classes_exactly (not_good a) =
          (λ e. absurd (other_number a e (omega arith)), λ why. absurd (a.because why.0 why.1))
      too_few_classes_exactly (too_few_classes a) = (λ e. a.because, λ why. rw a.refuses)
      too_few_classes_exactly (too_few a) =
          (λ e. absurd (other_number a e (omega arith)), λ why. absurd (clash unclassed_few why a.because))
      too_few_classes_exactly (not_marks a) =
          (λ e. absurd (other_number a e (omega arith)), λ why. absurd (clash unclassed_bad why a.because))
      too_few_classes_exactly (makes made fine) =
          (λ e. absurd (none_refused made e (omega arith)), λ why. absurd (clash unclassed_taken why (taken made fine)))

      -- 12
      too_few_exactly : GivesBack after n → (n.refusal ≡ too_few_words) ↔ OfList Few
      too_few_exactly (not_good a) =
          (λ e. absurd (other_number a e (omega arith)), λ why. absurd (a.because why.0 why.1))
      too_few_exactly (too_few_classes a) =
          (λ e. absurd (other_number a e (omega arith)), λ why. absurd (clash unclassed_few a.because why))
      too_few_exactly (too_few a) = (λ e. a.because, λ why. rw a.refuses)
      too_few_exactly (not_marks a) =
          (λ e. absurd (other_number a e (omega arith)), λ why. absurd (clash few_bad why a.because))
      too_few_exactly (makes made fine) =
          (λ e. absurd (none_refused made e (omega arith)), λ why. absurd (clash few_taken why (taken made fine)))

      -- 13
      not_marks_exactly : GivesBack after n → (n.refusal ≡ words_not_marks) ↔ OfList Bad
      not_marks_exactly (not_good a) =
          (λ e. absurd (other_number a e (omega arith)), λ why. absurd (a.because why.0 why.1))
      not_marks_exactly (too_few_classes a) =
          (λ e. absurd (other_number a e (omega arith)), λ why. absurd (clash unclassed_bad a.because why))
      not_marks_exactly (too_few a) =
          (λ e. absurd (other_number a e (omega arith)), λ why. absurd (clash few_bad a.because why))
      not_marks_exactly (not_marks a) = (λ e. a.because, λ why. rw a.refuses)
      not_marks_exactly (makes made fine) =
          (λ e. absurd (none_refused made e (omega arith)), λ why. absurd (clash bad_taken why (taken made fine)))

      -- and none
      taken_exactly : GivesBack after n → (n.refusal ≡ 0) ↔ OfList WordsFine
      taken_exactly (not_good a) =
          (λ e. absurd (other_number a e (omega arith)), λ why. absurd (a.because why.0 why.1))
      taken_exactly (too_few_classes a) =
          (λ e. absurd (other_number a e (omega arith)), λ why. absurd (clash unclassed_taken a.because why))
      taken_exactly (too_few a) =
          (λ e. absurd (other_number a e (omega arith)), λ why. absurd (clash few_taken a.because why))
      taken_exactly (not_marks a) =
          (λ e. absurd (other_number a e (omega arith)), λ why. absurd (clash bad_taken a.because why))
      taken_exactly (makes made fine) = (λ e. taken made fine, λ why. rw made.marks)

      -- a number that is not 0 is that of a refusal, and every word is as it was
      refused_by : (k : ℕ) → GivesBack after n → n.refusal ≡ k → 0 < k → (n ≡ refusing_marks k) × (after ≡ before)
      refused_by k (not_good a) e some = (same_refusal a e, a.unchanged)
      refused_by k (too_few_classes a) e some = (same_refusal a e, a.unchanged)
      refused_by k (too_few a) e some = (same_refusal a e, a.unchanged)
      refused_by k (not_marks a) e some = (same_refusal a e, a.unchanged)
      refused_by k (makes made fine) e some = absurd (none_refused made e some)

      -- where there is none, the marks are made
      made_by : GivesBack after n → n.refusal ≡ 0 → MarksMade list classes X before after n
      made_by (not_good a) e = absurd (other_number a e (omega arith))
      made_by (too_few_classes a) e = absurd (other_number a e (omega arith))
      made_by (too_few a) e = absurd (other_number a e (omega arith))
      made_by (not_marks a) e = absurd (other_number a e (omega arith))
      made_by (makes made fine) e = made

    -- where the marks are made, the list's tree determines the rest
    made_unique : {after after' : List ℕ} {n n' : MarksNumbers} → MarksMade list classes X before after n
        → MarksMade list classes X before after' n'
        → (n ≡ n') × (after ≡ after')
    made_unique {after} {after'} {n} {n'} one other =
        let same : other.t ≡ one.t = good_unique list other.t one.t other.good one.good in
        let says : (n'.accepting ≡ true) ↔ X one.t accepting =
        subst (λ (t : Tree Leaf). (n'.accepting ≡ true) ↔ X t accepting) same other.answer in
        let words : after ≡ after' =
        hold_unique one.t (X one.t) before after after' one.enough one.hold
        (subst (λ (t : Tree Leaf). Hold t (X t) before after') same other.hold) in
        let left : (n'.nothing ≡ true) ↔ AllZero (piece_count one.t) after =
        subst (λ (l : List ℕ). (n'.nothing ≡ true) ↔ AllZero (piece_count one.t) l) (sym words)
        (subst (λ (t : Tree Leaf). (n'.nothing ≡ true) ↔ AllZero (piece_count t) after') same other.left) in (
          one.marks
              ∙ both_flags (same_answer n.accepting n'.accepting (Iff.trans one.answer (Iff.symm says)))
              (same_answer n.nothing n'.nothing (Iff.trans one.left (Iff.symm left)))
              ∙ sym other.marks,
          words,
        )

    -- the reason of one refusal gives the other its number
    both_refused : {after after' : List ℕ} {n n' : MarksNumbers} (k : ℕ) → 0 < k → n ≡ refusing_marks k → after ≡ before
        → GivesBack after' n' → n'.refusal ≡ k → (n ≡ n') × (after ≡ after')
    both_refused k some refuses unchanged b e =
        let other = refused_by k b e some in (refuses ∙ sym other.0, unchanged ∙ sym other.1)

    -- so two results are the same
    answers_unique : {after after' : List ℕ} {n n' : MarksNumbers} → GivesBack after n → GivesBack after' n'
        → (n ≡ n') × (after ≡ after')
    answers_unique (not_good a) b =
        both_refused list_not_good (omega arith) a.refuses a.unchanged b ((not_good_exactly b).1 a.because)
    answers_unique (too_few_classes a) b =
        both_refused class_buffer_too_short (omega arith) a.refuses a.unchanged b
        ((too_few_classes_exactly b).1 a.because)
    answers_unique (too_few a) b =
        both_refused too_few_words (omega arith) a.refuses a.unchanged b ((too_few_exactly b).1 a.because)
    answers_unique (not_marks a) b =
        both_refused words_not_marks (omega arith) a.refuses a.unchanged b ((not_marks_exactly b).1 a.because)
    answers_unique (makes made fine) b = made_unique made (made_by b ((taken_exactly b).1 (taken made fine)))

-- what start promises, in these words: nothing is asked of the words lent
starts_answers : {list classes before after : List ℕ} {n : MarksNumbers} → Starts list classes before after n
    → GivesBack list classes before (λ t. Started (meaning classes) t) (λ t. Unit {0}) after n
starts_answers (start_not_good a) = not_good a
starts_answers (start_too_few_classes a) = too_few_classes a
starts_answers (start_too_few a) =
    let (t, good, classed, few) = a.because in
    too_few (record { because = (t, good, (classed, few)); refuses = a.refuses; unchanged = a.unchanged })
starts_answers (started made) = makes made tt

-- what step promises: the words lent are marks
steps_answers : {list classes : List ℕ} {byte : ℕ} {before after : List ℕ} {n : MarksNumbers}
    → Steps list classes byte before after n
    → GivesBack list classes before (λ t. Stepped (meaning classes) t byte (SetOf (cut_up t) before))
    (λ t. MarksOf t before) after n
steps_answers (step_not_good a) = not_good a
steps_answers (step_too_few_classes a) = too_few_classes a
steps_answers (step_too_few a) =
    let (t, good, classed, few) = a.because in
    too_few (record { because = (t, good, (classed, few)); refuses = a.refuses; unchanged = a.unchanged })
steps_answers (step_not_marks a) =
    let (t, good, classed, enough, bad) = a.because in
    not_marks (record { because = (t, good, (classed, enough, bad)); refuses = a.refuses; unchanged = a.unchanged })
steps_answers (stepped on) = makes on.made on.from_marks

-- what is promised where there is no byte: the words lent are marks
stays_answers : {list classes words : List ℕ} {n : MarksNumbers} → Stays list classes words n
    → GivesBack list classes words (λ t. SetOf (cut_up t) words) (λ t. MarksOf t words) words n
stays_answers (stay_not_good a) = not_good a
stays_answers (stay_too_few_classes a) = too_few_classes a
stays_answers (stay_too_few a) =
    let (t, good, classed, few) = a.because in
    too_few (record { because = (t, good, (classed, few)); refuses = a.refuses; unchanged = a.unchanged })
stays_answers (stay_not_marks a) =
    let (t, good, classed, enough, bad) = a.because in
    not_marks (record { because = (t, good, (classed, enough, bad)); refuses = a.refuses; unchanged = a.unchanged })
stays_answers (stayed on) = makes on.made on.from_marks

-- where there is no byte, two answers that fit are the same
pub stays_unique : {list classes words : List ℕ} {n n' : MarksNumbers} → Stays list classes words n
    → Stays list classes words n' → n ≡ n'
stays_unique {list} {classes} {words} a b =
    (answers_unique list classes words _ _ (stays_answers a) (stays_answers b)).0

module _ {list classes before : List ℕ} where
  -- two results of start that fit its promise are the same, with every word
  pub starts_unique : {after after' : List ℕ} {n n' : MarksNumbers} → Starts list classes before after n
      → Starts list classes before after' n' → (n ≡ n') × (after ≡ after')
  starts_unique a b = answers_unique list classes before _ _ (starts_answers a) (starts_answers b)

  module _ {after : List ℕ} {n : MarksNumbers} (s : Starts list classes before after n) where
    -- start answers 10 exactly when the list is not good
    pub starts_not_good : (n.refusal ≡ list_not_good) ↔ IsNotGood list
    starts_not_good = not_good_exactly list classes before _ _ (starts_answers s)

    -- 15 exactly when it is good and some class leaf has no record
    pub starts_too_few_classes : (n.refusal ≡ class_buffer_too_short) ↔ HasTooFewClasses list classes
    starts_too_few_classes = too_few_classes_exactly list classes before _ _ (starts_answers s)

    -- 12 exactly when it is good, there are class records enough, and fewer words are lent than there are pieces
    pub starts_too_few : (n.refusal ≡ too_few_words) ↔ TooFew list classes before
    starts_too_few =
        Iff.trans (too_few_exactly list classes before _ _ (starts_answers s))
        (λ (t, good, few). (t, good, few.0, few.1), λ (t, good, classed, few). (t, good, (classed, few)))

    -- and no refusal exactly when it is good and there are class records and words enough
    pub starts_taken : (n.refusal ≡ 0)
        ↔ ((t : Tree Leaf) × Good list t × Classed classes t × (piece_count t ≤ length before))
    starts_taken =
        Iff.trans (taken_exactly list classes before _ _ (starts_answers s)) (
          λ (t, good, taken). (t, good, taken.0, taken.1),
          λ (t, good, classed, enough). (t, good, (classed, enough, tt)),
        )

module _ {list classes : List ℕ} {byte : ℕ} {before : List ℕ} where
  -- two results of step that fit its promise are the same, with every word
  pub steps_unique : {after after' : List ℕ} {n n' : MarksNumbers} → Steps list classes byte before after n
      → Steps list classes byte before after' n' → (n ≡ n') × (after ≡ after')
  steps_unique a b = answers_unique list classes before _ _ (steps_answers a) (steps_answers b)

  module _ {after : List ℕ} {n : MarksNumbers} (s : Steps list classes byte before after n) where
    -- step answers 10 exactly when the list is not good
    pub steps_not_good : (n.refusal ≡ list_not_good) ↔ IsNotGood list
    steps_not_good = not_good_exactly list classes before _ _ (steps_answers s)

    -- 15 exactly when it is good and some class leaf has no record
    pub steps_too_few_classes : (n.refusal ≡ class_buffer_too_short) ↔ HasTooFewClasses list classes
    steps_too_few_classes = too_few_classes_exactly list classes before _ _ (steps_answers s)

    -- 12 exactly when it is good, there are class records enough, and fewer words are lent than there are pieces
    pub steps_too_few : (n.refusal ≡ too_few_words) ↔ TooFew list classes before
    steps_too_few =
        Iff.trans (too_few_exactly list classes before _ _ (steps_answers s))
        (λ (t, good, few). (t, good, few.0, few.1), λ (t, good, classed, few). (t, good, (classed, few)))

    -- 13 exactly when it is good, there are class records and words enough, and the words are no marks of it
    pub steps_not_marks : (n.refusal ≡ words_not_marks) ↔ AreNotMarks list classes before
    steps_not_marks =
        Iff.trans (not_marks_exactly list classes before _ _ (steps_answers s)) (
          λ (t, good, bad). (t, good, bad.0, bad.1, bad.2),
          λ (t, good, classed, enough, bad). (t, good, (classed, enough, bad)),
        )

    -- and no refusal exactly when it is good, there are class records and words enough, and the words are marks of it
    pub steps_taken : (n.refusal ≡ 0)
        ↔ ((t : Tree Leaf) × Good list t × Classed classes t × (piece_count t ≤ length before) × MarksOf t before)
    steps_taken =
        Iff.trans (taken_exactly list classes before _ _ (steps_answers s)) (
          λ (t, good, taken). (t, good, taken.0, taken.1, taken.2),
          λ (t, good, classed, enough, marks). (t, good, (classed, enough, marks)),
        )

-- the answer that has these numbers
abbrev answer_by : MarksNumbers → Result Told Refusal
answer_by n =
    cond (eqb n.refusal 0) (Ok (record { accepting = n.accepting; nothing = n.nothing })) (Err (refusal_of n.refusal))

answer_back : (r : Result Told Refusal) → answer_by (marks_numbers r) ≡ r
answer_back (Ok told) = refl
answer_back (Err refusal) = rw (some_number refusal, refusal_back refusal)

-- an answer is known from its numbers
pub numbers_injective : (r s : Result Told Refusal) → marks_numbers r ≡ marks_numbers s → r ≡ s
numbers_injective r s e = sym (answer_back r) ∙ ap answer_by e ∙ answer_back s
