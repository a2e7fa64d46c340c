-- Match and search refuse exactly when the table says so: 10, then 15, then 11, else not at all. A text of 65,536 bytes
-- is taken, one of 65,537 is not. And what they say where they refuse nothing.
use Rattle.std.specs.Prelude.{ℕ, ◌+◌, ◌≤◌, ◌≡◌, refl, Bool, true, false, ◌↔◌, List, length}
use Rattle.std.proofs.Common.{arith, sym, subst}
use Rattle.std.proofs.lemmas.Bool.{false≢true}
use Rattle.language.specs.Tree.{Tree}
use Rattle.tree.specs.RefusalNumbers.{list_not_good, text_too_long, class_buffer_too_short}
use Rattle.tree.specs.Leaf.{Leaf, Matches}
use Rattle.tree.specs.Limits.{longest_text}
use Rattle.tree.specs.Records.{Good}
use Rattle.lists.specs.Readback.{good_unique}
use Rattle.marks.specs.Promise.{IsNotGood, Classed, HasTooFewClasses}
use Rattle.matching.specs.Found.{Found, NothingFound}
use Rattle.finder.specs.Answer.{answering_match, finding}
use Rattle.finder.specs.declared.numbers.FoundNumbers.{FoundNumbers}
use Rattle.finder.specs.Promise.{
  OfGood,
  IsTooLong,
  Refuses,
  not_good,
  too_few_classes,
  too_long,
  MatchAnswers,
  match_refused,
  match_answered,
  SearchAnswers,
  search_refused,
  search_found,
  search_nothing,
}

-- the list is good, there are class records enough, and the text has at most 65,536 bytes
pub record Answerable (list classes text : List ℕ) : Type 0 where
  pub t : Tree Leaf
  pub good : Good list t
  pub classed : Classed classes t
  pub short : length text ≤ longest_text

module _ (list classes text : List ℕ) where
  -- why a refusal's number, or 0, is given
  pub data Reason : ℕ → Type 0 where
    fine : Answerable list classes text → Reason 0
    refused : {number : ℕ} → Refuses list classes text number → Reason number

  -- so of what match answers, and of what search answers
  pub match_reason : {n : FoundNumbers} → MatchAnswers list classes text n → Reason n.refusal
  match_reason (match_refused r) = refused r
  match_reason (match_answered a) = fine (record { t = a.t; good = a.good; classed = a.classed; short = a.short })

  pub search_reason : {n : FoundNumbers} → SearchAnswers list classes text n → Reason n.refusal
  search_reason (search_refused r) = refused r
  search_reason (search_found a) = fine (record { t = a.t; good = a.good; classed = a.classed; short = a.short })
  search_reason (search_nothing a) = fine (record { t = a.t; good = a.good; classed = a.classed; short = a.short })

  -- class records are too few or enough, not both
  not_both : HasTooFewClasses list classes → (t : Tree Leaf) → Good list t → Classed classes t → ⊥
  not_both (s, is_good, few) t good classed =
      let same : Classed classes s = subst (λ (u : Tree Leaf). Classed classes u) (good_unique list t s good is_good)
      classed in
      omega arith

  -- 10 is given exactly when the list is not good
  pub not_good_exactly : {number : ℕ} → Reason number → (number ≡ list_not_good) ↔ IsNotGood list
  not_good_exactly (fine a) = (λ e. absurd (omega arith), λ why. absurd (why a.t a.good))
  not_good_exactly (refused (not_good why)) = (λ e. why, λ _. refl)
  not_good_exactly (refused (too_few_classes a)) =
      (λ e. absurd (omega arith), λ why. absurd (why a.0 a.1))
  not_good_exactly (refused (too_long a)) = (λ e. absurd (omega arith), λ why. absurd (why a.t a.good))

  -- 15 exactly when it is good and some class leaf has no record
  pub too_few_classes_exactly : {number : ℕ} → Reason number
      → (number ≡ class_buffer_too_short) ↔ HasTooFewClasses list classes
  too_few_classes_exactly (fine a) =
      (λ e. absurd (omega arith), λ why. absurd (not_both why a.t a.good a.classed))
  too_few_classes_exactly (refused (not_good why)) =
      (λ e. absurd (omega arith), λ b. absurd (why b.0 b.1))
  too_few_classes_exactly (refused (too_few_classes a)) = (λ e. a, λ _. refl)
  too_few_classes_exactly (refused (too_long a)) =
      (λ e. absurd (omega arith), λ why. absurd (not_both why a.t a.good a.classed))

  -- 11 exactly when it is good, there are class records enough, and the text is over 65,536 bytes
  pub too_long_exactly : {number : ℕ} → Reason number → (number ≡ text_too_long) ↔ IsTooLong list classes text
  too_long_exactly (fine a) = (λ e. absurd (omega arith), λ b. absurd (omega (arith, a.short, b.long)))
  too_long_exactly (refused (not_good why)) = (λ e. absurd (omega arith), λ b. absurd (why b.t b.good))
  too_long_exactly (refused (too_few_classes a)) =
      (λ e. absurd (omega arith), λ b. absurd (not_both a b.t b.good b.classed))
  too_long_exactly (refused (too_long a)) = (λ e. a, λ _. refl)

  -- and none exactly when it is good, there are class records enough, and the text is not over 65,536 bytes
  pub taken_exactly : {number : ℕ} → Reason number → (number ≡ 0) ↔ Answerable list classes text
  taken_exactly (fine a) = (λ e. a, λ _. refl)
  taken_exactly (refused (not_good why)) = (λ e. absurd (omega arith), λ b. absurd (why b.t b.good))
  taken_exactly (refused (too_few_classes a)) =
      (λ e. absurd (omega arith), λ b. absurd (not_both a b.t b.good b.classed))
  taken_exactly (refused (too_long a)) = (λ e. absurd (omega arith), λ b. absurd (omega (arith, a.long, b.short)))

  -- two reasons give one number
  pub reason_unique : {m n : ℕ} → Reason m → Reason n → m ≡ n
  reason_unique (fine a) r = rw ((taken_exactly r).1 a)
  reason_unique (refused (not_good why)) r = rw ((not_good_exactly r).1 why)
  reason_unique (refused (too_few_classes a)) r = rw ((too_few_classes_exactly r).1 a)
  reason_unique (refused (too_long a)) r = rw ((too_long_exactly r).1 a)

  module _ (n : FoundNumbers) (answers : MatchAnswers list classes text n) where
    -- match refuses with 10 exactly when the list is not good
    pub match_not_good : (n.refusal ≡ list_not_good) ↔ IsNotGood list
    match_not_good = not_good_exactly (match_reason answers)

    -- with 15 exactly when it is good and some class leaf has no record
    pub match_too_few_classes : (n.refusal ≡ class_buffer_too_short) ↔ HasTooFewClasses list classes
    match_too_few_classes = too_few_classes_exactly (match_reason answers)

    -- with 11 exactly when it is good, there are class records enough, and the text is over 65,536 bytes
    pub match_too_long : (n.refusal ≡ text_too_long) ↔ IsTooLong list classes text
    match_too_long = too_long_exactly (match_reason answers)

    -- and answers yes or no exactly when it is good, there are class records enough, and the text is not
    pub match_taken : (n.refusal ≡ 0) ↔ Answerable list classes text
    match_taken = taken_exactly (match_reason answers)

  module _ (n : FoundNumbers) (answers : SearchAnswers list classes text n) where
    -- search refuses with 10 exactly when the list is not good
    pub search_not_good : (n.refusal ≡ list_not_good) ↔ IsNotGood list
    search_not_good = not_good_exactly (search_reason answers)

    -- with 15 exactly when it is good and some class leaf has no record
    pub search_too_few_classes : (n.refusal ≡ class_buffer_too_short) ↔ HasTooFewClasses list classes
    search_too_few_classes = too_few_classes_exactly (search_reason answers)

    -- with 11 exactly when it is good, there are class records enough, and the text is over 65,536 bytes
    pub search_too_long : (n.refusal ≡ text_too_long) ↔ IsTooLong list classes text
    search_too_long = too_long_exactly (search_reason answers)

    -- and answers a part or nothing exactly when it is good, there are class records enough, and the text is not
    pub search_taken : (n.refusal ≡ 0) ↔ Answerable list classes text
    search_taken = taken_exactly (search_reason answers)

  module _ (t : Tree Leaf) (good : Good list t) (classed : Classed classes t) {number : ℕ}
      (reason : Reason number) where
    -- by a good list with class records enough, a text of 65,536 bytes is taken
    pub longest_taken : length text ≡ longest_text → number ≡ 0
    longest_taken e = (taken_exactly reason).1 (record { t = t; good = good; classed = classed; short = omega arith })

    -- and one of 65,537 is refused
    pub longer_refused : length text ≡ longest_text + 1 → number ≡ text_too_long
    longer_refused e = (too_long_exactly reason).1 (record { t = t; good = good; classed = classed; long = omega arith })

  -- a refusal has a number
  pub numbered : {number : ℕ} → Refuses list classes text number → number ≡ 0 → ⊥
  numbered (not_good why) e = omega arith
  numbered (too_few_classes a) e = omega arith
  numbered (too_long a) e = omega arith

  -- where match refuses nothing, it says whether the text is in the language
  match_says : {n : FoundNumbers} → MatchAnswers list classes text n → n.refusal ≡ 0
      → OfGood list classes text (λ t. (n.matched ≡ true) ↔ Matches classes t text)
  match_says (match_refused r) e = absurd (numbered r e)
  match_says (match_answered a) e = a

  pub match_exactly : (matched : Bool) → MatchAnswers list classes text (answering_match matched)
      ↔ OfGood list classes text (λ t. (matched ≡ true) ↔ Matches classes t text)
  match_exactly matched = (λ a. match_says a refl, match_answered)

  -- where search refuses nothing, it says which part was found
  found_says : {n : FoundNumbers} → SearchAnswers list classes text n → n.refusal ≡ 0 → n.matched ≡ true
      → OfGood list classes text (λ t. Found (Matches classes t) text n.start n.end)
  found_says (search_refused r) e f = absurd (numbered r e)
  found_says (search_found a) e f = a
  found_says (search_nothing a) e f = absurd (false≢true f)

  pub search_found_exactly : (start end : ℕ) → SearchAnswers list classes text (finding start end)
      ↔ OfGood list classes text (λ t. Found (Matches classes t) text start end)
  search_found_exactly start end = (λ a. found_says a refl refl, search_found)

  -- or that there is none
  nothing_says : {n : FoundNumbers} → SearchAnswers list classes text n → n.refusal ≡ 0 → n.matched ≡ false
      → OfGood list classes text (λ t. NothingFound (Matches classes t) text)
  nothing_says (search_refused r) e f = absurd (numbered r e)
  nothing_says (search_found a) e f = absurd (false≢true (sym f))
  nothing_says (search_nothing a) e f = a

  pub search_nothing_exactly : SearchAnswers list classes text (answering_match false)
      ↔ OfGood list classes text (λ t. NothingFound (Matches classes t) text)
  search_nothing_exactly = (λ a. nothing_says a refl refl, search_nothing)
