-- What match and search promise leaves no choice: the numbers given back are determined, and with them the answer.
use Rattle.std.specs.Prelude.{ℕ, ◌≡◌, refl, Bool, true, false, cond, ◌↔◌, List, Option, None, Some, Result, Ok, Err, eqb}
use Rattle.std.proofs.Common.{arith, sym, ap, ◌∙◌, subst}
use Rattle.std.proofs.Math.Logic.Iff
use Rattle.language.specs.Tree.{Tree}
use Rattle.tree.specs.RefusalBack.{refusal_of, refusal_back, some_number}
use Rattle.tree.specs.declared.refusal.Refusal.{Refusal}
use Rattle.tree.specs.Leaf.{Leaf, Matches}
use Rattle.lists.specs.Readback.{good_unique}
use Rattle.matching.specs.Found.{SearchOutcome, at, nothing}
use Rattle.matching.specs.declared.part.Span.{Span}
use Rattle.finder.specs.SearchUnique.{search_unique}
use Rattle.finder.specs.Answer.{refusing_match, answering_match, finding, match_numbers, search_numbers}
use Rattle.finder.specs.Promise.{
  OfGood,
  Refuses,
  not_good,
  too_few_classes,
  too_long,
  MatchAnswers,
  match_refused,
  match_answered,
  SearchAnswers,
  search_refused,
  search_found,
  search_nothing,
}
use Rattle.finder.specs.Refusals.{Answerable, reason_unique, too_few_classes_exactly, fine, refused}
use Rattle.finder.specs.declared.numbers.FoundNumbers.{FoundNumbers}

-- the answer of a match, from its numbers
abbrev matched_by : FoundNumbers → Result Bool Refusal
matched_by n = cond (eqb n.refusal 0) (Ok n.matched) (Err (refusal_of n.refusal))

matched_back : (r : Result Bool Refusal) → matched_by (match_numbers r) ≡ r
matched_back (Ok matched) = refl
matched_back (Err refusal) = rw (some_number refusal, refusal_back refusal)

-- the answer of a search, from its numbers
abbrev searched_by : FoundNumbers → Result (Option Span) Refusal
searched_by n =
    cond (eqb n.refusal 0) (Ok (cond n.matched (Some (record { start = n.start; end = n.end })) None))
    (Err (refusal_of n.refusal))

searched_back : (r : Result (Option Span) Refusal) → searched_by (search_numbers r) ≡ r
searched_back (Ok (Some found)) = refl
searched_back (Ok None) = refl
searched_back (Err refusal) = rw (some_number refusal, refusal_back refusal)

-- two tests of one thing give the same
pub same_test : (a b : Bool) → (a ≡ true) ↔ (b ≡ true) → a ≡ b
same_test true b h = sym (h.0 refl)
same_test false true h = h.1 refl
same_test false false h = refl

-- the numbers of a search that refuses nothing
abbrev found_numbers : SearchOutcome → FoundNumbers
found_numbers (at start end) = finding start end
found_numbers nothing = answering_match false

module _ (list classes text : List ℕ) where
  -- what is answered is not refused
  answerable : {P : Tree Leaf → Type 0} → OfGood list classes text P → Answerable list classes text
  answerable a = record { t = a.t; good = a.good; classed = a.classed; short = a.short }

  -- what is refused is not answered
  not_both : {number : ℕ} {P : Tree Leaf → Type 0} → Refuses list classes text number → OfGood list classes text P → ⊥
  not_both (not_good why) a = why a.t a.good
  not_both (too_few_classes b) a =
      absurd (omega (arith, (too_few_classes_exactly list classes text (fine (answerable a))).1 b))
  not_both (too_long b) a = omega (arith, a.short, b.long)

  -- what holds of the list's tree holds of one tree
  of_one : {P Q : Tree Leaf → Type 0} → OfGood list classes text P → OfGood list classes text Q → (t : Tree Leaf)
      × P t × Q t
  of_one {P} {Q} a b = (b.t, subst P (good_unique list a.t b.t a.good b.good) a.holds, b.holds)

  -- two refusals have one number
  same_refusal : {m n : ℕ} → Refuses list classes text m → Refuses list classes text n → m ≡ n
  same_refusal a b = reason_unique list classes text (refused a) (refused b)

  -- two results of match that fit its promise give the same numbers: a text is in a language or not
  pub match_unique : {n n' : FoundNumbers} → MatchAnswers list classes text n → MatchAnswers list classes text n'
      → n ≡ n'
  match_unique (match_refused a) (match_refused b) = ap refusing_match (same_refusal a b)
  match_unique (match_refused a) (match_answered b) = absurd (not_both a b)
  match_unique (match_answered a) (match_refused b) = absurd (not_both b a)
  match_unique (match_answered {matched = m} a) (match_answered {matched = n} b) =
      let (t, p, q) = of_one a b in
      ap answering_match (same_test m n (Iff.trans p (Iff.symm q)))

  -- and are the same answer
  pub match_answer_unique : (r s : Result Bool Refusal) → MatchAnswers list classes text (match_numbers r)
      → MatchAnswers list classes text (match_numbers s) → r ≡ s
  match_answer_unique r s a b = sym (matched_back r) ∙ ap matched_by (match_unique a b) ∙ matched_back s

  -- two parts found by one list, or nothing, are the same
  same_found : {a b : SearchOutcome} {P Q : Tree Leaf → Type 0} → ((t : Tree Leaf) → P t → Q t → a ≡ b)
      → OfGood list classes text P
      → OfGood list classes text Q → found_numbers a ≡ found_numbers b
  same_found same a b = let (t, p, q) = of_one a b in ap found_numbers (same t p q)

  -- two results of search that fit its promise give the same numbers
  pub search_unique_numbers : {n n' : FoundNumbers} → SearchAnswers list classes text n
      → SearchAnswers list classes text n' → n ≡ n'
  search_unique_numbers (search_refused a) (search_refused b) = ap refusing_match (same_refusal a b)
  search_unique_numbers (search_refused a) (search_found b) = absurd (not_both a b)
  search_unique_numbers (search_refused a) (search_nothing b) = absurd (not_both a b)
  search_unique_numbers (search_found a) (search_refused b) = absurd (not_both b a)
  search_unique_numbers (search_nothing a) (search_refused b) = absurd (not_both b a)
  search_unique_numbers (search_found {start = s} {end = e} a) (search_found {start = i} {end = j} b) =
      same_found (λ t. search_unique (Matches classes t) text (at s e) (at i j)) a b
  search_unique_numbers (search_found {start = s} {end = e} a) (search_nothing b) =
      same_found (λ t. search_unique (Matches classes t) text (at s e) nothing) a b
  search_unique_numbers (search_nothing a) (search_found {start = i} {end = j} b) =
      same_found (λ t. search_unique (Matches classes t) text nothing (at i j)) a b
  search_unique_numbers (search_nothing a) (search_nothing b) = refl

  -- and are the same answer
  pub search_answer_unique : (r s : Result (Option Span) Refusal) → SearchAnswers list classes text (search_numbers r)
      → SearchAnswers list classes text (search_numbers s) → r ≡ s
  search_answer_unique r s a b = sym (searched_back r) ∙ ap searched_by (search_unique_numbers a b) ∙ searched_back s
