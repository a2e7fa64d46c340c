-- A chain of calls on a good list, with class records and words enough, is never refused, and after the bytes of w its
-- flag says whether w is in the language. A chain's calls before the last are a chain themselves, so this is said of
-- each of them.
use Rattle.std.specs.Prelude.{ℕ, ◌≤◌, ◌≡◌, true, ◌↔◌, List, [], ◌∷◌, ◌++◌, length}
use Rattle.std.proofs.Common.{arith, ◌∙◌, subst}
use Rattle.language.specs.Tree.{Tree}
use Rattle.language.specs.Automaton.{States, accepting, Started, Stepped}
use Rattle.tree.specs.Leaf.{Leaf, meaning}
use Rattle.tree.specs.Records.{Good, piece_count}
use Rattle.lists.specs.Readback.{good_unique}
use Rattle.tree.specs.Pieces.{cut_up}
use Rattle.tables.specs.Words.{SetOf}
use Rattle.marks.specs.Answer.{MarksNumbers}
use Rattle.closing.specs.BitsOfWords.Zero.{AllZero}
use Rattle.stepping.specs.Hold.{Hold, MarksOf}
use Rattle.marks.specs.Promise.{
  MarksMade,
  Classed,
  HasTooFewClasses,
  TooFew,
  AreNotMarks,
  start_not_good,
  start_too_few_classes,
  start_too_few,
  started,
  step_not_good,
  step_too_few_classes,
  step_too_few,
  step_not_marks,
  stepped,
}
use Rattle.stepping.specs.Inner.{Begun, Advanced, some_started, holding_marks, answered_first, answered_next}
use Rattle.marks.specs.Chain.{Chain, begun, further, Follows}

module _ {list : List ℕ} {t : Tree Leaf} (good : Good list t) where
  -- marks that are made are those of the list's tree
  made_hold : {classes : List ℕ} {X : Tree Leaf → States} {words after : List ℕ} {n : MarksNumbers}
      (made : MarksMade list classes X words after n)
      → Hold t (X t) words after × ((n.accepting ≡ true) ↔ X t accepting)
      × ((n.nothing ≡ true) ↔ AllZero (piece_count t) after)
  made_hold {classes} {X} {words} {after} {n} made =
      subst (λ (s : Tree Leaf). Hold s (X s) words after × ((n.accepting ≡ true) ↔ X s accepting)
      × ((n.nothing ≡ true) ↔ AllZero (piece_count s) after))
      (good_unique list made.t t made.good good) (made.hold, made.answer, made.left)

  -- class records enough are never too few
  not_few_classes : (classes : List ℕ) → Classed classes t → HasTooFewClasses list classes → ⊥
  not_few_classes classes classed (s, is_good, few) =
      let same : Classed classes s =
      subst (λ (u : Tree Leaf). Classed classes u) (good_unique list t s good is_good) classed in
      omega arith

  -- words enough are never too few
  not_few : (classes words : List ℕ) → piece_count t ≤ length words → TooFew list classes words → ⊥
  not_few classes words enough (s, is_good, _, few) =
      let same : piece_count s ≤ length words =
      subst (λ (u : Tree Leaf). piece_count u ≤ length words) (good_unique list t s good is_good) enough in
      omega arith

  -- marks are never refused
  not_refused : (classes : List ℕ) {words : List ℕ} → MarksOf t words → AreNotMarks list classes words → ⊥
  not_refused classes {words} marks (s, is_good, _, enough, bad) =
      bad (subst (λ (u : Tree Leaf). MarksOf u words) (good_unique list t s good is_good) marks)

  -- after a start
  start_follows : {classes before after : List ℕ} {n : MarksNumbers}
      → MarksMade list classes (λ s. Started (meaning classes) s)
      before after n
      → Follows classes t [] before after n
  start_follows {classes} {before} {after} {n} made =
      let (hold, answer, left) = made_hold made in
      let begins : Begun classes t before after n.accepting =
      record { hold = hold; answer = answer; some = some_started classes t after hold.marks } in
      let first = answered_first begins in
      record {
        marks = made.marks;
        answer = first.answer;
        left = left;
        holding = first.holding;
        others = hold.others;
        same_length = hold.same_length;
      }

  -- after a step that follows
  step_follows : {classes w before after later : List ℕ} {n m : MarksNumbers} {byte : ℕ}
      → Follows classes t w before after n
      → MarksMade list classes (λ s. Stepped (meaning classes) s byte (SetOf (cut_up s) after)) after later m
      → Follows classes t (w ++ (byte ∷ [])) before later m
  step_follows {classes} {after = after} {later = later} {m = m} {byte = byte} follows made =
      let (hold, answer, left) = made_hold made in
      let went : Advanced classes t byte after later m.accepting m.nothing =
      record { hold = hold; answer = answer; left = left } in
      let next = answered_next follows.holding went in
      record {
        marks = made.marks;
        answer = next.answer;
        left = left;
        holding = next.holding;
        others = hold.others ∙ follows.others;
        same_length = hold.same_length ∙ follows.same_length;
      }

  -- a chain on class records and words enough is never refused, and its flag says whether its text is in the language
  pub chain_follows : {classes before w after : List ℕ} {n : MarksNumbers} → Classed classes t
      → piece_count t ≤ length before
      → Chain list classes before w after n → Follows classes t w before after n
  chain_follows classed enough (begun (start_not_good a)) = absurd (a.because t good)
  chain_follows {classes} classed enough (begun (start_too_few_classes a)) = absurd
      (not_few_classes classes classed a.because)
  chain_follows {classes} {before} classed enough (begun (start_too_few a)) =
      absurd (not_few classes before enough a.because)
  chain_follows classed enough (begun (started made)) = start_follows made
  chain_follows classed enough (further chain (step_not_good a)) = absurd (a.because t good)
  chain_follows {classes} classed enough (further chain (step_too_few_classes a)) =
      absurd (not_few_classes classes classed a.because)
  chain_follows {classes} classed enough (further {after = after} chain (step_too_few a)) =
      absurd (not_few classes after (omega (arith, (chain_follows classed enough chain).same_length)) a.because)
  chain_follows {classes} classed enough (further chain (step_not_marks a)) =
      absurd (not_refused classes (holding_marks (chain_follows classed enough chain).holding) a.because)
  chain_follows classed enough (further chain (stepped on)) =
      step_follows (chain_follows classed enough chain) on.made
