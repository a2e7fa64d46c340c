-- Two lists that differ only in their places, all of them at most 1,023: the same trees are theirs, and start and step
-- answer alike on both, with every word.
use Rattle.std.specs.Prelude.{ℕ, ◌≡◌, List}
use Rattle.std.proofs.Common.{sym}
use Rattle.language.specs.Tree.{Tree}
use Rattle.language.specs.Automaton.{States}
use Rattle.tree.specs.Leaf.{Leaf}
use Rattle.tree.specs.Records.{Good}
use Rattle.tree.specs.PlacesLaws.{same_but_places}
use Rattle.marks.specs.Answer.{MarksNumbers}
use Rattle.marks.specs.Promise.{RefusedUnchanged, MarksMade, IsNotGood, HasTooFewClasses, Starts, start_not_good, start_too_few_classes, start_too_few, started, Steps, step_not_good, step_too_few_classes, step_too_few, step_not_marks, stepped}
use Rattle.marks.proofs.Unique.{starts_unique, steps_unique}
use Rattle.marks.specs.ButPlaces.{SameButPlaces}

-- a refusal for another reason
refused_by : {number : ℕ} {why why' : Type 0} {before after : List ℕ} {n : MarksNumbers} → (why → why')
    → RefusedUnchanged number why before after n → RefusedUnchanged number why' before after n
refused_by reason r =
    record { because = reason r.because; refuses = r.refuses; unchanged = r.unchanged }

module _ {one other : List ℕ} (alike : SameButPlaces one other) where
  -- a tree of one is a tree of the other
  pub good_there : {t : Tree Leaf} → Good one t → Good other t
  good_there good = same_but_places alike.same alike.other_low good

  good_back : {t : Tree Leaf} → Good other t → Good one t
  good_back good = same_but_places (sym alike.same) alike.one_low good

  -- where one is not good, the other is not
  pub not_good_there : IsNotGood one → IsNotGood other
  not_good_there none t good = none t (good_back good)

  -- where one has class leaves without a record, the other has
  pub few_classes_there : (classes : List ℕ) → HasTooFewClasses one classes → HasTooFewClasses other classes
  few_classes_there classes (t, good, few) = (t, good_there good, few)

  -- marks made by one are made by the other
  abbrev made_there : {classes before after : List ℕ} {X : Tree Leaf → States} {n : MarksNumbers}
      → MarksMade one classes X before after n → MarksMade other classes X before after n
  made_there made = record {
    t = made.t;
    good = good_there made.good;
    classed = made.classed;
    enough = made.enough;
    hold = made.hold;
    marks = made.marks;
    answer = made.answer;
    left = made.left;
  }

  -- what start answers on one it answers on the other
  starts_there : {classes before after : List ℕ} {n : MarksNumbers} → Starts one classes before after n
      → Starts other classes before after n
  starts_there (start_not_good r) = start_not_good (refused_by not_good_there r)
  starts_there {classes} (start_too_few_classes r) =
      start_too_few_classes (refused_by (few_classes_there classes) r)
  starts_there (start_too_few r) =
      start_too_few (refused_by (λ (t, good, classed, few). (t, good_there good, classed, few)) r)
  starts_there (started made) = started (made_there made)

  -- and what step answers
  steps_there : {classes before after : List ℕ} {byte : ℕ} {n : MarksNumbers} → Steps one classes byte before after n
      → Steps other classes byte before after n
  steps_there (step_not_good r) = step_not_good (refused_by not_good_there r)
  steps_there {classes} (step_too_few_classes r) = step_too_few_classes (refused_by (few_classes_there classes) r)
  steps_there (step_too_few r) =
      step_too_few (refused_by (λ (t, good, classed, few). (t, good_there good, classed, few)) r)
  steps_there (step_not_marks r) =
      step_not_marks (refused_by (λ (t, good, classed, enough, none). (t, good_there good, classed, enough, none)) r)
  steps_there (stepped moves) =
      stepped (record { made = made_there moves.made; from_marks = moves.from_marks })

  -- so two results of start are the same, with every word
  pub starts_alike : {classes before after after' : List ℕ} {n n' : MarksNumbers} → Starts one classes before after n
      → Starts other classes before after' n' → (n ≡ n') × (after ≡ after')
  starts_alike a b = starts_unique (starts_there a) b

  -- and two results of step
  pub steps_alike : {classes before after after' : List ℕ} {byte : ℕ} {n n' : MarksNumbers}
      → Steps one classes byte before after n → Steps other classes byte before after' n'
      → (n ≡ n') × (after ≡ after')
  steps_alike a b = steps_unique (steps_there a) b
