-- A step for each byte leaves no choice; no step after one that is not refused can be refused, and a refusal changes
-- nothing; after a start, such steps are those of a chain.
use Rattle.std.specs.Prelude.{ℕ, ◌<◌, ◌≡◌, refl, List, [], ◌∷◌, ◌++◌, length}
use Rattle.std.proofs.Common.{arith, sym, ap, subst, ◌∙◌, append_assoc, append-nil, length-append}
use Rattle.std.proofs.Math.Decide.{dec_lt}
use Rattle.language.specs.Tree.{Tree}
use Rattle.tree.specs.Leaf.{Leaf}
use Rattle.marks.specs.Answer.{MarksNumbers}
use Rattle.marks.specs.Promise.{
  Steps,
  step_not_good,
  step_too_few_classes,
  step_too_few,
  step_not_marks,
  stepped,
}
use Rattle.marks.specs.Chain.{Chain, further}
use Rattle.marks.specs.NothingLeft.{numbered}
use Rattle.marks.proofs.Unique.{stays_unique, steps_unique, steps_taken}
use Rattle.marks.specs.StepsEach.{
  stay_not_good,
  stay_too_few_classes,
  stay_too_few,
  stay_not_marks,
  stayed,
  StepsEach,
  no_byte,
  one_more,
}
use Rattle.marks.specs.Along.{Steppable}
use Rattle.marks.proofs.AlongLaws.{hold_marks, last_same}

-- a step that is refused changes nothing
step_kept : {list classes words after : List ℕ} {n : MarksNumbers} {byte : ℕ} → Steps list classes byte words after n
    → 0 < n.refusal → after ≡ words
step_kept (step_not_good a) some = a.unchanged
step_kept (step_too_few_classes a) some = a.unchanged
step_kept (step_too_few a) some = a.unchanged
step_kept (step_not_marks a) some = a.unchanged
step_kept (stepped on) some = absurd (omega (arith, ap (λ (m : MarksNumbers). m.refusal) on.made.marks))

module _ {list classes before : List ℕ} where
  -- two results, along texts that are the same
  unique : {w w' after after' : List ℕ} {n n' : MarksNumbers} → StepsEach list classes before w after n
      → StepsEach list classes before w' after' n' → w ≡ w' → (n ≡ n') × (after ≡ after')
  unique (no_byte a) (no_byte b) e = (stays_unique a b, refl)
  unique (no_byte a) (one_more {w} {byte = b} each step) e =
      absurd (omega (arith, ap length e, length-append w (b ∷ [])))
  unique (one_more {w} {byte = b} each step) (no_byte a) e =
      absurd (omega (arith, ap length e, length-append w (b ∷ [])))
  unique (one_more {w = u} {after = middle} {byte = b} each step)
      (one_more {w = u'} {later = later'} {m = m'} {byte = b'} each' step') e =
      let (texts, bytes) = last_same u u' b b' e in
      let (_, words) = unique each each' texts in
      steps_unique step
      (subst (λ (byte : ℕ). Steps list classes byte middle later' m') (sym bytes)
      (subst (λ (l : List ℕ). Steps list classes b' l later' m') (sym words) step'))

  -- two results of steps along the same bytes are the same, with every word
  pub steps_each_unique : {w after after' : List ℕ} {n n' : MarksNumbers} → StepsEach list classes before w after n
      → StepsEach list classes before w after' n' → (n ≡ n') × (after ≡ after')
  steps_each_unique a b = unique a b refl

  -- where the last step was not refused, one more can be made
  able_after : {w after : List ℕ} {n : MarksNumbers} → StepsEach list classes before w after n → n.refusal ≡ 0
      → (t : Tree Leaf) × Steppable list classes t after
  able_after (no_byte (stay_not_good a)) none = numbered a none
  able_after (no_byte (stay_too_few_classes a)) none = numbered a none
  able_after (no_byte (stay_too_few a)) none = numbered a none
  able_after (no_byte (stay_not_marks a)) none = numbered a none
  able_after (no_byte (stayed on)) none = (
    on.made.t,
    record {
      good = on.made.good;
      classed = on.made.classed;
      enough = on.made.enough;
      marks = on.from_marks;
    },
  )
  able_after (one_more each (step_not_good a)) none = numbered a none
  able_after (one_more each (step_too_few_classes a)) none = numbered a none
  able_after (one_more each (step_too_few a)) none = numbered a none
  able_after (one_more each (step_not_marks a)) none = numbered a none
  able_after (one_more each (stepped on)) none = (
    on.made.t,
    record {
      good = on.made.good;
      classed = on.made.classed;
      enough = omega (arith, on.made.enough, on.made.hold.same_length);
      marks = hold_marks on.made.hold;
    },
  )

  -- no step after one that is not refused can be refused
  pub later_taken : {w after later : List ℕ} {n m : MarksNumbers} {byte : ℕ} → StepsEach list classes before w after n
      → n.refusal ≡ 0 → Steps list classes byte after later m → m.refusal ≡ 0
  later_taken each none step =
      let (t, able) = able_after each none in
      (steps_taken step).1 (t, able.good, able.classed, able.enough, able.marks)

  -- so steps that are refused change nothing
  pub refused_kept : {w after : List ℕ} {n : MarksNumbers} → StepsEach list classes before w after n → 0 < n.refusal
      → after ≡ before
  refused_kept (no_byte stays) some = refl
  refused_kept (one_more {n = n} each step) some =
      elim (dec_lt 0 n.refusal) [
        | yes h ↦ step_kept step some ∙ refused_kept each h
        | no h ↦ absurd (omega (arith, later_taken each (omega arith) step))
      ]

-- steps after a chain go on with it
module _ {list classes before w after : List ℕ} {n : MarksNumbers} (chain : Chain list classes before w after n) where
  joined : {v later : List ℕ} {m : MarksNumbers} → StepsEach list classes after v later m
      → (k : MarksNumbers) × Chain list classes before (w ++ v) later k
  joined (no_byte stays) =
      (n, subst (λ (u : List ℕ). Chain list classes before u after n) (sym (append-nil w)) chain)
  joined {later = later} {m = m} (one_more {w = u} {byte = b} each step) = (
    m,
    subst (λ (v : List ℕ). Chain list classes before v later m) (append_assoc w u (b ∷ []))
        (further (joined each).1 step),
  )

  pub chain_joined : {v later : List ℕ} {m : MarksNumbers} → StepsEach list classes after v later m → 0 < length v
      → Chain list classes before (w ++ v) later m
  chain_joined (no_byte stays) some = absurd (omega arith)
  chain_joined {later = later} {m = m} (one_more {w = u} {byte = b} each step) some =
      subst (λ (v : List ℕ). Chain list classes before v later m) (append_assoc w u (b ∷ []))
      (further (joined each).1 step)
