-- What a caller may rely on: how many states a piece has, and what the flag of a start or a step says.
use Rattle.std.specs.Prelude.{ℕ, suc, ◌-◌, ◌≤◌, ◌≡◌, true, ◌↔◌, List, get_or}
use Rattle.std.proofs.Common.{arith, ap, subst}
use Rattle.std.proofs.Math.Logic.Iff
use Rattle.language.specs.Tree.{Tree}
use Rattle.language.specs.Automaton.{States, accepting}
use Rattle.tree.specs.Limits.{most_states}
use Rattle.tree.specs.Leaf.{Leaf}
use Rattle.tree.specs.Records.{Good}
use Rattle.lists.specs.Readback.{good_unique}
use Rattle.tree.specs.Parts.{EveryPiece}
use Rattle.tree.specs.Pieces.{cut_up}
use Rattle.tables.specs.Words.{Bit, width}
use Rattle.marks.specs.Answer.{MarksNumbers}
use Rattle.marks.specs.Promise.{
  RefusedUnchanged,
  MarksMade,
  Starts,
  start_not_good,
  start_too_few_classes,
  start_too_few,
  started,
  Steps,
  step_not_good,
  step_too_few_classes,
  step_too_few,
  step_not_marks,
  stepped,
}
use Rattle.sweeping.specs.Visiting.{accepting_holds}
use Rattle.stepping.specs.Inner.{narrow, all_narrow}

-- every piece of a good list's tree has at most 62 states
pub few_states : {list : List ℕ} {t : Tree Leaf} → Good list t → EveryPiece (λ x. width x ≤ most_states) (cut_up t)
few_states {t = t} good = (narrow t, all_narrow t)

-- nothing is refused, and in the words the root's accepting state, the last of piece 0, is marked
abbrev pub AcceptingMarked : Tree Leaf → (after : List ℕ) → MarksNumbers → Type 0
AcceptingMarked t after n = (n.refusal ≡ 0) × Bit (get_or after 0 0) (width (cut_up t) - 1)

-- a refusal's flag is not set
refused_flag : {why : Type 0} {before after : List ℕ} {n : MarksNumbers} {k : ℕ} (t : Tree Leaf)
    → RefusedUnchanged (suc k) why before after n → (n.accepting ≡ true) ↔ AcceptingMarked t after n
refused_flag t a = (
  λ e. let z : ◌≡◌ {A = ℕ} 0 1 = cc (ap (λ (m : MarksNumbers). m.accepting) a.refuses) in absurd (omega arith),
  λ says. absurd (omega (arith, ap (λ (m : MarksNumbers). m.refusal) a.refuses, says.0)),
)

module _ {list classes : List ℕ} {t : Tree Leaf} (good : Good list t) where
  -- that of marks made says what their words hold
  made_flag : {X : Tree Leaf → States} {before after : List ℕ} {n : MarksNumbers}
      → MarksMade list classes X before after n
      → (n.accepting ≡ true) ↔ AcceptingMarked t after n
  made_flag {X} {before} {after} {n} made =
      let marked = Iff.trans (Iff.symm (made.hold.marks accepting tt)) (accepting_holds (cut_up made.t) after) in
      let says = Iff.trans made.answer marked in
      let none : n.refusal ≡ 0 = ap (λ (m : MarksNumbers). m.refusal) made.marks in
      subst (λ (s : Tree Leaf). (n.accepting ≡ true) ↔ AcceptingMarked s after n)
      (good_unique list made.t t made.good good) (λ e. (none, says.0 e), λ accepts. says.1 accepts.1)

  -- the flag of a start is set exactly when nothing is refused and the root's accepting state is marked
  pub starts_flag : {before after : List ℕ} {n : MarksNumbers} → Starts list classes before after n
      → (n.accepting ≡ true) ↔ AcceptingMarked t after n
  starts_flag (start_not_good a) = refused_flag t a
  starts_flag (start_too_few_classes a) = refused_flag t a
  starts_flag (start_too_few a) = refused_flag t a
  starts_flag (started made) = made_flag made

  -- so it is with a step
  pub steps_flag : {byte : ℕ} {before after : List ℕ} {n : MarksNumbers} → Steps list classes byte before after n
      → (n.accepting ≡ true) ↔ AcceptingMarked t after n
  steps_flag (step_not_good a) = refused_flag t a
  steps_flag (step_too_few_classes a) = refused_flag t a
  steps_flag (step_too_few a) = refused_flag t a
  steps_flag (step_not_marks a) = refused_flag t a
  steps_flag (stepped on) = made_flag on.made
