-- Each step of the sweep, as the lemmas of its specifications say it.
use Rattle.std.proofs.Common.{ℕ, ◌≤◌, ◌<◌, ◌≡◌, ◌⊎◌, get_or, set, ◌∙◌, sym, subst, List, length, length-set, inr, arith, rules}
use mathlib.Core.Bool.{and-eq-true_iff}
use Rattle.language.specs.Settled.{Settled}
use Rattle.tree.specs.Leaf.{byteless}
use Rattle.tables.specs.Words.{Holds}
use Rattle.sweeping.specs.Zeros.{begun_zero, all_zeros}
use Rattle.tables.specs.Plan.{Closes}
use Rattle.sweeping.specs.Swept.{Sweepable}
use Rattle.sweeping.specs.RunOfChildren.{ChildWaiting}
use Rattle.sweeping.specs.Sweeping.{
  SweepRoom,
  ChildRead,
  sweeping_begins,
  waits,
  room_for,
  read_for,
  quiet_ahead,
  passed_over,
  zeros_passed,
  sweeping_on,
  begun_sweepable,
  own_begun,
  sweep_done,
  sweep_settled,
  idle_done,
  idle_settled,
  sized_same,
  lent_sweepable,
  lent_shorter,
  lent_ready,
  visited,
  after_part,
  zeros_on,
}
use Rattle.sweeping.proofs.sweep.+sweep.Goals as goal
use Rattle.sweeping.proofs.sweep.+sweep.Goals.{In-loop-at, After-run}

-- the words as a sweep begins with them are those of the run's pieces
begun_here : (t : ℕ) (c : In-loop-at t)
    → Sweepable c.args.rows.now c.requires.tree (set c.args.words.now 0 c.close_from-first.result.word)
begun_here t c = begun_sweepable _ _ _ c.close_from-first.ensures.closes_from _ c.requires.sweepable

-- and the own word is closed
own_here : (t : ℕ) (c : In-loop-at t)
    → let closed = get_or (set c.args.words.now 0 c.close_from-first.result.word) 0 0 in Closes c.requires.tree closed closed
own_here t c = own_begun _ _ _ c.close_from-first.ensures.closes_from _ c.requires.sweepable

-- a child piece waits for its visit
waits_here : (t : ℕ) (c : In-loop-at t) → let at = c.loop-at in
    ChildWaiting c.args.rows.now c.requires.tree (set c.args.words.now 0 c.close_from-first.result.word) at.words at.at
    at.waiting at.settled
waits_here t c =
    waits _ _ _ _ _ _ c.loop-at.invariant.0 c.loop-at-test.true _ (begun_here t c) (own_here t c)

-- there is room for its row
room_here : (t : ℕ) (c : In-loop-at t) → SweepRoom c.args.rows.now c.loop-at.at c.loop-at.words
room_here t c =
    room_for _ _ _ _ _ _ c.loop-at.invariant.0 c.loop-at-test.true _ (begun_here t c) (own_here t c)
    (sized_same _ c.args.words.now _ (c.loop-at.invariant.0.same_length
    ∙ length-set c.args.words.now 0 c.close_from-first.result.word) c.requires.sized)

-- outside of the span no word from its own on has a mark
quiet_here : (t : ℕ) (c : In-loop-at t) (o : ℕ) → c.loop-at.at ≤ o → o < length c.loop-at.words
    → (o < c.args.from) ⊎ (c.args.to ≤ o) → get_or c.loop-at.words o 0 ≡ 0
quiet_here t c =
    quiet_ahead _ c.args.words.now _ c.close_from-first.result.word _ _ _ c.loop-at.invariant.0 _ _ c.requires.quiet
    (room_here t c).own_before

-- what was read of it fits the words
read_here : (t : ℕ) (c : After-run t)
    → ChildRead c.loop-at.at c.loop-at.words c.stand-stand.result c.run.result
read_here t c =
    read_for _ _ _ _ _ _ c.loop-at.invariant.0 c.loop-at-test.true _
    (begun_sweepable _ _ _ c.close_from-first.ensures.closes_from _ c.requires.sweepable)
    (own_begun _ _ _ c.close_from-first.ensures.closes_from _ c.requires.sweepable) _ _ c.stand-stand.ensures c.run.ensures

pub loop-at-init : goal.loop-at-init
loop-at-init t c =
    let some : 0 < length c.args.words.now = omega (arith, c.requires.sweepable.whole_run) in (
      sweeping_begins _ _ _,
      begun_zero c.args.words.now c.close_from-first.result.word some c.close_from-first.ensures.tells,
    )

pub returns-then-idle-clause-swept : goal.returns-then-idle-clause-swept
returns-then-idle-clause-swept t c = λ x can.
    let still = c.idle.ensures c.if-idle.true in
    idle_done _ _ _ c.close_from-first.ensures.closes_from x can _ _ _ _ c.loop-at.invariant.0 still.0
    (λ o l h. quiet_here t (goal.at.returns-then-idle-clause-swept t c).In-loop-at o l h (inr (omega (arith, still.1))))

pub returns-then-idle-clause-settled : goal.returns-then-idle-clause-settled
returns-then-idle-clause-settled t c = λ x can e.
    let still = c.idle.ensures c.if-idle.true in
    idle_settled _ _ _ c.close_from-first.ensures.closes_from x can _ _ _ _ c.loop-at.invariant.0 still.0
    (λ o l h. quiet_here t (goal.at.returns-then-idle-clause-settled t c).In-loop-at o l h (inr (omega (arith, still.1)))) e

pub returns-then-idle-clause-tells : goal.returns-then-idle-clause-tells
returns-then-idle-clause-tells t c =
    let still = c.idle.ensures c.if-idle.true in
    all_zeros _ _ c.loop-at.words (c.loop-at.invariant.0.same_length ∙ length-set c.args.words.now 0 c.close_from-first.result.word)
    (λ o l h. quiet_here t (goal.at.returns-then-idle-clause-tells t c).In-loop-at o l h (inr (omega (arith, still.1)))) c.loop-at.invariant.1

pub missed-waiting-requires : goal.missed-waiting-requires
missed-waiting-requires t c = omega (
  arith,
  (read_here t (goal.at.missed-waiting-requires t c).After-run).stand_small,
)

pub at_rest-requires : goal.at_rest-requires
at_rest-requires t c = (
  omega (
    arith,
    (read_here t (goal.at.at_rest-requires t c).After-run).stand_small,
  ),
  omega (
    arith,
    (room_here t (goal.at.at_rest-requires t c).In-loop-at).few_words,
    c.loop-at-test.true,
  ),
)

pub pass-requires : goal.pass-requires
pass-requires t c = (
  omega (
    arith,
    (read_here t (goal.at.pass-requires t c).After-run).stand_small,
  ),
  omega arith,
)

pub slice_bounds-sweep-end-then-not-at_rest : goal.slice_bounds-sweep-end-then-not-at_rest
slice_bounds-sweep-end-then-not-at_rest t c = search (
  rules,
  read_here t (goal.at.slice_bounds-sweep-end-then-not-at_rest t c).After-run,
)

pub sweep-below-requires : goal.sweep-below-requires
sweep-below-requires t c =
    let can = (waits_here t (goal.at.sweep-below-requires t c).In-loop-at).visitable in (
      omega (
        arith,
        c.decreases,
        lent_shorter _ _ _ _ _ c.stand-stand.ensures c.run.ensures _ _ can _ c.pass.ensures,
        c.loop-at.invariant.0.same_length,
        length-set c.args.words.now 0 c.close_from-first.result.word,
      ),
      lent_ready _ _ _ _ _ c.stand-stand.ensures c.run.ensures _ _ can _ c.pass.ensures c.args.from c.args.to _ _
          c.saturating_sub.ensures c.saturating_sub-then-not-at_rest.ensures (sized_same _ c.args.words.now _ (c.loop-at.invariant.0.same_length ∙ length-set c.args.words.now 0 c.close_from-first.result.word) c.requires.sized) (quiet_here t (goal.at.sweep-below-requires t c).In-loop-at),
    )

pub pass-raised-requires : goal.pass-raised-requires
pass-raised-requires t c = (
  omega (
    arith,
    (room_here t (goal.at.pass-raised-requires t c).In-loop-at).top_small,
    c.top.ensures,
  ),
  omega (
    arith,
    (read_here t (goal.at.pass-raised-requires t c).After-run).stand_small,
  ),
)

pub loop-at-smaller-then-not-at_rest : goal.loop-at-smaller-then-not-at_rest
loop-at-smaller-then-not-at_rest t c =
    let here = waits_here t (goal.at.loop-at-smaller-then-not-at_rest t c).In-loop-at in
    let lent = lent_sweepable _ _ _ _ _ c.stand-stand.ensures c.run.ensures _ _ here.visitable _ c.pass.ensures in
    let seen = visited _ _ _ _ _ c.stand-stand.ensures c.run.ensures _ _ here.visitable _ c.pass.ensures _ c.sweep-below.auto.words
    (c.sweep-below.ensures.swept here.child.tree lent) _ _ _ c.top.ensures c.pass-raised.ensures
    c.close_after-own.ensures.closes_after in
    omega (
      arith,
      read_here t (goal.at.loop-at-smaller-then-not-at_rest t c).After-run,
      seen.same_length,
    )

pub loop-at-preserved-then-not-at_rest : goal.loop-at-preserved-then-not-at_rest
loop-at-preserved-then-not-at_rest t c =
    let both = and-eq-true_iff c.loop-at.settled c.sweep-below.result.settled in (
      sweeping_on _ _ _ _ _ _ c.loop-at.invariant.0 c.loop-at-test.true _ _ c.stand-stand.ensures c.run.ensures _ _ _ _
          (begun_here t (goal.at.loop-at-preserved-then-not-at_rest t c).In-loop-at) (own_here t (goal.at.loop-at-preserved-then-not-at_rest t c).In-loop-at) c.missed-waiting.ensures
          (λ e. (both.0 e).0)
          (λ x child can.
          let lent = lent_sweepable _ _ _ _ _ c.stand-stand.ensures c.run.ensures x child can _ c.pass.ensures in
          let swept = c.sweep-below.ensures.swept child.tree lent in
          record {
            visited = visited _ _ _ _ _ c.stand-stand.ensures c.run.ensures x child can _ c.pass.ensures _ c.sweep-below.auto.words swept _ _ _
                c.top.ensures c.pass-raised.ensures c.close_after-own.ensures.closes_after;
            rests = λ e. subst (λ (l : List ℕ). Settled byteless child.tree (Holds child.tree l))
                (sym (after_part _ _ _ _ _ c.stand-stand.ensures c.run.ensures x child can _ c.pass.ensures _ c.sweep-below.auto.words swept
                _ _ _ c.top.ensures c.pass-raised.ensures c.close_after-own.ensures.closes_after))
                (c.sweep-below.ensures.settled child.tree lent (both.0 e).1);
          }),
      let here = waits_here t (goal.at.loop-at-preserved-then-not-at_rest t c).In-loop-at in
          zeros_on _ _ _ _ _ c.stand-stand.ensures c.run.ensures _ _ here.visitable _ c.pass.ensures _ c.sweep-below.auto.words
          (c.sweep-below.ensures.swept here.child.tree
          (lent_sweepable _ _ _ _ _ c.stand-stand.ensures c.run.ensures _ _ here.visitable _ c.pass.ensures)) _ _ _
          c.top.ensures c.pass-raised.ensures c.close_after-own.ensures.closes_after
          c.loop-at.invariant.1 c.sweep-below.ensures.tells c.close_after-own.ensures.tells,
    )

pub loop-at-smaller : goal.loop-at-smaller
loop-at-smaller t c = omega (
  arith,
  read_here t (goal.at.loop-at-smaller t c).After-run,
)

pub loop-at-preserved : goal.loop-at-preserved
loop-at-preserved t c =
    let rest = c.at_rest.ensures c.if-not-at_rest.false in
    let here = waits_here t (goal.at.loop-at-preserved t c).In-loop-at in (
      sweeping_on _ _ _ _ _ _ c.loop-at.invariant.0 c.loop-at-test.true _ _ c.stand-stand.ensures c.run.ensures _ _ _ _
          (begun_here t (goal.at.loop-at-preserved t c).In-loop-at) (own_here t (goal.at.loop-at-preserved t c).In-loop-at) c.missed-waiting.ensures
          (λ e. e)
          (passed_over _ _ _ _ _ _ c.loop-at.invariant.0 c.loop-at-test.true _ _ c.stand-stand.ensures c.run.ensures _ _ rest (quiet_here t (goal.at.loop-at-preserved t c).In-loop-at)),
      zeros_passed _ _ _ _ _ _ c.loop-at.invariant.0 c.loop-at-test.true _ _ c.stand-stand.ensures c.run.ensures _ _ rest (quiet_here t (goal.at.loop-at-preserved t c).In-loop-at) _ _
          here.visitable c.loop-at.invariant.1,
    )

pub returns-clause-swept : goal.returns-clause-swept
returns-clause-swept t c = λ x can. sweep_done _ _ _ c.close_from-first.ensures.closes_from x can _ _ _ _ c.loop-at.invariant.0
    c.loop-at-test.false

pub returns-clause-settled : goal.returns-clause-settled
returns-clause-settled t c = λ x can yes'.
    let both = (and-eq-true_iff c.loop-at.settled c.apart.result).0 yes' in
    sweep_settled _ _ _ c.close_from-first.ensures.closes_from x can _ _ _ _ c.loop-at.invariant.0
    c.loop-at-test.false both.0 (c.apart.ensures both.1)

pub returns-clause-tells : goal.returns-clause-tells
returns-clause-tells t c =
    all_zeros _ _ c.loop-at.words (c.loop-at.invariant.0.same_length ∙ length-set c.args.words.now 0 c.close_from-first.result.word)
    (λ o h g. absurd (omega (arith, c.loop-at-test.false))) c.loop-at.invariant.1
