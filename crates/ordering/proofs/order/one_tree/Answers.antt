-- `ordering::order::one_tree` meets its contract, by what the machine that reads a tree has read.
use Rattle.std.proofs.Common.{ℕ, ◌<◌, ◌≡◌, sym, ◌∙◌, length, get_or, arith}
use borrow.Author.Tests.{eqb-true, eqb-false, leb-true, leb-false}
use Rattle.tree.specs.Postorder.{asked}
use Rattle.ordering.specs.DepthLaws.{reads_more, stuck_tree, read_tree, depth_grows}
use Rattle.ordering.proofs.order.one_tree.Goals as goal

-- a number that is not 0 is past it
positive : (n : ℕ) → (n ≡ 0 → ⊥) → 0 < n
positive n h = omega arith

pub returns-then-depth-eq0 : goal.returns-then-depth-eq0
returns-then-depth-eq0 c =
    stuck_tree c.args.labels.now c.loop-label.label-index c.loop-label.depth
    (omega arith) c.loop-label.invariant.1 (sym c.depth_with-depth.ensures ∙ c.if-depth-eq0.true)

pub loop-label-preserved : goal.loop-label-preserved
loop-label-preserved c =
    let ls = c.args.labels.now in
    let e = c.depth_with-depth.ensures in (
      omega (arith, depth_grows (asked (get_or ls c.loop-label.label-index 0)) c.loop-label.depth),
      rw e (reads_more ls c.loop-label.label-index c.loop-label.depth (omega arith) c.loop-label.invariant.1
          (rw (← e) (positive c.depth_with-depth.result c.if-depth-eq0.false))),
    )

pub returns : goal.returns
returns c =
    let ls = c.args.labels.now in
    let all : c.loop-label.label-index ≡ length ls = omega arith in
    read_tree ls c.loop-label.depth _ (rw all at c.loop-label.invariant.1) (λ e. omega (arith, eqb-true, leb-true))
    (λ e one. omega (arith, eqb-false, leb-false))
