-- `showing::cut::part_start` meets its contract: the part that still fits begins where the whole one does.
use Rattle.std.proofs.Common.{arith, sym, ap, ◌∙◌, ◌≡◌, ◌-◌}
use Rattle.showing.specs.CutShort.{cut_begins}
use Rattle.showing.specs.CutShortLaws.{begins_none, begins_stop, begins_on}
use Rattle.showing.proofs.cut.part_start.Goals as goal

pub loop-before-preserved : goal.loop-before-preserved
loop-before-preserved c =
    rw c.shown_width-columns.ensures
    (sym (begins_on c.args.bytes.now c.loop-before.left c.loop-before.before (c.loop-before.before - 1) (omega arith)
    (omega arith)) ∙ c.loop-before.invariant)

pub returns-then-left-columns : goal.returns-then-left-columns
returns-then-left-columns c =
    omega (
      arith,
      begins_stop c.args.bytes.now c.loop-before.left c.loop-before.before (c.loop-before.before - 1) (omega arith)
          (omega arith),
    )

pub returns : goal.returns
returns c =
    let none : c.loop-before.before ≡ 0 = omega arith in
    sym (begins_none c.args.bytes.now c.loop-before.left)
    ∙ ap (cut_begins c.args.bytes.now c.loop-before.left) (sym none) ∙ c.loop-before.invariant
