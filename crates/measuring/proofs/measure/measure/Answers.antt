-- `measuring::measure::measure` meets its contract, by what the children's slots hold for every tree with these labels.
use Rattle.std.proofs.Common.{◌+◌, ◌≡◌, ◌∙◌, length, get_or, arith}
use Rattle.language.specs.Tree.{Tree}
use Rattle.tree.specs.Leaf.{Leaf}
use Rattle.tree.specs.Records.{labels}
use Rattle.cutting.specs.MeasuredLaws.{Gathered, gathered, children, right_size_le, room_stays, measured_more}
use Rattle.measuring.proofs.measure.measure.Goals as goal
use Rattle.measuring.proofs.measure.measure.Goals.{After-left_slot-left}

-- what is gathered once both slots are known, for every tree with these labels
found : (c : After-left_slot-left) (t : Tree Leaf) → c.args.labels.now ≡ labels t
    → let left = c.left_slot-left.result in
    let right = c.right_slot-right.result in
    Gathered t c.loop-i.i (get_or c.loop-i.sizes left 0 + get_or c.loop-i.sizes right 0 + 1)
    (get_or c.loop-i.opens left 0) (get_or c.loop-i.opens right 0)
    (get_or c.loop-i.cuts left 0) (get_or c.loop-i.cuts right 0)
found c t e =
    gathered t c.loop-i.i c.left_slot-left.result c.right_slot-right.result c.loop-i.sizes c.loop-i.opens
    c.loop-i.cuts
    (children c.args.labels.now t c.loop-i.i c.left_slot-left.result c.right_slot-right.result c.loop-i.sizes
    c.loop-i.opens c.loop-i.cuts e
    c.loop-i-test.true c.loop-i.invariant.1 c.right_slot-right.ensures.0 c.left_slot-left.ensures.0)

pub left_slot-left-requires : goal.left_slot-left-requires
left_slot-left-requires c =
    right_size_le c.args.labels.now c.requires.postorder.tree c.loop-i.i c.right_slot-right.result c.loop-i.sizes
    c.requires.postorder.same
    c.loop-i-test.true (c.loop-i.invariant.1.sized c.requires.postorder.tree c.requires.postorder.same)
    c.right_slot-right.ensures.0

pub overflow_add-size : goal.overflow_add-size
overflow_add-size c =
    let o = c.requires.postorder in
    omega (arith, found (goal.at.overflow_add-size c).After-left_slot-left o.tree o.same)

pub overflow_add-size-in-loop-i : goal.overflow_add-size-in-loop-i
overflow_add-size-in-loop-i c =
    let o = c.requires.postorder in
    omega (arith, found (goal.at.overflow_add-size-in-loop-i c).After-left_slot-left o.tree o.same)

pub open_size-open_here-requires : goal.open_size-open_here-requires
open_size-open_here-requires c =
    let o = c.requires.postorder in
    let g = found (goal.at.open_size-open_here-requires c).After-left_slot-left o.tree o.same in
    (g.left_le, g.right_le)

pub cut_count-cuts_here-requires : goal.cut_count-cuts_here-requires
cut_count-cuts_here-requires c =
    let o = c.requires.postorder in
    let g = found (goal.at.cut_count-cuts_here-requires c).After-left_slot-left o.tree o.same in
    record { l_le_most_nodes = (g.left_le, g.right_le); below_right_bound = omega (arith, g.cuts_le) }

pub loop-i-preserved : goal.loop-i-preserved
loop-i-preserved c = (
  room_stays (length c.args.labels.now) c.loop-i.sizes c.loop-i.opens c.loop-i.cuts
      (c.loop-i.i + 1) _ _ _
      c.loop-i.invariant.0,
  measured_more c.args.labels.now c.loop-i.i _ c.open_size-open_here.result
      c.cut_count-cuts_here.result c.loop-i.sizes c.loop-i.opens c.loop-i.cuts
      c.loop-i-test.true c.loop-i.invariant.0 c.loop-i.invariant.1
      (λ t e. (
        (found (goal.at.loop-i-preserved c).After-left_slot-left t e).size_is,
        c.open_size-open_here.ensures ∙ (found (goal.at.loop-i-preserved c).After-left_slot-left t e).open_is,
        c.cut_count-cuts_here.ensures ∙ (found (goal.at.loop-i-preserved c).After-left_slot-left t e).cuts_is,
      )),
)
