-- `lists::hand::hand_down` meets its contract, by what a record was handed and what its children's slots hold.
use Rattle.std.proofs.Common.{ℕ, ◌+◌, ◌-◌, ◌≡◌, refl, ap, subst, length, arith}
use Rattle.std.proofs.Math.ListN.{length-set}
use Rattle.tree.specs.Cut.{one}
use Rattle.cutting.specs.MeasuredLaws.{right_size_le, measured_less}
use Rattle.lists.specs.Handed.{Handed}
use Rattle.lists.specs.HandedLaws.{handed_none, handed_all, TurnSmall, turn_small, turn_stored}
use Rattle.lists.proofs.hand.hand_down.Goals as goal
use Rattle.lists.proofs.hand.hand_down.Goals.{After-left_slot-left}

-- the records from this one's slot on have handed their numbers
handed : (c : After-left_slot-left)
    → Handed c.args.labels.now c.loop-i.pieces c.loop-i.news (c.loop-i.i - 1 + 1)
handed c =
    let here : c.loop-i.i ≡ c.loop-i.i - 1 + 1 = omega arith in
    subst (Handed c.args.labels.now c.loop-i.pieces c.loop-i.news) here c.loop-i.invariant

-- the children's open sizes and the right child's first new piece are small
small : (c : After-left_slot-left)
    → let left = c.left_slot-left.result in
    let right = c.right_slot-right.result in
    TurnSmall left right (c.loop-i.i - 1 + 1) c.args.opens.now c.args.cuts.now c.loop-i.news
small c =
    turn_small c.args.labels.now (c.loop-i.i - 1) (c.loop-i.i - 1 + 1) c.left_slot-left.result
    c.right_slot-right.result c.args.sizes.now c.args.opens.now c.args.cuts.now
    c.loop-i.pieces c.loop-i.news refl (omega arith) c.requires.measured (handed c)
    c.right_slot-right.ensures.0 c.left_slot-left.ensures.0 c.requires.postorder c.requires.labels_len_bound

pub loop-i-init : goal.loop-i-init
loop-i-init c = handed_none c.args.labels.now c.args.pieces.now c.args.news.now (omega arith) (omega arith)

pub left_slot-left-requires : goal.left_slot-left-requires
left_slot-left-requires c =
    let ls = c.args.labels.now in
    let less = measured_less ls c.args.sizes.now c.args.opens.now c.args.cuts.now (c.loop-i.i - 1)
    (length ls) (omega arith) c.requires.measured in
    right_size_le ls c.requires.postorder.tree (c.loop-i.i - 1) c.right_slot-right.result c.args.sizes.now c.requires.postorder.same
    (omega arith)
    (less.sized c.requires.postorder.tree c.requires.postorder.same) c.right_slot-right.ensures.0

pub cut_off-left_off-requires : goal.cut_off-left_off-requires
cut_off-left_off-requires c =
    let few = small (goal.at.cut_off-left_off-requires c).After-left_slot-left in (few.left_le, few.right_le)

pub overflow_add-past_left : goal.overflow_add-past_left
overflow_add-past_left c =
    let few = small (goal.at.overflow_add-past_left c).After-left_slot-left in
    omega (arith, few.all_new, ap one c.cut_off-left_off.ensures.0, ap one c.cut_off-left_off.ensures.1)

pub overflow_add-past_left-in-loop-i : goal.overflow_add-past_left-in-loop-i
overflow_add-past_left-in-loop-i c =
    let few = small (goal.at.overflow_add-past_left-in-loop-i c).After-left_slot-left in
    omega (arith, few.all_new, ap one c.cut_off-left_off.ensures.0, ap one c.cut_off-left_off.ensures.1)

pub overflow_add-news : goal.overflow_add-news
overflow_add-news c =
    let few = small (goal.at.overflow_add-news c).After-left_slot-left in
    omega (arith, few.all_new, ap one c.cut_off-left_off.ensures.0, ap one c.cut_off-left_off.ensures.1)

pub overflow_add-news-in-loop-i : goal.overflow_add-news-in-loop-i
overflow_add-news-in-loop-i c =
    let few = small (goal.at.overflow_add-news-in-loop-i c).After-left_slot-left in
    omega (arith, few.all_new, ap one c.cut_off-left_off.ensures.0, ap one c.cut_off-left_off.ensures.1)

pub loop-i-preserved : goal.loop-i-preserved
loop-i-preserved c =
    turn_stored c.args.labels.now (c.loop-i.i - 1) (c.loop-i.i - 1 + 1) c.left_slot-left.result
    c.right_slot-right.result c.args.sizes.now c.args.opens.now c.args.cuts.now
    c.loop-i.pieces c.loop-i.news refl (omega arith) c.requires.measured
    (handed (goal.at.loop-i-preserved c).After-left_slot-left)
    c.right_slot-right.ensures.0 c.left_slot-left.ensures.0
    c.cut_off-left_off.result.0 c.cut_off-left_off.result.1 c.piece_below.result
    c.piece_below-in-loop-i.result
    c.one_if.result c.one_if-in-loop-i.result c.one_if-in-loop-i-2.result
    (omega (arith, length-set {A = ℕ})) (omega (arith, length-set {A = ℕ})) c.left_slot-left.ensures.1 c.right_slot-right.ensures.1
    c.cut_off-left_off.ensures.0
    c.cut_off-left_off.ensures.1
    c.one_if.ensures c.one_if-in-loop-i.ensures
    c.one_if-in-loop-i-2.ensures
    c.piece_below.ensures c.piece_below-in-loop-i.ensures

pub returns : goal.returns
returns c =
    let first : c.loop-i.i ≡ 0 = omega arith in
    handed_all c.args.labels.now c.loop-i.pieces c.loop-i.news (rw first at c.loop-i.invariant)
