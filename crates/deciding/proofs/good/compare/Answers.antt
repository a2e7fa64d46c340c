-- `deciding::good::compare` meets its contract: a record that differs is the reason for no, and one that does not adds
-- to the loop's invariant.
use Rattle.std.proofs.Common.{◌+◌, ◌≡◌, refl, length, get_or, arith}
use Rattle.language.specs.Tree.{Tree}
use Rattle.tree.specs.Leaf.{Leaf}
use Rattle.tree.specs.Records.{labels}
use Rattle.cutting.specs.Seats.{seats, seat_at}
use Rattle.cutting.specs.MeasuredLaws.{Slots, right_size_le, holds_less, slots, in_tree}
use Rattle.deciding.specs.DecideLaws.{agrees_more, compared_no, compared_all}
use Rattle.deciding.proofs.good.compare.Goals as goal
use Rattle.deciding.proofs.good.compare.Goals.{After-is_record}

-- what the slots tell of record i
facts : (c : After-is_record)
    → (t : Tree Leaf) → c.args.labels.now ≡ labels t
    → Slots t c.loop-i.i c.left_slot-left.result c.right_slot-right.result c.args.sizes.now
    × (get_or c.args.pieces.now (c.loop-i.i + 1) 0 ≡ (seat_at (seats t 0 1) c.loop-i.i).piece)
facts c t e =
    let ls = c.args.labels.now in
    let inside = c.loop-i-test.true in (
      slots ls t c.loop-i.i c.left_slot-left.result c.right_slot-right.result c.args.sizes.now e inside
          (holds_less c.loop-i.i (omega arith) (c.requires.sized.0.sized t e)) c.right_slot-right.ensures.0
          c.left_slot-left.ensures.0,
      c.requires.sized.1.at_record t e c.loop-i.i (in_tree ls t c.loop-i.i e inside),
    )

pub left_slot-left-requires : goal.left_slot-left-requires
left_slot-left-requires c =
    right_size_le c.args.labels.now c.requires.postorder.tree c.loop-i.i c.right_slot-right.result c.args.sizes.now
    c.requires.postorder.same c.loop-i-test.true
    (holds_less c.loop-i.i (omega arith) (c.requires.sized.0.sized c.requires.postorder.tree c.requires.postorder.same))
    c.right_slot-right.ensures.0

pub returns-then-not-is_record : goal.returns-then-not-is_record
returns-then-not-is_record c =
    compared_no c.args.labels.now c.args.list.now c.loop-i.i c.left_slot-left.result
    c.right_slot-right.result (get_or c.args.labels.now c.loop-i.i 0) c.child_number-left_number.result
    c.child_number-right_number.result (get_or c.args.pieces.now (c.loop-i.i + 1) 0) c.args.sizes.now
    c.loop-i-test.true (facts (goal.at.returns-then-not-is_record c).After-is_record) refl
    (c.type_inv.labels c.loop-i.i).fits c.child_number-left_number.ensures
    c.child_number-right_number.ensures c.requires.labels_len_bound.1 (c.is_record.ensures.if_not c.if-not-is_record.true)

pub loop-i-preserved : goal.loop-i-preserved
loop-i-preserved c =
    agrees_more c.args.labels.now c.args.list.now c.loop-i.i c.left_slot-left.result
    c.right_slot-right.result (get_or c.args.labels.now c.loop-i.i 0)
    c.child_number-left_number.result c.child_number-right_number.result
    (get_or c.args.pieces.now (c.loop-i.i + 1) 0) c.args.sizes.now
    c.loop-i-test.true (facts (goal.at.loop-i-preserved c).After-is_record) refl
    (c.type_inv.labels c.loop-i.i).fits c.child_number-left_number.ensures
    c.child_number-right_number.ensures (c.is_record.ensures.if_so c.if-not-is_record.false)
    c.loop-i.invariant

pub returns : goal.returns
returns c =
    let all : c.loop-i.i ≡ length c.args.labels.now = omega arith in
    compared_all c.args.labels.now c.args.list.now c.requires.labels_len_bound.1 (rw all at c.loop-i.invariant)
