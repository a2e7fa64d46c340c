-- `lists::write::write_all` meets its contract, by what the children's slots and the piece give of the record.
use Rattle.std.proofs.Common.{◌+◌, ◌≡◌, refl, length, get_or, arith}
use Rattle.cutting.specs.MeasuredLaws.{right_size_le, holds_less, slots, in_tree}
use Rattle.lists.specs.RecordingLaws.{written_more, written_all}
use Rattle.lists.proofs.write.write_all.Goals as goal

pub left_slot-left-requires : goal.left_slot-left-requires
left_slot-left-requires c =
    right_size_le c.args.labels.now c.requires.postorder.tree c.loop-i.i c.right_slot-right.result c.args.sizes.now
    c.requires.postorder.same c.loop-i-test.true
    (holds_less c.loop-i.i (omega arith) (c.requires.sized.0.sized c.requires.postorder.tree c.requires.postorder.same))
    c.right_slot-right.ensures.0

pub loop-i-preserved : goal.loop-i-preserved
loop-i-preserved c =
    let ls = c.args.labels.now in
    written_more ls c.args.out.now c.loop-i.out c.write_record.new.out c.loop-i.i c.left_slot-left.result
    c.right_slot-right.result (get_or ls c.loop-i.i 0)
    c.child_number-left_number.result c.child_number-right_number.result (get_or c.args.pieces.now (c.loop-i.i + 1) 0)
    c.args.sizes.now c.loop-i-test.true
    (λ t e. (
      slots ls t c.loop-i.i c.left_slot-left.result c.right_slot-right.result c.args.sizes.now e
          c.loop-i-test.true
          (holds_less c.loop-i.i (omega arith) (c.requires.sized.0.sized t e))
          c.right_slot-right.ensures.0
          c.left_slot-left.ensures.0,
      c.requires.sized.1.at_record t e c.loop-i.i
          (in_tree ls t c.loop-i.i e c.loop-i-test.true),
    ))
    refl (c.type_inv.labels c.loop-i.i).fits c.child_number-left_number.ensures
    c.child_number-right_number.ensures (omega arith) c.write_record.ensures c.loop-i.invariant

pub returns : goal.returns
returns c =
    let all : c.loop-i.i ≡ length c.args.labels.now = omega arith in
    written_all c.args.labels.now c.args.out.now c.loop-i.out (rw all at c.loop-i.invariant)
