-- `drawing::put_records` meets its contract: before each turn the lines printed so far, with those still to come, are
-- all lines.
use Rattle.std.proofs.Common.{arith, refl, ◌-◌}
use Rattle.record_line.specs.Depth.{level}
use Rattle.drawing.specs.DepthLaws.{untold_is}
use Rattle.drawing.specs.DrawingLaws.{so_far_none, so_far_room, so_far_next, so_far_done}
use Rattle.drawing.proofs.put_records.Goals as goal

pub loop-i-init : goal.loop-i-init
loop-i-init c = (refl, so_far_none c.args.printer.now c.args.list.now _ c.args.records untold_is (omega arith))

pub put_gap-requires : goal.put_gap-requires
put_gap-requires c =
    let i = c.loop-i.i - 1 in
    omega (
      arith,
      so_far_room i c.piece_at-piece.result (level c.loop-i.table i) (omega arith) c.piece_at-piece.ensures refl
          c.loop-i.invariant.1 c.requires.room,
    )

pub put_line-requires-clause-room : goal.put_line-requires-clause-room
put_line-requires-clause-room c =
    let i = c.loop-i.i - 1 in
    omega (
      arith,
      so_far_room i c.piece_at-piece.result c.level-depth.result (omega arith) c.piece_at-piece.ensures
          c.level-depth.ensures.0 c.loop-i.invariant.1 c.requires.room,
    )

pub loop-i-preserved : goal.loop-i-preserved
loop-i-preserved c = (
  omega arith,
  so_far_next (c.loop-i.i - 1) c.piece_at-piece.result c.level-depth.result (omega arith) c.piece_at-piece.ensures
      c.level-depth.ensures.0 c.loop-i.invariant.1 c.tell_children.ensures c.put_gap.ensures c.put_line.ensures,
)

pub returns : goal.returns
returns c = so_far_done (omega arith) c.loop-i.invariant.1
