-- `showing::cut::cut_end` meets its contract: what fits from the place on lies within the bytes.
use Rattle.std.proofs.Common.{arith, ◌-◌, length, take, drop, length-take, length-drop}
use Rattle.showing.specs.CutShort.{side_columns}
use Rattle.showing.specs.CutShortLaws.{fitting_fits}
use Rattle.showing.proofs.cut.cut_end.Goals as goal

pub overflow_add-result : goal.overflow_add-result
overflow_add-result c =
    let rest = drop c.args.place c.args.bytes.now in
    let count = length c.args.bytes.now - c.args.place in
    omega (
      arith,
      length-drop c.args.place c.args.bytes.now,
      length-take count rest,
      (fitting_fits side_columns (take count rest)).inside,
    )
