-- `showing::cut::put_before` meets its contract: dots, then the part before the place.
use Rattle.std.proofs.Common.{arith, length-append}
use Rattle.printing.specs.PrinterLaws.{puts_join}
use Rattle.showing.specs.CutShortLaws.{cut_fits, before_lent}
use Rattle.showing.proofs.cut.put_before.Goals as goal

pub put_dots-requires : goal.put_dots-requires
put_dots-requires c =
    let lent = rw (before_lent c.args.bytes.now c.args.place c.requires.inside, ← c.cut_start-start.ensures) at c.requires.room in
    omega (arith, simp length-append at lent)

pub slice_bounds-put_shown-count : goal.slice_bounds-put_shown-count
slice_bounds-put_shown-count c =
    omega (arith, (cut_fits c.args.bytes.now c.args.place c.requires.inside).ordered)

pub slice_bounds-put_shown-start : goal.slice_bounds-put_shown-start
slice_bounds-put_shown-start c =
    omega (arith, (cut_fits c.args.bytes.now c.args.place c.requires.inside).ordered)

pub put_shown-requires : goal.put_shown-requires
put_shown-requires c =
    let lent = rw (before_lent c.args.bytes.now c.args.place c.requires.inside, ← c.cut_start-start.ensures) at c.requires.room in
    omega (arith, simp length-append at lent)

pub returns : goal.returns
returns c =
    rw (before_lent c.args.bytes.now c.args.place c.requires.inside, ← c.cut_start-start.ensures)
    (puts_join c.put_dots.ensures c.put_shown.ensures)
