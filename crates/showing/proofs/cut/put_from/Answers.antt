-- `showing::cut::put_from` meets its contract: the part from the place on, then dots.
use Rattle.std.proofs.Common.{arith, length-append}
use Rattle.printing.specs.PrinterLaws.{puts_join}
use Rattle.showing.specs.CutShortLaws.{cut_fits, from_lent}
use Rattle.showing.proofs.cut.put_from.Goals as goal

pub slice_bounds-put_shown-count : goal.slice_bounds-put_shown-count
slice_bounds-put_shown-count c =
    omega (arith, (cut_fits c.args.bytes.now c.args.place c.requires.inside).reaches)

pub slice_bounds-put_shown-start : goal.slice_bounds-put_shown-start
slice_bounds-put_shown-start c =
    omega (arith, (cut_fits c.args.bytes.now c.args.place c.requires.inside).reaches)

pub slice_bounds-put_shown-end : goal.slice_bounds-put_shown-end
slice_bounds-put_shown-end c =
    omega (arith, (cut_fits c.args.bytes.now c.args.place c.requires.inside).inside)

pub put_shown-requires : goal.put_shown-requires
put_shown-requires c =
    let lent = rw (from_lent c.args.bytes.now c.args.place c.requires.inside, ← c.cut_end-end.ensures) at c.requires.room in
    omega (arith, simp length-append at lent)

pub put_dots-requires : goal.put_dots-requires
put_dots-requires c =
    let lent = rw (from_lent c.args.bytes.now c.args.place c.requires.inside, ← c.cut_end-end.ensures) at c.requires.room in
    omega (arith, simp length-append at lent)

pub returns : goal.returns
returns c =
    rw (from_lent c.args.bytes.now c.args.place c.requires.inside, ← c.cut_end-end.ensures)
    (puts_join c.put_shown.ensures c.put_dots.ensures)
