-- `showing::cut::fitting` meets its contract: what is passed and what still fits are all that fits.
use Rattle.std.proofs.Common.{arith, add-one}
use Rattle.showing.specs.CutShortLaws.{fitting_end, fitting_stop, fitting_on}
use Rattle.showing.proofs.cut.fitting.Goals as goal

pub loop-i-preserved : goal.loop-i-preserved
loop-i-preserved c =
    rw (add-one, c.shown_width-columns.ensures)
    (omega (arith, fitting_on c.args.bytes.now c.loop-i.left c.loop-i.i (omega arith) (omega arith)))

pub returns-then-left-columns : goal.returns-then-left-columns
returns-then-left-columns c =
    omega (arith, fitting_stop c.args.bytes.now c.loop-i.left c.loop-i.i (omega arith) (omega arith))

pub returns : goal.returns
returns c = omega (arith, fitting_end c.args.bytes.now c.loop-i.left c.loop-i.i (omega arith))
