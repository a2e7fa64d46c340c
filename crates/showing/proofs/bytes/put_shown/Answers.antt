-- `showing::bytes::put_shown` meets its contract: before each byte the bytes before it are printed.
use Rattle.std.proofs.Common.{arith, add-one}
use Rattle.printing.specs.PrinterLaws.{puts_join, puts_none}
use Rattle.showing.specs.Shown.{shown}
use Rattle.showing.specs.ShownLaws.{shown_next, next_room}
use Rattle.showing.proofs.bytes.put_shown.Goals as goal

pub loop-byte-init : goal.loop-byte-init
unfolding shown
loop-byte-init c = puts_none (omega arith)

pub put_byte-requires : goal.put_byte-requires
put_byte-requires c = omega (arith, next_room c.args.bytes.now c.loop-byte.byte-index (omega arith))

pub loop-byte-preserved : goal.loop-byte-preserved
loop-byte-preserved c =
    rw (add-one, shown_next c.args.bytes.now c.loop-byte.byte-index (omega arith))
    (puts_join c.loop-byte.invariant c.put_byte.ensures)
