-- `showing::bytes::put_spaces` meets its contract: before each turn so many spaces are printed.
use Rattle.std.proofs.Common.{arith, ◌≡◌}
use Rattle.printing.specs.PrinterLaws.{puts_join, puts_none}
use Rattle.showing.specs.ShownLaws.{spaces_none, spaces_next, spaces_length}
use Rattle.showing.proofs.bytes.put_spaces.Goals as goal

pub loop-init : goal.loop-init
loop-init c = (omega arith, rw spaces_none (puts_none (omega arith)))

pub put_byte-requires : goal.put_byte-requires
put_byte-requires c = omega (arith, spaces_length c.args.count, spaces_length c.loop.counter)

pub loop-preserved : goal.loop-preserved
loop-preserved c = (omega arith, rw (spaces_next c.loop.counter) (puts_join c.loop.invariant.1 c.put_byte.ensures))

pub returns : goal.returns
returns c = let all : c.loop.counter ≡ c.args.count = omega arith in rw all at c.loop.invariant.1
