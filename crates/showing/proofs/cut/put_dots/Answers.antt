-- `showing::cut::put_dots` meets its contract: three dots, or nothing.
use Rattle.std.proofs.Common.{arith}
use Rattle.printing.specs.PrinterLaws.{puts_none}
use Rattle.showing.proofs.cut.put_dots.Goals as goal

pub returns-else-cut : goal.returns-else-cut
returns-else-cut c = rw c.if-cut.false (puts_none (omega arith))
