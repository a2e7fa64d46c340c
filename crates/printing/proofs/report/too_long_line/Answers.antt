-- `printing::report::too_long_line` meets its contract: the line is printed at the front.
use Rattle.std.proofs.Common.{rules, arith, ap, length}
use Rattle.printing.specs.PrinterLaws.{puts_front}
use Rattle.printing.proofs.report.too_long_line.Goals as goal

pub put-requires : goal.put-requires
put-requires c = omega (arith, c.new-printer.ensures.front, ap length c.new-printer.ensures.front.0)

pub returns : goal.returns
returns c = puts_front c.new-printer.ensures.front c.put.ensures (search rules)
