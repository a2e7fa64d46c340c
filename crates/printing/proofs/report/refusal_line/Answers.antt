-- `printing::report::refusal_line` meets its contract: its parts are printed one after the other.
use Rattle.printing.specs.PrinterLaws.{puts_join}
use Rattle.printing.proofs.report.refusal_line.Goals as goal

pub returns : goal.returns
returns c = puts_join c.put_refused.ensures c.put.ensures
