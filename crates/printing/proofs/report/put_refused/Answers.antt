-- `printing::report::put_refused` meets its contract: its parts are printed one after the other.
use Rattle.printing.specs.PrinterLaws.{puts_join}
use Rattle.printing.proofs.report.put_refused.Goals as goal

pub returns : goal.returns
returns c =
    rw (← c.from.ensures)
    (puts_join (puts_join (puts_join c.put.ensures c.put_number.ensures) c.put-2.ensures) c.put_number-2.ensures)
