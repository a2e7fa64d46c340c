-- `printing::report::total_line` meets its contract: its parts are printed one after the other.
use Rattle.printing.specs.PrinterLaws.{puts_join}
use Rattle.printing.proofs.report.total_line.Goals as goal

pub returns : goal.returns
returns c =
    puts_join
    (puts_join
    (puts_join
    (puts_join (puts_join (puts_join c.put.ensures c.put_number.ensures) c.put-2.ensures) c.put_number-2.ensures)
    c.put-3.ensures)
    c.put_number-3.ensures)
    c.put-4.ensures
