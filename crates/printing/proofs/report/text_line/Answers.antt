-- `printing::report::text_line` meets its contract: its parts are printed one after the other.
use Rattle.printing.specs.PrinterLaws.{puts_join}
use Rattle.printing.proofs.report.text_line.Goals as goal

pub returns-then-yes : goal.returns-then-yes
returns-then-yes c =
    rw c.if-yes.true
    (puts_join (puts_join (puts_join c.put_number.ensures c.put.ensures) c.put_number-then-yes.ensures)
    c.put_byte.ensures)

pub returns-else-yes : goal.returns-else-yes
returns-else-yes c = rw c.if-yes.false (puts_join c.put_number.ensures c.put-else-yes.ensures)
