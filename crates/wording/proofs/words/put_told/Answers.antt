-- `wording::words::put_told` meets its contract: its parts are printed one after the other.
use Rattle.printing.specs.PrinterLaws.{puts_join}
use Rattle.wording.specs.RefusalWords.{told_line}
use Rattle.wording.proofs.words.put_told.Goals as goal

pub returns : goal.returns
unfolding told_line
returns c =
    rw (← c.words.ensures, ← c.from.ensures)
    (puts_join
    (puts_join
    (puts_join
    (puts_join (puts_join (puts_join c.put.ensures c.put_number.ensures) c.put-2.ensures) c.put_number-2.ensures)
    c.put-3.ensures)
    c.put-4.ensures)
    c.put-5.ensures)
