-- `record_line::line::put_numbers` meets its contract: three columns, one after the other.
use Rattle.printing.specs.PrinterLaws.{puts_join}
use Rattle.record_line.specs.Node.{numbers_of}
use Rattle.record_line.proofs.line.put_numbers.Goals as goal

pub returns : goal.returns
unfolding numbers_of
returns c =
    rw (← c.piece_at.ensures, ← c.place_at.ensures)
    (puts_join (puts_join c.put_column.ensures c.put_column-2.ensures) c.put_column-3.ensures)
