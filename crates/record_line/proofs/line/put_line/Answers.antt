-- `record_line::line::put_line` meets its contract: its parts are printed one after the other.
use Rattle.printing.specs.PrinterLaws.{puts_join}
use Rattle.record_line.specs.Node.{record_line}
use Rattle.record_line.proofs.line.put_line.Goals as goal

pub returns : goal.returns
unfolding record_line
returns c = puts_join (puts_join c.put_numbers.ensures c.put_spaces.ensures) c.put_node.ensures
