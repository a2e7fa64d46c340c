-- `record_line::node::put_pair` meets its contract: its parts are printed one after the other.
use Rattle.printing.specs.PrinterLaws.{puts_join}
use Rattle.record_line.specs.Node.{pair}
use Rattle.record_line.proofs.node.put_pair.Goals as goal

pub returns : goal.returns
unfolding pair
returns c = puts_join (puts_join c.put_number.ensures c.put.ensures) c.put_number-2.ensures
