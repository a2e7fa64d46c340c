-- `record_line::line::put_node` meets its contract: its parts are printed one after the other.
use Rattle.printing.specs.PrinterLaws.{puts_join}
use Rattle.record_line.specs.Node.{node_of}
use Rattle.record_line.proofs.line.put_node.Goals as goal

pub returns : goal.returns
unfolding node_of
returns c =
    rw (← c.kind_at.ensures, ← c.kind_word.ensures)
    (puts_join (puts_join c.put.ensures c.put_held.ensures) c.put-2.ensures)
