-- `record_line::node::put_held` meets its contract: a record of another kind holds nothing.
use Rattle.std.proofs.Common.{arith}
use Rattle.printing.specs.PrinterLaws.{puts_none}
use Rattle.record_line.specs.NodeLaws.{holds_nothing}
use Rattle.record_line.proofs.node.put_held.Goals as goal

pub returns-else-this-lt6 : goal.returns-else-this-lt6
returns-else-this-lt6 c = rw (holds_nothing c.args.list.now c.args.i (omega arith)) (puts_none (omega arith))
