-- `drawing::marks::put_mark` meets its contract: a byte, and spaces up to the width of what stands above.
use Rattle.std.proofs.Common.{arith}
use Rattle.printing.specs.PrinterLaws.{puts_join}
use Rattle.record_line.specs.NodeLaws.{wide}
use Rattle.drawing.specs.Marks.{mark_at}
use Rattle.drawing.proofs.marks.put_mark.Goals as goal

pub overflow_sub-shown_width : goal.overflow_sub-shown_width
overflow_sub-shown_width c = omega (arith, (wide c.args.byte).some)

pub returns : goal.returns
unfolding mark_at
returns c = rw (← c.shown_width.ensures) (puts_join c.put_byte.ensures c.put_spaces.ensures)
