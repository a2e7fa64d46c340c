-- `record_line::line::put_column` meets its contract: the number, and spaces for what its digits leave.
use Rattle.std.proofs.Common.{arith, ◌≡◌, ◌-◌, length, length-append}
use Rattle.printing.specs.Digits.{digits}
use Rattle.printing.specs.PrinterLaws.{puts_join}
use Rattle.record_line.specs.Node.{column, column_width}
use Rattle.record_line.proofs.line.put_column.Goals as goal

pub put_spaces-requires : goal.put_spaces-requires
unfolding column
put_spaces-requires c =
    let left : c.saturating_sub.result ≡ column_width - length (digits c.args.n) = omega arith in
    rw left (omega (arith, simp length-append at c.requires))

pub returns : goal.returns
unfolding column
returns c =
    let left : c.saturating_sub.result ≡ column_width - length (digits c.args.n) = omega arith in
    rw (← left) (puts_join c.put_number.ensures c.put_spaces.ensures)
