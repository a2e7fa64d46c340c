-- `drawing::put_gap` meets its contract: nothing is printed where the pieces are the same.
use Rattle.std.proofs.Common.{arith, eq-eqb}
use Rattle.printing.specs.PrinterLaws.{puts_none}
use Rattle.drawing.proofs.put_gap.Goals as goal

pub returns-else-above-piece : goal.returns-else-above-piece
returns-else-above-piece c =
    rw (eq-eqb c.args.above c.args.piece c.if-above-piece.false) (puts_none (omega arith))
