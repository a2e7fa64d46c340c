-- An input over 65,536 bytes has its one line, of another its first line counts.
use Rattle.std.proofs.Common.{rules, arith, refl, ap, ◌∙◌, length}
use Rattle.input.specs.First.{first_given}
use Rattle.printing.specs.PrinterLaws.{puts_front}
use Rattle.pick.specs.Said.{said_of_expression}
use Rattle.pick.specs.SaidLaws.{said_long, said_short}
use Rattle.pick.proofs.Told.{says}
use Rattle.pick.proofs.put_said.Goals as goal

pub put-requires : goal.put-requires
put-requires c = omega (arith, c.new-printer.ensures.front, ap length c.new-printer.ensures.front.0)

pub returns-then-input-gt-LONGEST_INPUT : goal.returns-then-input-gt-LONGEST_INPUT
returns-then-input-gt-LONGEST_INPUT c =
    says (said_long c.args.input.now (omega (arith, c.if-input-gt-LONGEST_INPUT.true)))
    (puts_front c.new-printer.ensures.front c.put.ensures (search rules))

pub returns : goal.returns
returns c =
    let first = first_given _ c.of.result c.next.new.self _ _ _ c.of.ensures c.next.ensures.steps
    c.unwrap_or-expression.ensures refl in
    says
    (said_short c.args.input.now (omega (arith, c.if-input-gt-LONGEST_INPUT.false))
    ∙ ap said_of_expression first.is_expression)
    c.put_refusal.ensures
