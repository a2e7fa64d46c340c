-- `explaining::explain` meets its contract: an input over 65,536 bytes has its one line, of another one the first line
-- is explained.
use Rattle.std.proofs.Common.{arith, refl}
use Rattle.input.specs.First.{first_given}
use Rattle.explaining.specs.Rule.{wrote, explained_long, explained_short}
use Rattle.explaining.proofs.explain.Goals as goal

pub returns-then-input-gt-LONGEST_INPUT : goal.returns-then-input-gt-LONGEST_INPUT
returns-then-input-gt-LONGEST_INPUT c =
    wrote (omega arith) (rw (explained_long c.args.input.now (omega arith)) c.too_long_line.ensures)

pub returns : goal.returns
returns c =
    let first = first_given _ c.of.result c.next.new.self _ _ _ c.of.ensures c.next.ensures.steps c.unwrap_or-rule.ensures refl in
    wrote (omega arith)
    (rw (explained_short c.args.input.now (omega arith), first.is_expression) c.explain_rule.ensures)
