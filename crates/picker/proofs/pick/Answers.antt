-- `picker::pick` meets its contract: an input over 65,536 bytes has its one line, another one is reported by its lines.
use Rattle.std.proofs.Common.{[], arith}
use Rattle.finder.specs.Decide.{matches}
use Rattle.reporting.specs.OutputCases.{output_long, output_short}
use Rattle.picker.specs.OutputWritten.{wrote}
use Rattle.picker.proofs.pick.Goals as goal

pub returns-then-input-gt-LONGEST_INPUT : goal.returns-then-input-gt-LONGEST_INPUT
returns-then-input-gt-LONGEST_INPUT c =
    wrote (omega arith) (rw (output_long (matches []) c.args.input.now (omega arith)) c.too_long_line.ensures)

pub returns : goal.returns
returns c = wrote (omega arith) (rw (output_short (matches []) c.args.input.now (omega arith)) c.report_lines.ensures)
