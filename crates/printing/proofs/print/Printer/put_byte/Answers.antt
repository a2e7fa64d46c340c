-- `printing::print::Printer::put_byte` meets its contract: it stores one byte.
use Rattle.std.proofs.Common.{refl, rules}
use Rattle.printing.specs.PrintingLaws.{prints_byte}
use Rattle.printing.proofs.print.Printer.put_byte.Goals as goal

pub returns : goal.returns
returns c = record { same_buffer = refl; prints = prints_byte _ _ _ (search rules) }
