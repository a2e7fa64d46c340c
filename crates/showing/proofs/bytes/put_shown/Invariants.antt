-- `showing::bytes::put_shown` meets its contract: before each byte the bytes before it are printed.
use Rattle.std.proofs.Common.{take}
use Rattle.printing.specs.Printer.{Puts}
use Rattle.showing.specs.Shown.{shown}
use Rattle.showing.proofs.bytes.put_shown.Given as goal

abbrev pub invariant-loop-byte : goal.invariant-loop-byte
invariant-loop-byte l = Puts l.initial.printer (shown (take l.byte-index l.bytes)) l.printer
