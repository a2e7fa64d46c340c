-- `showing::bytes::put_spaces` meets its contract: before each turn so many spaces are printed.
use Rattle.std.proofs.Common.{◌≤◌}
use Rattle.printing.specs.Printer.{Puts}
use Rattle.showing.specs.Shown.{spaces}
use Rattle.showing.proofs.bytes.put_spaces.Given as goal

abbrev pub invariant-loop : goal.invariant-loop
invariant-loop l = (l.counter ≤ l.count) × Puts l.initial.printer (spaces l.counter) l.printer
