-- `writing::write_columns` meets its contract: the first columns are written.
use Rattle.std.proofs.Common.{◌+◌}
use Rattle.machines.specs.TableOf.{heading}
use Rattle.writing.specs.Filled.{RowsFilled, after_zero}
use Rattle.writing.specs.Written.{led_to}
use Rattle.writing.proofs.write_columns.Given as goal

abbrev pub invariant-loop-column : goal.invariant-loop-column
invariant-loop-column l =
    RowsFilled heading (1 + l.places.texts) l.column-counter (λ c. after_zero (led_to l.places l.room c)) l.initial.table l.table
