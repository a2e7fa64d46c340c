-- `writing::write_columns` meets its contract.
use Rattle.std.proofs.Common.{arith, rules}
use Rattle.writing.specs.FilledLaws.{rows_next}
use Rattle.writing.specs.Written.{led_to}
use Rattle.writing.proofs.write_columns.Goals as goal

pub loop-column-preserved : goal.loop-column-preserved
loop-column-preserved c =
    rows_next c.loop-column.invariant
    (c.write_column.ensures (led_to c.args.places.now c.args.room.now c.loop-column.column-counter) (λ i r low told. search rules))

pub write_column-requires-clause-by_index : goal.write_column-requires-clause-by_index
write_column-requires-clause-by_index c = λ i low.
    let there = c.requires.values_there c.loop-column.column-counter i (omega arith) low in
    search rules
