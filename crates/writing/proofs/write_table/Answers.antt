-- `writing::write_table` meets its contract: the four parts, one after the other, make the table.
use Rattle.std.proofs.Common.{arith, rules, refl, ◌≡◌, ◌+◌, ◌*◌}
use Rattle.running.specs.Runs.{accepting_column}
use Rattle.writing.specs.Written.{accepted}
use Rattle.writing.specs.FilledLaws.{filled_none, filled_next}
use Rattle.writing.specs.WrittenLaws.{written, ends_fit, value_there, values_fit}
use Rattle.writing.proofs.write_table.Goals as goal

pub returns : goal.returns
returns c =
    let args = c.args in
    written args.places args.columns.now args.room.now c.write_begins.ensures
    (filled_next accepting_column c.begin_of.result filled_none refl
    (omega (arith, ends_fit c.requires, c.write_begins.ensures.same_length)) c.begin_of.ensures)
    c.write_columns.ensures
    (c.write_column.ensures (accepted args.places args.room.now) (λ i r low told. search rules))

pub write_columns-requires-clause-values_there : goal.write_columns-requires-clause-values_there
write_columns-requires-clause-values_there c = λ column text inside there.
    let p = c.args.places in
    let one = value_there p.columns p.texts column text inside there in
    let place : p.entries + (column + p.columns * text) ≡ p.entries + column + p.columns * text = omega arith in
    (omega (arith, one, c.requires.entries_there), rw place at (values_fit c.requires (column + p.columns * text) one))
