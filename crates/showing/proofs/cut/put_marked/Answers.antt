-- `showing::cut::put_marked` meets its contract: its parts are printed one after the other, and the spaces are as many
-- as the columns before the caret.
use Rattle.std.proofs.Common.{arith, ◌-◌, ◌≡◌, length}
use Rattle.printing.specs.PrinterLaws.{puts_join}
use Rattle.showing.specs.CutShort.{before_place}
use Rattle.showing.specs.ShownLaws.{spaces_length}
use Rattle.showing.specs.CutShortLaws.{marked_is, marked_parts}
use Rattle.showing.proofs.cut.put_marked.Goals as goal

pub put_before-requires-clause-room : goal.put_before-requires-clause-room
put_before-requires-clause-room c =
    omega (arith, marked_parts c.args.bytes.now c.args.place c.caret_place-under.result c.caret_place-under.ensures)

pub put_from-requires-clause-room : goal.put_from-requires-clause-room
put_from-requires-clause-room c =
    omega (arith, marked_parts c.args.bytes.now c.args.place c.caret_place-under.result c.caret_place-under.ensures)

pub put-requires : goal.put-requires
put-requires c =
    omega (arith, marked_parts c.args.bytes.now c.args.place c.caret_place-under.result c.caret_place-under.ensures)

pub put_spaces-requires : goal.put_spaces-requires
put_spaces-requires c =
    omega (
      arith,
      spaces_length (c.put_before.new.printer.at - c.args.printer.now.at),
      marked_parts c.args.bytes.now c.args.place c.caret_place-under.result c.caret_place-under.ensures,
    )

pub put-requires-2 : goal.put-requires-2
put-requires-2 c =
    omega (
      arith,
      spaces_length (c.put_before.new.printer.at - c.args.printer.now.at),
      marked_parts c.args.bytes.now c.args.place c.caret_place-under.result c.caret_place-under.ensures,
    )

pub returns : goal.returns
returns c =
    let columns : c.put_before.new.printer.at - c.args.printer.now.at
    ≡ length (before_place c.args.bytes.now c.caret_place-under.result) = omega arith in
    rw (marked_is c.args.bytes.now c.args.place c.caret_place-under.result
    (c.put_before.new.printer.at - c.args.printer.now.at) c.caret_place-under.ensures columns)
    (puts_join
    (puts_join
    (puts_join (puts_join c.put_before.ensures c.put_from.ensures) c.put.ensures)
    c.put_spaces.ensures)
    c.put-2.ensures)
