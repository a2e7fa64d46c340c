-- `drawing::draw` meets its contract: its parts are printed one after the other.
use Rattle.std.proofs.Common.{arith}
use Rattle.printing.specs.PrinterLaws.{puts_join}
use Rattle.record_line.specs.NodeLaws.{AllBytes}
use Rattle.drawing.specs.Drawing.{drawing}
use Rattle.drawing.specs.DrawingLaws.{parts_length}
use Rattle.drawing.proofs.draw.Goals as goal

pub put_shown-requires : goal.put_shown-requires
put_shown-requires c =
    let small : AllBytes c.args.list.now = λ j. omega (arith, c.type_inv.list j) in
    omega (arith, parts_length c.args.rule.now c.args.list.now c.args.records small c.requires.few c.requires.short)

pub put-requires : goal.put-requires
put-requires c =
    let small : AllBytes c.args.list.now = λ j. omega (arith, c.type_inv.list j) in
    omega (arith, parts_length c.args.rule.now c.args.list.now c.args.records small c.requires.few c.requires.short)

pub put_marks-requires-clause-room : goal.put_marks-requires-clause-room
put_marks-requires-clause-room c =
    let small : AllBytes c.args.list.now = λ j. omega (arith, c.type_inv.list j) in
    omega (arith, parts_length c.args.rule.now c.args.list.now c.args.records small c.requires.few c.requires.short)

pub put-requires-2 : goal.put-requires-2
put-requires-2 c =
    let small : AllBytes c.args.list.now = λ j. omega (arith, c.type_inv.list j) in
    omega (arith, parts_length c.args.rule.now c.args.list.now c.args.records small c.requires.few c.requires.short)

pub put_records-requires-clause-room : goal.put_records-requires-clause-room
put_records-requires-clause-room c =
    let small : AllBytes c.args.list.now = λ j. omega (arith, c.type_inv.list j) in
    omega (arith, parts_length c.args.rule.now c.args.list.now c.args.records small c.requires.few c.requires.short)

pub returns : goal.returns
unfolding drawing
returns c =
    puts_join
    (puts_join
    (puts_join (puts_join c.put_shown.ensures c.put.ensures) c.put_marks.ensures)
    c.put-2.ensures)
    c.put_records.ensures
