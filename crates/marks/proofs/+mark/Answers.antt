-- The rows are enough for the pieces of so many records.
use Rattle.std.proofs.Common.{arith}
use Rattle.preparing.specs.Made.{few_records, some_records}
use Rattle.marks.proofs.+mark.Goals as goal

pub mark_in_rows-requires-clause-room : goal.mark_in_rows-requires-clause-room
mark_in_rows-requires-clause-room t c = λ x good. omega (arith, few_records c.args.list.now (omega arith) x good)

pub mark_in_rows-requires-then-slots-le-SOME_SLOTS-clause-room :
    goal.mark_in_rows-requires-then-slots-le-SOME_SLOTS-clause-room
mark_in_rows-requires-then-slots-le-SOME_SLOTS-clause-room t c = λ x good.
    omega (arith, some_records c.args.list.now (omega arith) x good)
