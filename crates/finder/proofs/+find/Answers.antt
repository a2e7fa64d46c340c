-- The rows are enough for the pieces of so many records.
use Rattle.std.proofs.Common.{arith}
use Rattle.preparing.specs.Made.{few_records, some_records}
use Rattle.finder.proofs.+find.Goals as goal

pub find_in_rows-requires-clause-room : goal.find_in_rows-requires-clause-room
find_in_rows-requires-clause-room t c = λ x good. omega (arith, few_records c.args.list.now (omega arith) x good)

pub find_in_rows-requires-then-slots-le-SOME_SLOTS-clause-room :
    goal.find_in_rows-requires-then-slots-le-SOME_SLOTS-clause-room
find_in_rows-requires-then-slots-le-SOME_SLOTS-clause-room t c = λ x good.
    omega (arith, some_records c.args.list.now (omega arith) x good)
