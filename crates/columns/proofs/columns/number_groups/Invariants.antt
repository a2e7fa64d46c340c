-- `columns::columns::number_groups` meets its contract. The loop's invariant: the groups of the bytes before this one
-- are numbered.
use Rattle.columns.specs.ColumnNumbering.{ColumnsNumbered}
use Rattle.columns.proofs.columns.number_groups.Given as goal

abbrev pub invariant-loop-byte : goal.invariant-loop-byte
invariant-loop-byte l =
    ColumnsNumbered l.least l.byte l.firsts l.columns l.count
