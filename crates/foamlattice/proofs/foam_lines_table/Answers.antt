-- `foamlattice::foam_lines_table` meets its contract: the numbers of `table_lines::lines_by_table` each fit their part
-- of the word.
use Rattle.foamlattice.specs.LinesLaws.{table_lines_ranges}
use Rattle.foamlattice.proofs.foam_lines_table.Goals as goal

pub pack_lines-requires : goal.pack_lines-requires
pack_lines-requires c = table_lines_ranges c.lines_by_table.ensures
