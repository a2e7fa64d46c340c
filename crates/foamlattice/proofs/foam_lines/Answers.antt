-- `foamlattice::foam_lines` meets its contract: the numbers of `lines::lines` each fit their part of the word.
use Rattle.foamlattice.specs.LinesLaws.{lines_ranges}
use Rattle.foamlattice.proofs.foam_lines.Goals as goal

pub pack_lines-requires : goal.pack_lines-requires
pack_lines-requires c = lines_ranges c.lines.ensures
