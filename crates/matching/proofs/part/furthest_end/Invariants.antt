-- `matching::part::furthest_end` meets its contract: at each end the words hold the marks after the part, and `best` is
-- the latest end so far.
use Rattle.std.proofs.Common.{◌≡◌, length}
use Rattle.language.specs.Tree.{Tree}
use Rattle.tree.specs.Limits.{most_pieces}
use Rattle.tree.specs.Leaf.{Leaf}
use Rattle.tables.specs.Tables.{Prepared, Ready}
use Rattle.moving.specs.Remembered.{Remembers}
use Rattle.matching.specs.Answering.{Looking}
use Rattle.matching.proofs.part.furthest_end.Given as goal

abbrev pub invariant-loop-end : goal.invariant-loop-end
invariant-loop-end l = record {
  wide : length l.words ≡ most_pieces;
  ready : Ready l.rows l.count;
  looking : (t : Tree Leaf) → Prepared t l.rows l.count → Looking l.classes t l.text l.start l.end l.words l.best;
  remembers : Remembers l.rows l.classes l.memo;
}
