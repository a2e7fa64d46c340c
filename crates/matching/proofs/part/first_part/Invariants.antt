-- `matching::part::first_part` meets its contract: no part starts before the place at hand.
use Rattle.std.proofs.Common.{◌≡◌, [], length}
use Rattle.language.specs.Tree.{Tree}
use Rattle.tree.specs.Leaf.{Leaf, Matches}
use Rattle.tree.specs.Limits.{most_pieces}
use Rattle.tables.specs.Tables.{Prepared, Ready, Answered}
use Rattle.moving.specs.Remembered.{Remembers}
use Rattle.matching.specs.Found.{NoneBefore}
use Rattle.matching.proofs.part.first_part.Given as goal

abbrev pub invariant-loop-start : goal.invariant-loop-start
invariant-loop-start l = record {
  ready : Ready l.rows l.count;
  none_before : (t : Tree Leaf) → Prepared t l.rows l.count → NoneBefore (Matches l.classes t) l.text l.start;
  first_wide : length l.first ≡ most_pieces;
  answered : (t : Tree Leaf) → Prepared t l.rows l.count → Answered l.classes t [] l.first l.empty;
  wide : length l.words ≡ most_pieces;
  remembers : Remembers l.rows l.classes l.memo;
}
