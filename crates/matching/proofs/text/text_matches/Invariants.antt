-- `matching::text::text_matches` meets its contract: before each byte the words hold the marks after those before it,
-- and `yes` says whether these are in the language.
use Rattle.std.proofs.Common.{◌≡◌, length, take}
use Rattle.language.specs.Tree.{Tree}
use Rattle.tree.specs.Limits.{most_pieces}
use Rattle.tree.specs.Leaf.{Leaf}
use Rattle.tables.specs.Tables.{Prepared, Ready, Answered}
use Rattle.moving.specs.Remembered.{Remembers}
use Rattle.matching.proofs.text.text_matches.Given as goal

abbrev pub invariant-loop-byte : goal.invariant-loop-byte
invariant-loop-byte l = record {
  wide : length l.words ≡ most_pieces;
  ready : Ready l.rows l.count;
  answered : (t : Tree Leaf) → Prepared t l.rows l.count
      → Answered l.classes t (take l.byte-index l.text) l.words l.yes;
  remembers : Remembers l.rows l.classes l.memo;
}
