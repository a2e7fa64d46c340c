-- The invariant of `picker::texts::texts`: before each text the lines printed so far, with those still to come, are the
-- whole output.
use Rattle.std.proofs.Common.{[]}
use Rattle.std.specs.Prelude.{⊤, MatchOption}
use Rattle.language.specs.Tree.{Tree}
use Rattle.tree.specs.Leaf.{Leaf}
use Rattle.tables.specs.Tables.{Prepared}
use Rattle.choosing.specs.TableChoice.{AcceptsLanguage}
use Rattle.finder.specs.Decide.{matches}
use Rattle.input.specs.Left.{lines_left}
use Rattle.picker.specs.Loop.{SpaceLeft, PrintedSoFar}
use Rattle.picker.proofs.texts.texts.Given as goal

abbrev pub invariant-loop-text : goal.invariant-loop-text
invariant-loop-text l = record {
  space : SpaceLeft (lines_left l.text-iterator) l.count l.yes l.printer;
  printed : (t : Tree Leaf) → Prepared t l.rows l.pieces
      → MatchOption l.table ⊤ (λ made. AcceptsLanguage [] t made.now)
      → PrintedSoFar (matches []) t (lines_left l.fn.lines) l.initial.printer (lines_left l.text-iterator) l.count l.yes
      l.printer;
}
