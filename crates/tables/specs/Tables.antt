-- The rows of a list, made once for many bytes and many texts, and what the words hold after a text.
use Rattle.std.specs.Prelude.{ℕ, ◌*◌, ◌≤◌, ◌≡◌, Bool, true, ◌↔◌, List, length}
use Rattle.language.specs.Tree.{Tree}
use Rattle.language.specs.Automaton.{Started, After}
use Rattle.language.specs.Nested.{Models}
use Rattle.tree.specs.Leaf.{Leaf, meaning, Matches}
use Rattle.tree.specs.Limits.{most_pieces}
use Rattle.tree.specs.Records.{piece_count}
use Rattle.tree.specs.Pieces.{cut_up}
use Rattle.tables.specs.Words.{Holds, Clean}
use Rattle.tables.specs.Plan.{row_words, Planned}

-- the rows are those of t: of its pieces
pub record Prepared (t : Tree Leaf) (rows : List ℕ) (count : ℕ) : Type 0 where
  pub planned : Planned rows (cut_up t)
  pub counted : count ≡ piece_count t
  pub few : piece_count t ≤ most_pieces

-- there is room for the rows of so many pieces
abbrev pub Roomy : (count : ℕ) → List ℕ → Type 0
Roomy count rows = row_words * count ≤ length rows

-- the rows are those of some tree
pub record Ready (rows : List ℕ) (count : ℕ) : Type 0 where
  pub roomy : Roomy count rows
  pub of_tree : (t : Tree Leaf) × Prepared t rows count

-- the words hold the marks of the plain simulation after the text w, and no bit past a last state
pub record Holding (classes : List ℕ) (t : Tree Leaf) (w words : List ℕ) : Type 0 where
  pub modelled : Models (cut_up t) (Holds (cut_up t) words)
      (After (meaning classes) t w (Started (meaning classes) t))
  pub clean : Clean (cut_up t) words

-- the words hold the marks after the text w, and `yes` says whether w is in the language
pub record Answered (classes : List ℕ) (t : Tree Leaf) (w words : List ℕ) (yes : Bool) : Type 0 where
  pub holding : Holding classes t w words
  pub answer : (yes ≡ true) ↔ Matches classes t w
