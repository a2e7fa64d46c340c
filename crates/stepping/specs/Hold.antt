-- Words that hold a set of states, and words that are marks.
use Rattle.std.specs.Prelude.{ℕ, ◌≡◌, List, length, drop}
use Rattle.language.specs.Tree.{Tree}
use Rattle.language.specs.Automaton.{States}
use Rattle.language.specs.Nested.{Models}
use Rattle.tree.specs.Leaf.{Leaf}
use Rattle.tree.specs.Records.{piece_count}
use Rattle.tree.specs.Pieces.{cut_up}
use Rattle.tables.specs.Words.{Holds, Clean, Agreeing}

-- the words hold the set X of states of t's automaton: one word for each piece, no bit past a last state; the words
-- past the pieces are as before
pub record Hold (t : Tree Leaf) (X : States) (before after : List ℕ) : Type 0 where
  pub marks : Models (cut_up t) (Holds (cut_up t) after) X
  pub clean : Clean (cut_up t) after
  pub others : drop (piece_count t) after ≡ drop (piece_count t) before
  pub same_length : length after ≡ length before

-- the words are marks of t: no bit past a last state is set, and the two bits of each shared state agree
pub record MarksOf (t : Tree Leaf) (words : List ℕ) : Type 0 where
  pub clean : Clean (cut_up t) words
  pub agreeing : Agreeing (cut_up t) words
