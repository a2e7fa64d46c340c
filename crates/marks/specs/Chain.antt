-- A chain of calls: a start, then a step for each byte of a text, each from the words that the call before left.
use Rattle.std.specs.Prelude.{ℕ, ◌≡◌, true, ◌↔◌, List, [], ◌∷◌, ◌++◌, length, drop}
use Rattle.language.specs.Tree.{Tree}
use Rattle.tree.specs.Leaf.{Leaf, Matches}
use Rattle.tree.specs.Records.{piece_count}
use Rattle.tables.specs.Tables.{Holding}
use Rattle.marks.specs.Answer.{MarksNumbers, marking}
use Rattle.closing.specs.BitsOfWords.Zero.{AllZero}
use Rattle.marks.specs.Promise.{Starts, Steps}

-- from the words `before`, over the bytes of w: the last call gave back n and left the words `after`
pub data Chain (list classes before : List ℕ) : (w after : List ℕ) → MarksNumbers → Type 0 where
  begun : {after : List ℕ} {n : MarksNumbers} → Starts list classes before after n
      → Chain list classes before [] after n
  further : {w after later : List ℕ} {n m : MarksNumbers} {byte : ℕ} → Chain list classes before w after n
      → Steps list classes byte after later m → Chain list classes before (w ++ (byte ∷ [])) later m

-- the last call of a chain over w was not refused: it says whether w is in the language and whether nothing is left,
-- the words hold the marks after w, and those past the pieces are as before
pub record Follows (classes : List ℕ) (t : Tree Leaf) (w before after : List ℕ) (n : MarksNumbers) : Type 0 where
  pub marks : n ≡ marking n.accepting n.nothing
  pub answer : (n.accepting ≡ true) ↔ Matches classes t w
  pub left : (n.nothing ≡ true) ↔ AllZero (piece_count t) after
  pub holding : Holding classes t w after
  pub others : drop (piece_count t) after ≡ drop (piece_count t) before
  pub same_length : length after ≡ length before
