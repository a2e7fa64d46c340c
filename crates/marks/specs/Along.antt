-- Steps along many bytes of a good list: each is made from marks and makes marks, so none after the first can be
-- refused, and where nothing is left or something is refused, one more byte changes nothing.
use Rattle.std.specs.Prelude.{ℕ, ◌≤◌, ◌≡◌, Bool, true, ◌↔◌, List, length}
use Rattle.language.specs.Tree.{Tree}
use Rattle.language.specs.Automaton.{accepting}
use Rattle.tree.specs.Leaf.{Leaf}
use Rattle.tree.specs.Records.{Good, piece_count}
use Rattle.tree.specs.Pieces.{cut_up}
use Rattle.tables.specs.Words.{SetOf}
use Rattle.closing.specs.BitsOfWords.Zero.{AllZero}
use Rattle.stepping.specs.Hold.{MarksOf}
use Rattle.tables.specs.Tables.{Ready}
use Rattle.marks.specs.Answer.{marking}
use Rattle.marks.specs.Promise.{Classed}
use Rattle.marks.specs.StepsEach.{StepsEach}

-- a step from the words is not refused
pub record Steppable (list classes : List ℕ) (t : Tree Leaf) (words : List ℕ) : Type 0 where
  pub good : Good list t
  pub classed : Classed classes t
  pub enough : piece_count t ≤ length words
  pub marks : MarksOf t words

-- what is told of marks: whether the accepting state is among them, and whether there are none
pub record ToldOf (t : Tree Leaf) (words : List ℕ) (yes' nothing : Bool) : Type 0 where
  pub answer : (yes' ≡ true) ↔ SetOf (cut_up t) words accepting
  pub left : (nothing ≡ true) ↔ AllZero (piece_count t) words

-- the rows are those of a tree of which the words are marks
pub record Walkable (rows : List ℕ) (count : ℕ) (words : List ℕ) : Type 0 where
  pub ready : Ready rows count
  pub enough : count ≤ length words
  pub marks : MarksOf ready.of_tree.0 words

-- the steps along the bytes of w are made, and what is told of the marks that they leave
pub record WentAlong (list classes : List ℕ) (t : Tree Leaf) (before w after : List ℕ) (yes' nothing : Bool) : Type 0
  where
    pub each : StepsEach list classes before w after (marking yes' nothing)
    pub able : Steppable list classes t after
    pub told : ToldOf t after yes' nothing
