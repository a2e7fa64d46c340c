-- The program `pick`: what it prints, from the bytes that it reads.
use Rattle.std.specs.Prelude.{ℕ, ◌+◌, Bool, true, false, cond, List, [], ◌∷◌, ◌++◌, length, ltb}
use Rattle.language.specs.Tree.{Tree}
use Rattle.tree.specs.RefusalNumbers.{too_many_pieces}
use Rattle.tree.specs.Leaf.{Leaf}
use Rattle.tree.specs.Limits.{most_pieces}
use Rattle.tree.specs.Records.{piece_count}
use Rattle.operands.specs.Bytes.{first}
use Rattle.operands.specs.Scanner.{Outcome, tree, refused}
use Rattle.checker.specs.Expanded.{expanded}
use Rattle.checker.specs.Drawn.{drawn}
use Rattle.finder.specs.Decide.{matches}
use Rattle.printing.specs.OutputLimits.{longest_input}
use Rattle.printing.specs.ReportLines.{text_line, total_line, refusal_line, too_long_line}
use Rattle.input.specs.Lines.{lines, expression, texts}

-- a tree is refused with 8 where its cut has more than 128 pieces
abbrev pub refusing_many_pieces : Outcome (Tree Leaf) → Outcome (Tree Leaf)
refusing_many_pieces (tree t) = cond (ltb most_pieces (piece_count t)) (refused too_many_pieces 0) (tree t)
refusing_many_pieces (refused number place) = refused number place

-- what reading an expression of the first syntax comes to, where there is room for its records
abbrev pub reading_outcome : List ℕ → Outcome (Tree Leaf)
reading_outcome expr = refusing_many_pieces (drawn (expanded first expr))

-- the yes lines after one more text
abbrev pub yes_after : Bool → ℕ → ℕ
yes_after true yes_lines = yes_lines + 1
yes_after false yes_lines = yes_lines

-- whether a text matches a tree is given
module _ (matching : Tree Leaf → List ℕ → Bool) where
  -- the lines of the texts that are left, after so many texts and yes lines; then the last line
  unfoldable pub text_lines : Tree Leaf → (count yes_lines : ℕ) → List (List ℕ) → List ℕ
  text_lines t count yes_lines [] = total_line count yes_lines
  text_lines t count yes_lines (text ∷ later) =
      text_line (matching t text) (count + 1) (yes_lines + 1)
      ++ text_lines t (count + 1) (yes_after (matching t text) yes_lines) later

  -- what is printed for an expression's outcome and the texts
  abbrev pub reported : Outcome (Tree Leaf) → List (List ℕ) → List ℕ
  reported (tree t) later = text_lines t 0 0 later
  reported (refused number place) later = refusal_line number place

  -- what is printed for an input: with more than 65,536 bytes one line that says so
  unfoldable pub output : List ℕ → List ℕ
  output input =
      cond (ltb longest_input (length input)) too_long_line
      (reported (reading_outcome (expression (lines input))) (texts (lines input)))

-- the output of `pick`: the first syntax has no classes, so no class record is lent
abbrev pub picked : List ℕ → List ℕ
picked = output (matches [])
