-- What the program says on standard error, from the bytes that it reads: why an input is refused, and nothing else.
use Rattle.std.specs.Prelude.{ℕ, cond, List, [], length, ltb}
use Rattle.language.specs.Tree.{Tree}
use Rattle.tree.specs.Leaf.{Leaf}
use Rattle.operands.specs.Text.{bytes}
use Rattle.operands.specs.Scanner.{Outcome, tree, refused}
use Rattle.printing.specs.OutputLimits.{longest_input}
use Rattle.input.specs.Lines.{lines, expression}
use Rattle.reporting.specs.Print.{reading_outcome}
use Rattle.showing.specs.Refusal.{refusal_lines}

-- of an expression's outcome: the three lines of its refusal, nothing of a tree
abbrev pub said_of : List ℕ → Outcome (Tree Leaf) → List ℕ
said_of bytes (tree t) = []
said_of bytes (refused number place) = refusal_lines bytes number place

-- of an expression: its outcome is the one that the output has
abbrev pub said_of_expression : List ℕ → List ℕ
said_of_expression bytes = said_of bytes (reading_outcome bytes)

-- the only line for an input that is too long
abbrev pub too_long_said : List ℕ
too_long_said = bytes "refused: the input has more than 65,536 bytes\n"

-- of an input
unfoldable pub said : List ℕ → List ℕ
said input = cond (ltb longest_input (length input)) too_long_said (said_of_expression (expression (lines input)))
