-- What is printed for an input that is too long, and for another.
use Rattle.std.specs.Prelude.{ℕ, ◌≤◌, ◌<◌, ◌≡◌, Bool, List, length}
use Rattle.std.proofs.Common.{lt-ltb, le-ltb}
use Rattle.language.specs.Tree.{Tree}
use Rattle.tree.specs.Leaf.{Leaf}
use Rattle.input.specs.Lines.{lines, expression, texts}
use Rattle.printing.specs.OutputLimits.{longest_input}
use Rattle.printing.specs.ReportLines.{too_long_line}
use Rattle.reporting.specs.Print.{reading_outcome, reported, output}

-- an input over 65,536 bytes has that one line
pub output_long : (matching : Tree Leaf → List ℕ → Bool) (input : List ℕ) → longest_input < length input
    → output matching input ≡ too_long_line
unfolding output
output_long matching input h = rw (lt-ltb longest_input (length input) h)

-- another one is reported by its lines
pub output_short : (matching : Tree Leaf → List ℕ → Bool) (input : List ℕ) → length input ≤ longest_input
    → output matching input ≡ reported matching (reading_outcome (expression (lines input))) (texts (lines input))
unfolding output
output_short matching input h = rw (le-ltb longest_input (length input) h)
