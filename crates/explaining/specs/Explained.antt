-- The program `explain`: what it prints, from the bytes that it reads. The first line is a rule of the second syntax;
-- what follows it is left aside.
use Rattle.std.specs.Prelude.{ℕ, cond, List, length, ltb}
use Rattle.language.specs.Tree.{Tree, nodes}
use Rattle.tree.specs.RefusalNumbers.{too_many_pieces}
use Rattle.tree.specs.Records.{encode}
use Rattle.tree.specs.Places.{with_places}
use Rattle.operands.specs.Bytes.{second}
use Rattle.operands.specs.Scanner.{Atom, Outcome, tree, refused}
use Rattle.checker.specs.Expanded.{expanded}
use Rattle.checker.specs.Drawn.{recorded}
use Rattle.checker.specs.Checked.{too_many}
use Rattle.reader.specs.PlacesIn.{places_in}
use Rattle.printing.specs.OutputLimits.{longest_input}
use Rattle.input.specs.Lines.{lines, expression}
use Rattle.printing.specs.ReportLines.{too_long_line}
use Rattle.showing.specs.Refusal.{refusal_lines}
use Rattle.drawing.specs.Drawing.{drawing, most_drawn}

-- how many bytes of a buffer are always enough
abbrev pub most_explained : ℕ
most_explained = most_drawn

-- the records of a rule that has this tree, with their places
abbrev pub records_of : (rule : List ℕ) → Tree Atom → List ℕ
records_of rule t = with_places (places_in second rule) (encode (recorded t))

-- what is printed for a rule's outcome: its refusal, 8 where the cut has more than 128 pieces, or its records drawn
abbrev pub explained_for : (rule : List ℕ) → Outcome (Tree Atom) → List ℕ
explained_for rule (refused number place) = refusal_lines rule number place
explained_for rule (tree t) =
    cond (too_many t) (refusal_lines rule too_many_pieces 0) (drawing rule (records_of rule t) (nodes (recorded t)))

-- what is printed for a rule
unfoldable pub explained_rule : (rule : List ℕ) → List ℕ
explained_rule rule = explained_for rule (expanded second rule)

-- what is printed for an input: with more than 65,536 bytes one line that says so
unfoldable pub explained : (input : List ℕ) → List ℕ
explained input =
    cond (ltb longest_input (length input)) too_long_line (explained_rule (expression (lines input)))
