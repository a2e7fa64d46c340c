-- How long the output can be: at most 1,048,575 bytes, so that it fits in 2 to the 20.
use Rattle.std.specs.Prelude.{ℕ, ◌+◌, ◌*◌, ◌-◌, ◌≤◌, ◌<◌, ◌≡◌, refl, Bool, true, false, cond, length, ltb}
use mathlib.Core.List.{List, [], ◌∷◌}
use Rattle.std.proofs.Math.Decide.{dec_lt}
use native.Mathlib.Omega.{arith}
use Rattle.std.proofs.Math.ListN.{length-append}
use Rattle.language.specs.Tree.{Tree}
use Rattle.tree.specs.RefusalNumbers.{too_many_pieces}
use Rattle.tree.specs.Leaf.{Leaf}
use Rattle.tree.specs.Limits.{most_pieces}
use Rattle.tree.specs.Records.{piece_count}
use Rattle.operands.specs.Bytes.{first}
use Rattle.operands.specs.Scanner.{Outcome, tree, refused}
use Rattle.checker.specs.Expanded.{expanded}
use Rattle.checker.specs.Drawn.{drawn}
use Rattle.checker.specs.DrawnLaws.{first_drawn_size, first_drawn_refusal}
use Rattle.input.specs.Lines.{lines, expression, texts}
use Rattle.input.proofs.LineLaws.{texts_count}
use Rattle.printing.specs.DigitLaws.{digits_length}
use Rattle.printing.specs.OutputLimits.{longest_input, most_output}
use Rattle.printing.specs.ReportLines.{text_line, total_line, refusal_line}
use Rattle.reporting.specs.Print.{refusing_many_pieces, yes_after, text_lines, reported, output}
use Rattle.reporting.specs.OutputCases.{output_long, output_short}

-- a text's line has at most 16 bytes
pub text_line_length : (test : Bool) (number rank : ℕ) → number < 100000 → rank < 100000
    → length (text_line test number rank) ≤ 16
text_line_length true number rank h k =
    simp length-append (omega (arith, digits_length 4 number h, digits_length 4 rank k))
text_line_length false number rank h k = simp length-append (omega (arith, digits_length 4 number h))

-- the last line has at most 31
pub total_line_length : (count yes_lines : ℕ) → count < 100000 → yes_lines ≤ count → length (total_line count yes_lines)
    ≤ 31
total_line_length count yes_lines h k =
    simp length-append
    (omega (
      arith,
      digits_length 4 count h,
      digits_length 4 yes_lines (omega arith),
      digits_length 4 (count - yes_lines) (omega arith),
    ))

-- a refusal has at most 18
pub refusal_line_length : (number place : ℕ) → number < 10 → place < 10000 → length (refusal_line number place) ≤ 18
refusal_line_length number place h k =
    simp length-append (omega (arith, digits_length 0 number h, digits_length 3 place k))

-- the yes lines are never more than the texts
pub yes_after_most : (test : Bool) (count yes_lines : ℕ) → yes_lines ≤ count → yes_after test yes_lines ≤ count + 1
yes_after_most true count yes_lines h = omega arith
yes_after_most false count yes_lines h = omega arith

module _ (matching : Tree Leaf → List ℕ → Bool) where
  -- 16 bytes at most for each text that is left, and 31 for the last line
  pub text_lines_length : (t : Tree Leaf) (later : List (List ℕ)) (count yes_lines : ℕ) → yes_lines ≤ count
      → count + length later < 100000 → length (text_lines matching t count yes_lines later) ≤ 16 * length later + 31
  unfolding text_lines
  text_lines_length t [] count yes_lines h k = omega (arith, total_line_length count yes_lines (omega arith) h)
  text_lines_length t (text ∷ later) count yes_lines h k =
      rw length-append
      (omega (
        arith,
        text_line_length (matching t text) (count + 1) (yes_lines + 1) (omega arith) (omega arith),
        text_lines_length t later (count + 1) (yes_after (matching t text) yes_lines)
            (yes_after_most (matching t text) count yes_lines h) (omega arith),
      ))

  -- an expression that is read has a byte, so there are at most 65,534 texts
  reported_length : (expr : List ℕ) (outcome : Outcome (Tree Leaf)) → drawn (expanded first expr) ≡ outcome
      → (later : List (List ℕ))
      → length later ≤ longest_input - (length expr + 1)
      → length (reported matching (refusing_many_pieces outcome) later) ≤ most_output
  reported_length expr (refused number place) e later h =
      let bounds = first_drawn_refusal expr number place e in
      omega (arith, refusal_line_length number place (omega (arith, bounds)) (omega (arith, bounds)))
  reported_length expr (tree t) e later h = either (ltb most_pieces (piece_count t))
    where
      either : (test : Bool)
          → length (reported matching (cond test (refused too_many_pieces 0) (tree t)) later) ≤ most_output
      either true = omega (arith, refusal_line_length too_many_pieces 0 (omega arith) (omega arith))
      either false =
          let long = first_drawn_size expr t e in
          omega (arith, text_lines_length t later 0 0 (omega arith) (omega (arith, long)), long)

  -- the whole output has at most 1,048,575 bytes
  pub output_length : (input : List ℕ) → length (output matching input) ≤ most_output
  output_length input =
      elim (dec_lt longest_input (length input)) [
        | yes h ↦ rw (output_long matching input h) (omega arith)
        | no h ↦
            rw (output_short matching input (omega arith))
            (reported_length (expression (lines input)) (drawn (expanded first (expression (lines input)))) refl
            (texts (lines input))
            (omega (arith, texts_count input)))
      ]
