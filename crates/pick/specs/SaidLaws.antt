-- What is said follows from what a check answers, and from the first line.
use Rattle.std.specs.Prelude.{ℕ, ◌≤◌, ◌<◌, ◌≡◌, refl, Bool, true, false, cond, List, [], length}
use Rattle.std.proofs.Common.{ap, arith, lt-ltb, le-ltb}
use Rattle.language.specs.Tree.{Tree}
use Rattle.tree.specs.RefusalNumbers.{too_many_pieces}
use Rattle.tree.specs.Lengths.{nodes_positive}
use Rattle.operands.specs.Bytes.{first}
use Rattle.operands.specs.Scanner.{Atom, Outcome, tree, refused}
use Rattle.checker.specs.Expanded.{expanded}
use Rattle.checker.specs.Drawn.{recorded, drawn}
use Rattle.checker.specs.DrawnLaws.{first_drawn_refusal}
use Rattle.checker.specs.Checked.{
  CountedNumbers,
  refusing_counts,
  counting,
  too_many,
  checked_for,
  checked,
  counted_numbers,
  counted_as,
}
use Rattle.printing.specs.OutputLimits.{longest_input}
use Rattle.input.specs.Lines.{lines, expression}
use Rattle.reporting.specs.Print.{refusing_many_pieces}
use Rattle.showing.specs.Refusal.{most_shown, refusal_lines, lent_refusal}
use Rattle.pick.specs.Said.{said_of, said_of_expression, too_long_said, said}

-- a tree of at most 128 pieces has records, so a refusal is given where it has more
refused_tree : (t : Tree Atom) (number place : ℕ) (many : Bool)
    → refusing_counts number place ≡ cond many (refusing_counts too_many_pieces 0) (counting t)
    → cond many (refused too_many_pieces 0) (tree (recorded t)) ≡ refused number place
refused_tree t number place true e =
    rw (ap (λ (n : CountedNumbers). n.refusal) e, ap (λ (n : CountedNumbers). n.place) e)
refused_tree t number place false e =
    absurd (omega (arith, nodes_positive (recorded t), ap (λ (n : CountedNumbers). n.records) e))

refused_for : (number place : ℕ) (outcome : Outcome (Tree Atom))
    → refusing_counts number place ≡ checked_for outcome → refusing_many_pieces (drawn outcome) ≡ refused number place
refused_for number place (refused number' place') e =
    rw (ap (λ (n : CountedNumbers). n.refusal) e, ap (λ (n : CountedNumbers). n.place) e)
refused_for number place (tree t) e = refused_tree t number place (too_many t) e

-- where a check refuses an expression, the lines of that refusal are said
pub said_refused : (bytes : List ℕ) (number place : ℕ) → refusing_counts number place ≡ checked first bytes
    → said_of_expression bytes ≡ refusal_lines bytes number place
said_refused bytes number place e = ap (said_of bytes) (refused_for number place (expanded first bytes) e)

-- a tree that is counted has at most 128 pieces
counted_tree : (bytes : List ℕ) (t : Tree Atom) (records pieces classes : ℕ) (many : Bool)
    → counted_numbers (counted_as records pieces classes) ≡ cond many (refusing_counts too_many_pieces 0) (counting t)
    → said_of bytes (cond many (refused too_many_pieces 0) (tree (recorded t))) ≡ []
counted_tree bytes t records pieces classes true e =
    absurd (omega (arith, ap (λ (n : CountedNumbers). n.refusal) e))
counted_tree bytes t records pieces classes false e = refl

counted_for : (bytes : List ℕ) (records pieces classes : ℕ) (outcome : Outcome (Tree Atom))
    → expanded first bytes ≡ outcome
    → counted_numbers (counted_as records pieces classes) ≡ checked_for outcome
    → said_of bytes (refusing_many_pieces (drawn outcome)) ≡ []
counted_for bytes records pieces classes (refused number place) scans e =
    absurd (omega (
      arith,
      (first_drawn_refusal bytes number place (ap drawn scans)).least,
      ap (λ (n : CountedNumbers). n.refusal) e,
    ))
counted_for bytes records pieces classes (tree t) scans e = counted_tree bytes t records pieces classes (too_many t) e

-- where a check counts, nothing is said
pub said_counted : (bytes : List ℕ) (records pieces classes : ℕ)
    → counted_numbers (counted_as records pieces classes) ≡ checked first bytes → said_of_expression bytes ≡ []
said_counted bytes records pieces classes e = counted_for bytes records pieces classes (expanded first bytes) refl e

-- a buffer that is long enough gets all lines of a refusal
pub lent_whole : (room : ℕ) (bytes : List ℕ) (number place : ℕ) → most_shown ≤ room
    → lent_refusal room bytes number place ≡ refusal_lines bytes number place
lent_whole room bytes number place h = rw (le-ltb room most_shown h)

-- of an input over 65,536 bytes that is said
pub said_long : (input : List ℕ) → longest_input < length input → said input ≡ too_long_said
unfolding said
said_long input h = rw (lt-ltb longest_input (length input) h)

-- of another what is said of its first line
pub said_short : (input : List ℕ) → length input ≤ longest_input
    → said input ≡ said_of_expression (expression (lines input))
unfolding said
said_short input h = rw (le-ltb longest_input (length input) h)
