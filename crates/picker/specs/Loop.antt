-- How the lines of the texts are printed one after the other: what is printed so far, and what is still to come.
use Rattle.std.specs.Prelude.{ℕ, ◌+◌, ◌-◌, ◌*◌, ◌≤◌, ◌<◌, ◌≡◌, Bool, true, ◌↔◌, List, [], ◌∷◌, ◌++◌, length, take, drop}
use Rattle.std.proofs.Common.{ap, ◌∙◌, arith, append_assoc}
use Rattle.language.specs.Tree.{Tree}
use Rattle.tree.specs.Leaf.{Leaf, Matches}
use Rattle.matching.specs.Found.{part}
use Rattle.finder.specs.Decide.{matches}
use Rattle.finder.specs.DecideExactly.{matches_answer}
use Rattle.input.specs.Ends.{Ends}
use Rattle.input.proofs.EndLaws.{lent_part}
use Rattle.printing.specs.ReportLines.{text_line, total_line}
use Rattle.printing.specs.Printer.{HasRoom, Puts}
use Rattle.printing.specs.PrinterLaws.{puts_join, puts_none}
use Rattle.printing.specs.declared.print.Printer.{Printer}
use Rattle.reporting.specs.Print.{yes_after, text_lines}
use Rattle.reporting.specs.OutputBound.{text_line_length, total_line_length, yes_after_most}

-- there is space for the lines of these texts: 16 bytes for each text, 31 for the last line
pub record PrintSpace (later : List (List ℕ)) (room : ℕ) : Type 0 where
  pub few : length later < 100000
  pub enough : 16 * length later + 31 ≤ room

-- the same for the texts that are left, after so many texts and yes lines
pub record SpaceLeft (later : List (List ℕ)) (count yes_lines : ℕ) (printer : Printer) : Type 0 where
  pub ranked : yes_lines ≤ count
  pub few : count + length later < 100000
  pub enough : HasRoom printer (16 * length later + 31)

-- before the first text
pub space_first : {later : List (List ℕ)} {room : ℕ} {printer : Printer} → PrintSpace later room
    → length printer.out.now ≡ room → printer.at ≡ 0 → SpaceLeft later 0 0 printer
space_first s e f = record { ranked = omega arith; few = omega arith; enough = omega arith }

-- the last line has space where no text is left
pub space_total : {later : List (List ℕ)} {count yes_lines : ℕ} {printer : Printer}
    → SpaceLeft later count yes_lines printer → HasRoom printer (length (total_line count yes_lines))
space_total {count = count} {yes_lines = yes_lines} s =
    omega (arith, s, total_line_length count yes_lines (omega (arith, s)) s.ranked)

module _ {now later : List (List ℕ)} {text : List ℕ} {count yes_lines : ℕ} {printer : Printer}
    (s : SpaceLeft now count yes_lines printer) (next : now ≡ text ∷ later) (test : Bool) where
  -- a text's line is short
  line_short : length (text_line test (count + 1) (yes_lines + 1)) ≤ 16
  line_short =
      text_line_length test (count + 1) (yes_lines + 1) (omega (arith, s, ap length next))
      (omega (arith, s, ap length next))

  -- it has space
  pub space_line : HasRoom printer (length (text_line test (count + 1) (yes_lines + 1)))
  space_line = omega (arith, s, ap length next, line_short)

  -- and leaves space for what is to come after it
  pub space_next : {after : Printer} → Puts printer (text_line test (count + 1) (yes_lines + 1)) after
      → SpaceLeft later (count + 1) (yes_after test yes_lines) after
  space_next p = record {
    ranked = yes_after_most test count yes_lines s.ranked;
    few = omega (arith, s, ap length next);
    enough = omega (arith, s, p.prints, ap length next, line_short);
  }

-- what is printed so far, of the lines of all texts
pub record PrintedSoFar (matching : Tree Leaf → List ℕ → Bool) (t : Tree Leaf) (all : List (List ℕ)) (first : Printer)
    (later : List (List ℕ)) (count yes_lines : ℕ) (printer : Printer) : Type 0 where
  pub text : List ℕ
  pub puts : Puts first text printer
  pub to_come : text ++ text_lines matching t count yes_lines later ≡ text_lines matching t 0 0 all

module _ (matching : Tree Leaf → List ℕ → Bool) (t : Tree Leaf) (all : List (List ℕ)) (first : Printer) where
  abbrev So : (later : List (List ℕ)) (count yes_lines : ℕ) (printer : Printer) → Type 0
  So later count yes_lines printer = PrintedSoFar matching t all first later count yes_lines printer

  -- nothing is printed at first
  pub so_far_none : {later : List (List ℕ)} → later ≡ all → first.at ≤ length first.out.now → So later 0 0 first
  so_far_none e room = record { text = []; puts = puts_none room; to_come = ap (text_lines matching t 0 0) e }

  -- the line of one more text
  pub so_far_next : {now later : List (List ℕ)} {text : List ℕ} {count yes_lines : ℕ} {printer : Printer}
      → So now count yes_lines printer → now ≡ text ∷ later → (test : Bool) → test ≡ matching t text
      → {after : Printer} → Puts printer (text_line test (count + 1) (yes_lines + 1)) after
      → So later (count + 1) (yes_after test yes_lines) after
  unfolding text_lines
  so_far_next {now} {later} {text} {count} {yes_lines} so next test same p =
      let rest : List ℕ = text_lines matching t (count + 1) (yes_after test yes_lines) later in
      let here : text_line test (count + 1) (yes_lines + 1) ++ rest ≡ text_lines matching t count yes_lines now =
      rw (next, same) in
      record {
        text = so.text ++ text_line test (count + 1) (yes_lines + 1);
        puts = puts_join so.puts p;
        to_come = append_assoc so.text (text_line test (count + 1) (yes_lines + 1)) rest
            ∙ ap (λ (l : List ℕ). so.text ++ l) here ∙ so.to_come;
      }

  -- the last line, where no text is left
  pub so_far_done : {later : List (List ℕ)} {count yes_lines : ℕ} {printer : Printer} → So later count yes_lines printer
      → later ≡ [] → {after : Printer} → Puts printer (total_line count yes_lines) after
      → Puts first (text_lines matching t 0 0 all) after
  unfolding text_lines
  so_far_done {count = count} {yes_lines = yes_lines} so none p =
      rw (← so.to_come, none) (puts_join so.puts p)

-- the answer for the part that is lent is the answer for the line
pub lent_answer : {input : List ℕ} {place end : ℕ} → Ends input place end → (test : Bool) (t : Tree Leaf)
    → (test ≡ true) ↔ Matches [] t (take (end - place) (drop place input)) → test ≡ matches [] t (part place end input)
lent_answer {input} {place} {end} ends test t says =
    matches_answer [] test t (part place end input)
    (rw (lent_part place end input ends.ordered (omega (arith, ends))) at says)
