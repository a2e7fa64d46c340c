-- From what reading the first line answers to what is reported for the input.
use Rattle.std.specs.Prelude.{ℕ, suc, ◌*◌, ◌≤◌, ◌<◌, ◌≡◌, refl, Bool, true, false, cond, List, [], ◌∷◌, length, drop, ltb, eqb}
use Rattle.std.proofs.Common.{ap, arith, ltb-true, ltb-false, le-ltb}
use Rattle.language.specs.Tree.{Tree, nodes}
use Rattle.tree.specs.RefusalNumbers.{too_many_pieces, buffer_too_short}
use Rattle.tree.specs.Leaf.{Leaf}
use Rattle.tree.specs.Layout.{record_size}
use Rattle.tree.specs.Limits.{most_pieces, most_records}
use Rattle.tree.specs.Records.{piece_count}
use Rattle.tree.specs.Lengths.{nodes_positive}
use Rattle.tree.specs.Pieces.{nodes_per_piece}
use Rattle.operands.specs.Bytes.{first}
use Rattle.operands.specs.Scanner.{Outcome, tree, refused}
use Rattle.checker.specs.Expanded.{expanded}
use Rattle.checker.specs.Drawn.{drawn}
use Rattle.checker.specs.DrawnLaws.{first_drawn_size, first_drawn_refusal}
use Rattle.reader.specs.Answer.{ReadNumbers, refusing_read, reading, answer_for, read_answered as answers}
use Rattle.reader.specs.Kept.{Kept}
use Rattle.matching.specs.Found.{part}
use Rattle.finder.specs.Decide.{matches}
use Rattle.input.specs.Lines.{in_line, begins_end, lines, expression, texts}
use Rattle.input.proofs.LineLaws.{texts_count}
use Rattle.input.specs.Ends.{Ends, after_end}
use Rattle.input.proofs.EndLaws.{first_line}
use Rattle.printing.specs.OutputLimits.{longest_input, most_output}
use Rattle.printing.specs.ReportLines.{refusal_line}
use Rattle.reporting.specs.Print.{refusing_many_pieces, reading_outcome, text_lines, reported}
use Rattle.printing.specs.Printing.{Prints}
use Rattle.picker.specs.Loop.{PrintSpace}

-- reading refused the expression: that is its outcome, by a small number at a small place
pub record RefusalRead (bytes : List ℕ) (number place : ℕ) : Type 0 where
  pub outcome : reading_outcome bytes ≡ refused number place
  pub small_number : number < 10
  pub small_place : place < 10000

-- a tree with at most 128 pieces has at most 1,920 nodes, so 23,040 bytes hold its records
records_fit : (t : Tree Leaf) → ltb most_pieces (piece_count t) ≡ false
    → record_size * nodes t ≤ record_size * most_records
records_fit t few = omega (arith, nodes_per_piece t, ltb-false most_pieces (piece_count t) few)

-- for a tree: 8 where it has too many pieces, and never 9
told_tree : (bytes : List ℕ) (room number place : ℕ) → record_size * most_records ≤ room
    → (t : Tree Leaf) (many short : Bool)
    → ltb most_pieces (piece_count t) ≡ many → ltb room (record_size * nodes t) ≡ short
    → refusing_many_pieces (drawn (expanded first bytes)) ≡ cond many (refused too_many_pieces 0) (tree t)
    → refusing_read number place
    ≡ cond many (refusing_read too_many_pieces 0) (cond short (refusing_read buffer_too_short 0) (reading t))
    → RefusalRead bytes number place
told_tree bytes room number place large t true short m h outcome e =
    let eight : number ≡ too_many_pieces = ap (λ (n : ReadNumbers). n.refusal) e in
    let front : place ≡ 0 = ap (λ (n : ReadNumbers). n.place) e in
    record { outcome = rw (eight, front) outcome; small_number = omega arith; small_place = omega arith }
told_tree bytes room number place large t false true m h outcome e =
    absurd (omega (arith, records_fit t m, ltb-true room (record_size * nodes t) h))
told_tree bytes room number place large t false false m h outcome e =
    absurd (omega (arith, nodes_positive t, ap (λ (n : ReadNumbers). n.records) e))

told_outcome : (bytes : List ℕ) (room number place : ℕ) → record_size * most_records ≤ room
    → (outcome : Outcome (Tree Leaf))
    → drawn (expanded first bytes) ≡ outcome
    → refusing_read number place ≡ answer_for outcome room → RefusalRead bytes number place
told_outcome bytes room number place large (refused number' place') scans e =
    let bounds = first_drawn_refusal bytes number' place' scans in
    let same : number ≡ number' = ap (λ (n : ReadNumbers). n.refusal) e in
    let there : place ≡ place' = ap (λ (n : ReadNumbers). n.place) e in
    record {
      outcome = rw (same, there, scans);
      small_number = omega (arith, bounds);
      small_place =
          omega (arith, bounds);
    }
told_outcome bytes room number place large (tree t) scans e =
    told_tree bytes room number place large t (ltb most_pieces (piece_count t)) (ltb room (record_size * nodes t)) refl
    refl (rw scans) e

-- where reading answers a refusal, that is the expression's outcome
pub told : (bytes : List ℕ) (room number place : ℕ) → record_size * most_records ≤ room
    → refusing_read number place ≡ answers bytes room
    → RefusalRead bytes number place
told bytes room number place large e = told_outcome bytes room number place large (drawn (expanded first bytes)) refl e

-- where it answers that the records were written, the outcome is their tree
pub read_outcome : {bytes before after : List ℕ} {records pieces : ℕ} (k : Kept bytes before after records pieces)
    → reading_outcome bytes ≡ tree k.read
read_outcome k = rw (k.scans, le-ltb most_pieces (piece_count k.read) k.good.few)

module _ (input : List ℕ) (end : ℕ) (ends : Ends input 0 end) where
  -- the line of a refusal is what is reported
  pub reports_refusal : {number place : ℕ} {before out : List ℕ} {size : ℕ}
      → RefusalRead (part 0 end input) number place
      → Prints before 0 (refusal_line number place) out size
      → Prints before 0 (reported (matches []) (reading_outcome (expression (lines input))) (texts (lines input))) out
      size
  reports_refusal t p = rw ((first_line input end ends).is_expression, t.outcome) p

  -- the lines of the texts and the last line are what is reported
  pub reports_texts : {t : Tree Leaf} {before out : List ℕ} {size : ℕ} → reading_outcome (part 0 end input) ≡ tree t
      → Prints before 0 (text_lines (matches []) t 0 0 (lines (drop (after_end input end) input))) out size
      → Prints before 0 (reported (matches []) (reading_outcome (expression (lines input))) (texts (lines input))) out
      size
  reports_texts outcome p = rw ((first_line input end ends).is_expression, outcome, (first_line input end ends).are_texts)
      p

-- the first line is not longer than the input
pub expression_short : (input : List ℕ) → length (expression (lines input)) ≤ length input
unfolding lines
expression_short [] = omega arith
expression_short (b ∷ rest) = go (eqb b 10) (begins_end b rest) (lines rest) (expression_short rest)
  where
    go : (ten begins : Bool) (later : List (List ℕ)) → length (expression later) ≤ length rest
        → length (expression (cond ten ([] ∷ later) (cond begins later (in_line b later)))) ≤ suc (length rest)
    go true begins later h = omega arith
    go false true later h = omega arith
    go false false [] h = omega arith
    go false false (line ∷ later) h = omega arith

-- an expression that is read has a byte, and an end where a text follows: so there are at most 65,534 texts
pub texts_space : (input bytes : List ℕ) {before after-reading : List ℕ} {records pieces room : ℕ}
    → expression (lines input) ≡ bytes → length input ≤ longest_input → most_output ≤ room
    → Kept bytes before after-reading records pieces → PrintSpace (texts (lines input)) room
texts_space input bytes e short room k =
    let long = first_drawn_size bytes k.read k.scans in
    let same = ap length e in
    record {
      few = omega (arith, texts_count input);
      enough = omega (arith, texts_count input, same, long, nodes_positive k.read);
    }
