-- From what reading a rule answers to what is printed for it.
use Rattle.std.specs.Prelude.{ℕ, ◌*◌, ◌≤◌, ◌<◌, ◌≡◌, refl, Bool, true, false, cond, Result, Ok, List, ◌++◌, length, take, drop}
use Rattle.std.proofs.Common.{sym, ap, ◌∙◌, subst, arith, length-append, ltb-true, ltb-false, le-ltb, lt-ltb}
use Rattle.language.specs.Tree.{Tree, leaf, catenation, union, star, nodes}
use Rattle.tree.specs.Leaf.{Leaf}
use Rattle.tree.specs.RefusalNumbers.{too_many_pieces}
use Rattle.tree.specs.declared.refusal.Refusal.{Refusal}
use Rattle.tree.specs.Layout.{record_size, class_record_size}
use Rattle.tree.specs.Limits.{most_pieces, most_records, longest_expression}
use Rattle.tree.specs.Lengths.{nodes_positive}
use Rattle.tree.specs.Pieces.{nodes_per_piece}
use Rattle.tree.specs.Records.{piece_count, class_count}
use Rattle.operands.specs.Bytes.{second}
use Rattle.operands.specs.Scanner.{Atom, Outcome, tree, refused}
use Rattle.checker.specs.Expanded.{expanded}
use Rattle.checker.specs.ExpandedLaws.{expanded_exactly}
use Rattle.checker.specs.Drawn.{classes_in, recorded}
use Rattle.checker.proofs.DrawnLaws.{class_count_recorded}
use Rattle.checker.specs.Checked.{CountedNumbers, refusing_counts, counting, too_many}
use Rattle.reader.specs.SecondAnswer.{too_short, too_few_classes, pick_stored, second_answer_for, second_answered}
use Rattle.reader.specs.SecondKept.{SecondKept}
use Rattle.printing.specs.OutputLimits.{longest_input}
use Rattle.input.specs.Lines.{lines, expression}
use Rattle.printing.specs.ReportLines.{too_long_line}
use Rattle.printing.specs.Printing.{Prints, printed}
use Rattle.showing.specs.Refusal.{most_shown, refusal_lines, lent_refusal}
use Rattle.drawing.specs.Drawing.{drawing}
use Rattle.explaining.specs.Explained.{most_explained, records_of, explained_for, explained_rule, explained}
use Rattle.explaining.specs.Promise.{ExplanationWritten, Explains}

-- a tree has no more class leaves than nodes
few_classes : (t : Tree Leaf) → class_count t ≤ nodes t
few_classes (leaf (Leaf.character c)) = omega arith
few_classes (leaf (Leaf.class k)) = omega arith
few_classes (leaf Leaf.empty_text) = omega arith
few_classes (catenation s t) = simp length-append (omega (arith, few_classes s, few_classes t))
few_classes (union s t) = simp length-append (omega (arith, few_classes s, few_classes t))
few_classes (star s) = omega (arith, few_classes s)

-- a tree with at most 128 pieces has at most 1,920 nodes
few_nodes : (t : Tree Atom) → too_many t ≡ false → nodes (recorded t) ≤ most_records
few_nodes t few =
    omega (arith, nodes_per_piece (recorded t), ltb-false most_pieces (piece_count (recorded t)) few)

module _ (rule : List ℕ) (number place : ℕ) where
  -- a refusal of a tree is 8: the buffers are long enough
  told_tree : (t : Tree Atom) (many short few : Bool) → too_many t ≡ many
      → too_short t (record_size * most_records) ≡ short → too_few_classes t (class_record_size * most_records) ≡ few
      → refusing_counts number place ≡ pick_stored many short few (λ n. refusing_counts n 0) (counting t)
      → cond many (refusal_lines rule too_many_pieces 0) (drawing rule (records_of rule t) (nodes (recorded t)))
      ≡ refusal_lines rule number place
  told_tree t true short few m h k e =
      let eight : number ≡ too_many_pieces = ap (λ (n : CountedNumbers). n.refusal) e in
      let front : place ≡ 0 = ap (λ (n : CountedNumbers). n.place) e in
      rw (eight, front) refl
  told_tree t false true few m h k e =
      absurd (omega (
        arith,
        few_nodes t m,
        ltb-true (record_size * most_records) (record_size * nodes (recorded t)) h,
      ))
  told_tree t false false true m h k e =
      absurd (omega (
        arith,
        few_nodes t m,
        few_classes (recorded t),
        class_count_recorded t,
        ltb-true (class_record_size * most_records) (class_record_size * classes_in t) k,
      ))
  told_tree t false false false m h k e =
      absurd (omega (arith, nodes_positive (recorded t), ap (λ (n : CountedNumbers). n.records) e))

  told_outcome : (outcome : Outcome (Tree Atom)) → refusing_counts number place
      ≡ second_answer_for outcome (record_size * most_records) (class_record_size * most_records)
      → explained_for rule outcome ≡ refusal_lines rule number place
  told_outcome (refused number' place') e =
      let same : number ≡ number' = ap (λ (n : CountedNumbers). n.refusal) e in
      let there : place ≡ place' = ap (λ (n : CountedNumbers). n.place) e in
      rw (same, there) refl
  told_outcome (tree t) e =
      told_tree t (too_many t) (too_short t (record_size * most_records))
      (too_few_classes t (class_record_size * most_records)) refl refl refl e

  -- where reading refuses the rule, that is what is printed
  pub told_refusal : refusing_counts number place
      ≡ second_answered rule (record_size * most_records) (class_record_size * most_records)
      → explained_rule rule ≡ refusal_lines rule number place
  unfolding explained_rule
  told_refusal e = told_outcome (expanded second rule) e

-- a buffer that is long enough gets all lines of a refusal
pub lent_long : (room : ℕ) (rule : List ℕ) (number place : ℕ) → most_explained ≤ room
    → lent_refusal room rule number place ≡ refusal_lines rule number place
lent_long room rule number place h = rw (le-ltb room most_shown (omega arith)) refl

-- what is known of a rule that was read
pub record RuleRead (rule list : List ℕ) (records : ℕ) : Type 0 where
  pub few : records ≤ most_records
  pub short : length rule ≤ longest_expression
  pub drawn : explained_rule rule ≡ drawing rule list records

-- where reading answers that the records were written, they are drawn
pub read_rule : {rule before classes-before after classes-after : List ℕ} {records pieces classes : ℕ}
    → SecondKept rule before classes-before after classes-after records pieces classes
    → RuleRead rule (take (record_size * records) after) records
unfolding explained_rule
read_rule {rule} {records = records} kept =
    let t = kept.read in
    let few : too_many t ≡ false = le-ltb most_pieces (piece_count (recorded t)) kept.good.few in
    record {
      few = omega (arith, few_nodes t few, kept.counted);
      short = ((expanded_exactly second rule t).0 kept.scans).0;
      drawn =
          ap (explained_for rule) kept.scans
          ∙ rw (few, kept.list, kept.counted) refl;
    }

-- an output printed at the front is all that is promised
pub wrote : {input before after : List ℕ} {size : ℕ} → most_explained ≤ length before
    → Prints before 0 (explained input) after size → ExplanationWritten input before after size
unfolding printed
wrote {input} {before} {after} {size} room p = record {
  room = room;
  sized = omega (arith, p.next_place);
  inside = omega (arith, p.within, p.next_place);
  whole = p.written ∙ ap (λ (n : ℕ). explained input ++ drop n before) (sym p.next_place);
}

-- what is printed for an input that is too long, and for another
pub explained_long : (input : List ℕ) → longest_input < length input → explained input ≡ too_long_line
unfolding explained
explained_long input h = rw (lt-ltb longest_input (length input) h) refl

pub explained_short : (input : List ℕ) → length input ≤ longest_input
    → explained input ≡ explained_rule (expression (lines input))
unfolding explained
explained_short input h = rw (le-ltb longest_input (length input) h) refl

-- where the output was written, it lies within the buffer
pub written_within : (input before after : List ℕ) (r : Result ℕ Refusal) (size : ℕ) → Explains input before after r
    → r ≡ Ok size → size ≤ length before
written_within input before after r size p e =
    let w : ExplanationWritten input before after size = subst (Explains input before after) e p in
    w.inside
