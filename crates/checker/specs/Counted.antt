-- What counting promises: the records, pieces and classes of the tree whose labels were read, or 8; and with the
-- reading before it, every refusal that needs no buffer.
use Rattle.std.specs.Prelude.{ℕ, ◌<◌, ◌≤◌, ◌≡◌, refl, Bool, true, false, cond, List, length, take, ltb, Result, Ok, Err}
use Rattle.std.proofs.Common.{arith, sym, ◌∙◌, lt-ltb, le-ltb}
use Rattle.std.proofs.Math.Path.{ap}
use Rattle.language.specs.Tree.{Tree, nodes}
use Rattle.tree.specs.RefusalNumbers.{too_many_pieces, too_many_nodes}
use Rattle.tree.specs.Refusing.{refusal_number}
use Rattle.tree.specs.declared.refusal.Refusal.TheVariants.{TooManyPieces}
use Rattle.tree.specs.declared.refusal.Refused.{Refused}
use Rattle.tree.specs.declared.counted.Counts.{Counts}
use Rattle.tree.specs.Limits.{most_pieces, most_labels}
use Rattle.tree.specs.Leaf.{Leaf}
use Rattle.tree.specs.Records.{labels, piece_count}
use Rattle.tree.specs.Lengths.{length_labels}
use Rattle.operands.specs.Bytes.{Syntax}
use Rattle.operands.specs.Scanner.{Atom, tree}
use Rattle.operands.specs.Bytes.{first}
use Rattle.operands.specs.FirstSyntax.{first_size}
use Rattle.operands.proofs.Agree.{scanned_exactly}
use Rattle.checker.specs.Expanded.{expansion, expanded_for, expanded}
use Rattle.checker.specs.ExpandedLaws.{expanded_small, expanded_large, form_first}
use Rattle.checker.specs.Drawn.{classes_in, recorded}
use Rattle.operands.specs.LeavesPlaced.{written_at, LeavesPlaced}
use Rattle.checker.specs.OneShape.{nodes_placed, nodes_recorded, pieces_placed}
use Rattle.checker.specs.Relabelled.{class_labels, classes_counted}
use Rattle.scanner.specs.Expression.{LabelsRead, ExpressionRefused}
use Rattle.checker.specs.Checked.{
  CountedNumbers,
  refusing_counts,
  counting,
  counted_numbers,
  counted_as,
  too_many,
  checked_for,
}

-- what is counted for the tree p with places: its nodes, its pieces, and its class labels
abbrev counts_placed : Tree Leaf → CountedNumbers
counts_placed p =
    record { refusal = 0; place = 0; records = nodes p; pieces = piece_count p; classes = class_labels (labels p) }

-- of whatever tree the labels are, the answer is that tree's
pub record LabelsCounted (ls : List ℕ) (r : Result Counts Refused) : Type 0 where
  pub answer : (p : Tree Leaf) → ls ≡ labels p
      → counted_numbers r ≡ cond (ltb most_pieces (piece_count p)) (refusing_counts too_many_pieces 0) (counts_placed p)

module _ (ls : List ℕ) (n : ℕ) (count : (p : Tree Leaf) → ls ≡ labels p → n ≡ piece_count p) where
  -- too many pieces
  pub counted_many : most_pieces < n → LabelsCounted ls (Err (record { refusal = TooManyPieces; place = 0 }))
  counted_many h =
      record { answer = λ p e. rw (lt-ltb most_pieces (piece_count p) (omega (arith, count p e))) }

  -- few enough
  pub counted_few : n ≤ most_pieces → (classes : ℕ) → classes ≡ class_labels ls
      → LabelsCounted ls (counted_as (length ls) n classes)
  counted_few h classes f =
      record {
        answer = λ p e. rw (
          le-ltb most_pieces (piece_count p) (omega (arith, count p e)),
          ap length e ∙ length_labels p,
          count p e,
          f ∙ ap class_labels e,
        );
      }

-- the tree with places has the counts of the written one
counts_written : (bytes : List ℕ) (p : Tree Leaf)
    → cond (ltb most_pieces (piece_count p)) (refusing_counts too_many_pieces 0) (counts_placed p)
    ≡ checked_for (tree (written_at bytes p))
counts_written bytes p = rw (
  ← pieces_placed bytes p,
  ← nodes_placed bytes p,
  classes_counted bytes p,
)

-- the expression has a tree of few enough pieces; its labels stand in the scratch, and these are its counts
pub record ReadingCounted (syntax : Syntax) (bytes later : List ℕ) (records pieces classes : ℕ) : Type 0 where
  pub read : Tree Leaf
  pub scans : expanded syntax bytes ≡ tree (written_at bytes read)
  pub placed : LeavesPlaced bytes read
  pub written : take records later ≡ labels read
  pub bounded : records ≤ most_labels
  pub numbers : counted_numbers (counted_as records pieces classes) ≡ checked_for (expanded syntax bytes)

-- the expression is refused
pub record ReadingRefused (syntax : Syntax) (bytes : List ℕ) (number place : ℕ) : Type 0 where
  pub numbers : refusing_counts number place ≡ checked_for (expanded syntax bytes)

-- what reading and counting answers
abbrev pub CheckAnswer : Syntax → (bytes later : List ℕ) → Result Counts Refused → Type 0
CheckAnswer syntax bytes later (Ok counts) =
    ReadingCounted syntax bytes later counts.records counts.pieces counts.classes
CheckAnswer syntax bytes later (Err fault) = ReadingRefused syntax bytes (refusal_number fault.refusal) fault.place

-- it is a check
pub count_checks : (syntax : Syntax) (bytes later : List ℕ) (r : Result Counts Refused) → CheckAnswer syntax bytes later r
    → counted_numbers r ≡ checked_for (expanded syntax bytes)
count_checks syntax bytes later (Ok counts) a = a.numbers
count_checks syntax bytes later (Err fault) a = a.numbers

-- what was refused before counting
pub refused_before : {syntax : Syntax} {bytes : List ℕ} {number place : ℕ}
    → ExpressionRefused syntax bytes number place
    → ReadingRefused syntax bytes number place
refused_before {syntax} {bytes} {number} {place} r =
    record { numbers = ap checked_for (sym (form_first syntax bytes number place r.scans)) }

module _ {syntax : Syntax} {bytes later : List ℕ} {total : ℕ} (w : LabelsRead syntax bytes later total) where
  -- the tree with places has as many nodes as the one that the signs stand for
  nodes_read : nodes w.read ≡ nodes (expansion w.signs)
  nodes_read =
      nodes_placed bytes w.read ∙ nodes_recorded (written_at bytes w.read) ∙ ap nodes w.stands

  -- where there are at most 2,047 labels, the expression has that tree
  pub expanded_read : total ≤ most_labels → expanded syntax bytes ≡ tree (written_at bytes w.read)
  unfolding expanded
  expanded_read few =
      ap expanded_for w.scans ∙ expanded_small w.signs (omega (arith, w.counted, nodes_read, few))
      ∙ ap tree (sym w.stands)

  -- where there would be more, it is 17
  pub too_large_read : most_labels < total → ReadingRefused syntax bytes too_many_nodes 0
  unfolding expanded
  too_large_read large =
      record {
        numbers = ap checked_for (sym (ap expanded_for w.scans
            ∙ expanded_large w.signs (omega (arith, w.counted, nodes_read, large))));
      }

-- in the first syntax there are never more
pub first_bounded : {bytes later : List ℕ} {total : ℕ} → LabelsRead first bytes later total → total ≤ most_labels
first_bounded {bytes} w =
    let (few, spelled) = (scanned_exactly first bytes w.signs).0 w.scans in
    omega (arith, w.counted, nodes_read w, first_size spelled, few)

-- what was read is counted
pub read_counted : {syntax : Syntax} {bytes later : List ℕ} {total : ℕ} (r : Result Counts Refused)
    → LabelsRead syntax bytes later total → total ≤ most_labels → (ls : List ℕ) → ls ≡ take total later
    → length ls ≡ total → LabelsCounted ls r → CheckAnswer syntax bytes later r
read_counted {syntax} {bytes} {later} {total} (Ok counts) w few ls e long a =
    let p = w.read in
    let same : ls ≡ labels p = e ∙ w.written few in
    let numbers : counted_numbers (Ok counts) ≡ checked_for (tree (written_at bytes p)) =
    a.answer p same ∙ counts_written bytes p in
    let count : counts.records ≡ total = records_are p (ltb most_pieces (piece_count p)) (a.answer p same)
    (sym (length_labels p) ∙ ap length (sym same) ∙ long) in
    record {
      read = p;
      scans = expanded_read w few;
      placed = w.placed;
      written = rw count (w.written few);
      bounded = omega (arith, count, few);
      numbers = rw (expanded_read w few) numbers;
    }
  where
    records_are : (p : Tree Leaf) (many : Bool)
        → counted_numbers (Ok counts)
        ≡ cond many (refusing_counts too_many_pieces 0) (counts_placed p) → nodes p ≡ total → counts.records ≡ total
    records_are p true f g = absurd (omega (arith, ap (λ (n : CountedNumbers). n.refusal) f))
    records_are p false f g = ap (λ (n : CountedNumbers). n.records) f ∙ g
read_counted {syntax} {bytes} (Err fault) w few ls e long a =
    record {
      numbers = rw (expanded_read w few) (a.answer w.read (e ∙ w.written few) ∙ counts_written bytes w.read);
    }

-- the counts of a tree of few enough pieces
pub record CountsAre (t : Tree Atom) (records pieces classes : ℕ) : Type 0 where
  pub few : too_many t ≡ false
  pub counted : records ≡ nodes (recorded t)
  pub parted : pieces ≡ piece_count (recorded t)
  pub classed : classes ≡ classes_in t

counts_pick : (t : Tree Atom) (records pieces classes : ℕ) (many : Bool) → too_many t ≡ many
    → counted_numbers (counted_as records pieces classes) ≡ cond many (refusing_counts too_many_pieces 0) (counting t)
    → CountsAre t records pieces classes
counts_pick t records pieces classes true m e = absurd (omega (arith, ap (λ (n : CountedNumbers). n.refusal) e))
counts_pick t records pieces classes false m e =
    record {
      few = m;
      counted = ap (λ (n : CountedNumbers). n.records) e;
      parted = ap (λ (n : CountedNumbers). n.pieces) e;
      classed = ap (λ (n : CountedNumbers). n.classes) e;
    }

pub counts_are : {syntax : Syntax} {bytes later : List ℕ} {records pieces classes : ℕ}
    (c : ReadingCounted syntax bytes later records pieces classes)
    → CountsAre (written_at bytes c.read) records pieces classes
counts_are {syntax} {bytes} {later} {records} {pieces} {classes} c =
    counts_pick (written_at bytes c.read) records pieces classes (too_many (written_at bytes c.read)) refl
    (c.numbers ∙ ap checked_for c.scans)
