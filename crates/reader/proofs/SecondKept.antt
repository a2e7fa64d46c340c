-- What follows from the promise of `read_second`: its answer is one alone; where it says that the records were written
-- they are a good list of the expression's tree with its class records, and where it refuses no byte of a buffer
-- differs.
use Rattle.std.specs.Prelude.{ℕ, ◌*◌, ◌≡◌, refl, Bool, true, false, List, ◌++◌, length, take, drop, Result, Ok, Err}
use Rattle.std.proofs.Common.{arith, ap, sym, ◌∙◌, take_at, drop_at, ltb-false}
use Rattle.language.specs.Tree.{Tree, nodes}
use Rattle.tree.specs.Limits.{most_pieces}
use Rattle.tree.specs.Layout.{record_size, class_record_size}
use Rattle.tree.specs.Records.{encode, piece_count}
use Rattle.tree.specs.Places.{with_places}
use Rattle.tree.specs.Lengths.{nodes_positive}
use Rattle.operands.specs.Bytes.{second}
use Rattle.operands.specs.Scanner.{Atom, Outcome, tree, refused}
use Rattle.checker.specs.Expanded.{expanded}
use Rattle.checker.specs.ExpandedLaws.{expanded_refusal}
use Rattle.checker.specs.Drawn.{classes_of, classes_in, recorded}
use Rattle.classes.specs.ClassRecord.{encode_classes}
use Rattle.checker.proofs.DrawnLaws.{ranked_recorded}
use Rattle.reader.specs.PlacesIn.{places_in}
use Rattle.reader.specs.PlacesInLaws.{recorded_places, placed_length, placed_good}
use Rattle.checker.specs.Checked.{CountedNumbers, refusing_counts, counting, counted_numbers, counted_as, too_many}
use Rattle.reader.specs.SecondAnswer.{too_short, too_few_classes, pick_stored, second_answer_for, second_records_for, second_classes_for, second_answered, second_records_after, second_classes_after}
use Rattle.reader.specs.Kept.{fault_same}
use Rattle.tree.specs.declared.refusal.Refused.{Refused}
use Rattle.tree.specs.declared.counted.Counts.{Counts}
use Rattle.reader.specs.SecondKept.{SecondKept}

-- counts are known from their numbers
counts_same : {records pieces classes records' pieces' classes' : ℕ} → records ≡ records' → pieces ≡ pieces'
    → classes ≡ classes' → counted_as records pieces classes ≡ counted_as records' pieces' classes'
counts_same e f g = rw (e, f, g)

-- an answer is known from its numbers, where these are neither a refusal nor a record
pub counts_injective : (r s : Result Counts Refused) → counted_numbers r ≡ counted_numbers s
    → ((counted_numbers r).refusal ≡ 0 → (counted_numbers r).records ≡ 0 → ⊥) → r ≡ s
counts_injective (Ok counts) (Ok counts') e sure =
    counts_same (ap (λ (n : CountedNumbers). n.records) e) (ap (λ (n : CountedNumbers). n.pieces) e)
    (ap (λ (n : CountedNumbers). n.classes) e)
counts_injective (Err fault) (Err fault') e sure =
    ap Err
    (fault_same fault fault' (ap (λ (n : CountedNumbers). n.refusal) e) (ap (λ (n : CountedNumbers). n.place) e))
counts_injective (Ok counts) (Err fault) e sure =
    absurd (sure refl (ap (λ (n : CountedNumbers). n.records) e))
counts_injective (Err fault) (Ok counts) e sure =
    absurd (sure (ap (λ (n : CountedNumbers). n.refusal) e) refl)

-- what is answered for a tree, by the three tests
abbrev answers : Tree Atom → (many short few : Bool) → CountedNumbers
answers t many short few = pick_stored many short few (λ number. refusing_counts number 0) (counting t)

-- it is a refusal, or has a record
sure_pick : (t : Tree Atom) (many short few : Bool) → (answers t many short few).refusal ≡ 0
    → (answers t many short few).records ≡ 0 → ⊥
sure_pick t true short few e f = omega arith
sure_pick t false true few e f = omega arith
sure_pick t false false true e f = omega arith
sure_pick t false false false e f = omega (arith, nodes_positive (recorded t))

sure_answer : (bytes : List ℕ) (room class_room : ℕ) (outcome : Outcome (Tree Atom)) → expanded second bytes ≡ outcome
    → (second_answer_for outcome room class_room).refusal ≡ 0 → (second_answer_for outcome room class_room).records ≡ 0
    → ⊥
sure_answer bytes room class_room (refused number place) scans e f =
    omega (arith, (expanded_refusal second bytes number place scans).least)
sure_answer bytes room class_room (tree t) scans e f =
    sure_pick t (too_many t) (too_short t room) (too_few_classes t class_room) e f

-- two answers that both fit the promise are equal
pub second_answer_unique : (bytes : List ℕ) (room class_room : ℕ) (r s : Result Counts Refused)
    → counted_numbers r ≡ second_answered bytes room class_room
    → counted_numbers s ≡ second_answered bytes room class_room → r ≡ s
second_answer_unique bytes room class_room r s e f =
    counts_injective r s (e ∙ sym f) (rw e (sure_answer bytes room class_room (expanded second bytes) refl))

module _ (bytes records-before classes-before records_after classes-after : List ℕ) (records pieces classes : ℕ) where
  kept_pick : (t : Tree Atom) → expanded second bytes ≡ tree t → (many short few : Bool) → too_many t ≡ many
      → too_short t (length records-before) ≡ short → too_few_classes t (length classes-before) ≡ few
      → counted_numbers (counted_as records pieces classes) ≡ answers t many short few
      → records_after ≡ pick_stored many short few (λ number. records-before)
      (with_places (places_in second bytes) (encode (recorded t))
      ++ drop (record_size * nodes (recorded t)) records-before)
      → classes-after ≡ pick_stored many short few (λ number. classes-before)
      (encode_classes (classes_of t) ++ drop (class_record_size * classes_in t) classes-before)
      → SecondKept bytes records-before classes-before records_after classes-after records pieces classes
  kept_pick t scans true short few m h k e f g = absurd (omega (arith, ap (λ (n : CountedNumbers). n.refusal) e))
  kept_pick t scans false true few m h k e f g = absurd (omega (arith, ap (λ (n : CountedNumbers). n.refusal) e))
  kept_pick t scans false false true m h k e f g = absurd (omega (arith, ap (λ (n : CountedNumbers). n.refusal) e))
  kept_pick t scans false false false m h k e f g =
      let counted : records ≡ nodes (recorded t) = ap (λ (n : CountedNumbers). n.records) e in
      let classed : classes ≡ classes_in t = ap (λ (n : CountedNumbers). n.classes) e in
      let size : ℕ = record_size * nodes (recorded t) in
      let of = recorded_places second bytes t scans in
      let list : List ℕ = with_places (places_in second bytes) (encode (recorded t)) in
      let long : length list ≡ size = placed_length (places_in second bytes) (recorded t) of in
      let taken : take (record_size * records) records_after ≡ list =
      rw (f, counted) (take_at list (drop size records-before) size long) in
      record {
        read = t;
        scans = scans;
        counted = counted;
        parted = ap (λ (n : CountedNumbers). n.pieces) e;
        classed = classed;
        fits = omega (arith, ltb-false (length records-before) size h);
        class_fits = omega (arith, ltb-false (length classes-before) (class_record_size * classes_in t) k);
        list = taken;
        good = rw taken (placed_good (places_in second bytes) (recorded t) of
            (ltb-false most_pieces (piece_count (recorded t)) m) (ranked_recorded t));
        rest = rw (f, counted) (drop_at list (drop size records-before) size long);
        class_bytes = rw classed g;
      }

  kept_outcome : (outcome : Outcome (Tree Atom)) → expanded second bytes ≡ outcome
      → counted_numbers (counted_as records pieces classes)
      ≡ second_answer_for outcome (length records-before) (length classes-before)
      → records_after ≡ second_records_for (places_in second bytes) outcome records-before classes-before
      → classes-after ≡ second_classes_for outcome records-before classes-before
      → SecondKept bytes records-before classes-before records_after classes-after records pieces classes
  kept_outcome (refused number place) scans e f g =
      absurd (omega (
        arith,
        ap (λ (n : CountedNumbers). n.refusal) e,
        (expanded_refusal second bytes number place scans).least,
      ))
  kept_outcome (tree t) scans e f g =
      kept_pick t scans (too_many t) (too_short t (length records-before)) (too_few_classes t (length classes-before))
      refl refl refl e f g

  -- from what `read_second` promises, where it answers that the records were written
  pub second_kept : counted_numbers (counted_as records pieces classes)
      ≡ second_answered bytes (length records-before) (length classes-before)
      → records_after ≡ second_records_after bytes records-before classes-before
      → classes-after ≡ second_classes_after bytes records-before classes-before
      → SecondKept bytes records-before classes-before records_after classes-after records pieces classes
  second_kept e f g = kept_outcome (expanded second bytes) refl e f g

module _ (records classes : List ℕ) (fault : Refused) where
  -- a refusal is none of the answers past the three tests
  same_pick : {A : Type 0} (t : Tree Atom) (before after : A) (many short few : Bool)
      → counted_numbers (Err fault) ≡ answers t many short few
      → pick_stored many short few (λ number. before) after ≡ before
  same_pick t before after true short few e = refl
  same_pick t before after false true few e = refl
  same_pick t before after false false true e = refl
  same_pick t before after false false false e =
      absurd (omega (arith, nodes_positive (recorded t), ap (λ (n : CountedNumbers). n.records) e))

  same_records : (places : List ℕ) (outcome : Outcome (Tree Atom)) → counted_numbers (Err fault)
      ≡ second_answer_for outcome (length records) (length classes)
      → second_records_for places outcome records classes ≡ records
  same_records places (refused number' place') e = refl
  same_records places (tree t) e = same_pick t records _ (too_many t) (too_short t (length records))
      (too_few_classes t (length classes)) e

  same_classes : (outcome : Outcome (Tree Atom)) → counted_numbers (Err fault)
      ≡ second_answer_for outcome (length records) (length classes)
      → second_classes_for outcome records classes ≡ classes
  same_classes (refused number' place') e = refl
  same_classes (tree t) e = same_pick t classes _ (too_many t) (too_short t (length records))
      (too_few_classes t (length classes)) e

  -- where it answers a refusal, no byte of either buffer differs
  pub second_refusal_keeps : (bytes records_after classes-after : List ℕ) → counted_numbers (Err fault)
      ≡ second_answered bytes (length records) (length classes)
      → records_after ≡ second_records_after bytes records classes
      → classes-after ≡ second_classes_after bytes records classes
      → (records_after ≡ records) × (classes-after ≡ classes)
  second_refusal_keeps bytes records_after classes-after e f g =
      (f ∙ same_records (places_in second bytes) (expanded second bytes) e, g ∙ same_classes (expanded second bytes) e)
