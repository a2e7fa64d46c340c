-- What the readers promise of what is counted: where it does not fit 9, and for the second reader 15 after it; else the
-- buffers hold the records, and the class records.
use Rattle.std.specs.Prelude.{ℕ, ◌+◌, ◌*◌, ◌<◌, ◌≤◌, ◌≡◌, refl, Bool, true, false, cond, List, [], ◌∷◌, ◌++◌, length, take, drop, ltb, Result, Err}
use Rattle.std.proofs.Common.{arith, ap, sym, ◌∙◌, lt-ltb, le-ltb}
use Rattle.language.specs.Tree.{Tree, leaf, catenation, union, star, nodes}
use Rattle.tree.specs.RefusalNumbers.{too_many_pieces}
use Rattle.tree.specs.Layout.{record_size, class_record_size}
use Rattle.tree.specs.Leaf.{Leaf, character}
use Rattle.tree.specs.Records.{labels}
use Rattle.tree.specs.Places.{with_places}
use Rattle.lists.specs.Recording.{Recorded}
use Rattle.operands.specs.Bytes.{first, second}
use Rattle.classes.specs.Class.{Class}
use Rattle.operands.specs.Scanner.{Atom, Outcome, tree, refused}
use Rattle.checker.specs.Expanded.{expanded}
use Rattle.checker.specs.ExpandedLaws.{expanded_exactly}
use Rattle.checker.specs.Drawn.{classes_of, classes_in, recorded, recorded_from, drawn}
use Rattle.classes.specs.ClassRecord.{encode_classes}
use Rattle.checker.specs.DrawnLaws.{first_has_no_class}
use Rattle.reader.specs.PlacesIn.{places_in}
use Rattle.reader.specs.PlacesInLaws.{recorded_places, placed_recorded}
use Rattle.operands.specs.LeavesPlaced.{written_at}
use Rattle.checker.specs.Relabelled.{
  relabelled,
  labelled_classes,
  classes_labelled,
  labels_numbered,
}
use Rattle.checker.specs.Counted.{ReadingCounted, ReadingRefused, counts_are}
use Rattle.reader.specs.Answer.{refusing_read, read_numbers, read_as, answer_for, buffer_for, read_answered, records_after}
use Rattle.tree.specs.Lengths.{nodes_positive}
use Rattle.checker.specs.Checked.{CountedNumbers, refusing_counts, counting, counted_numbers, counted_as, too_many, checked_for}
use Rattle.reader.specs.SecondAnswer.{
  too_short,
  too_few_classes,
  second_answer_for,
  second_records_for,
  second_classes_for,
  second_answered,
  second_records_after,
  second_classes_after,
}
use Rattle.tree.specs.Refusing.{refusal_number}
use Rattle.tree.specs.declared.refusal.Refusal.TheVariants.{BufferTooShort, ClassBufferTooShort}
use Rattle.tree.specs.declared.refusal.Refused.{Refused}
use Rattle.tree.specs.declared.counted.Counts.{Counts}
use Rattle.reader.specs.declared.answer.Read.{Read}

-- a list with something in it is not empty, and neither is one before it
both_empty : {A : Type 0} (xs ys : List A) → xs ++ ys ≡ [] → (xs ≡ []) × (ys ≡ [])
both_empty [] ys e = (refl, e)
both_empty (x ∷ xs) ys e = let z : ◌≡◌ {A = ℕ} 0 1 = cc in absurd (omega arith)

-- where there is no class the tree with places is that of the records
classless_same : (bytes : List ℕ) (p : Tree Leaf) (next : ℕ) → classes_of (written_at bytes p) ≡ []
    → recorded_from (written_at bytes p) next ≡ p
classless_same bytes (leaf (character b)) next e = refl
classless_same bytes (leaf (Leaf.class at)) next e = let z : ◌≡◌ {A = ℕ} 0 1 = cc in absurd (omega arith)
classless_same bytes (leaf Leaf.empty_text) next e = refl
classless_same bytes (catenation s t) next e =
    let (left, right) = both_empty (classes_of (written_at bytes s)) (classes_of (written_at bytes t)) e in
    rw (classless_same bytes s next left, classless_same bytes t (next + classes_in (written_at bytes s)) right)
classless_same bytes (union s t) next e =
    let (left, right) = both_empty (classes_of (written_at bytes s)) (classes_of (written_at bytes t)) e in
    rw (classless_same bytes s next left, classless_same bytes t (next + classes_in (written_at bytes s)) right)
classless_same bytes (star s) next e = ap star (classless_same bytes s next e)

-- so it is for every expression of the first syntax
pub first_same : {bytes later : List ℕ} {records pieces classes : ℕ}
    (c : ReadingCounted first bytes later records pieces classes) → recorded (written_at bytes c.read) ≡ c.read
first_same {bytes} c =
    classless_same bytes c.read 0
    (first_has_no_class ((expanded_exactly first bytes (written_at bytes c.read)).0 c.scans).1)

-- what `read` promises, of its answer and of the buffer
pub record ReadsAnswer (bytes before after : List ℕ) (r : Result Read Refused) : Type 0 where
  pub answer : read_numbers r ≡ read_answered bytes (length before)
  pub buffer : after ≡ records_after bytes before

module _ {bytes later : List ℕ} {records pieces classes : ℕ}
    (c : ReadingCounted first bytes later records pieces classes) (before : List ℕ) where
  -- the tests, as the records' tree has them
  abbrev first_tree : Tree Atom
  first_tree = written_at bytes c.read

  -- 9 where the records do not fit
  pub read_short : length before < record_size * records → ReadsAnswer bytes before before
      (Err (record { refusal = BufferTooShort; place = 0 }))
  read_short h =
      let counts = counts_are c in
      let few = counts.few in
      let short : ltb (length before) (record_size * nodes (recorded first_tree)) ≡ true =
      lt-ltb (length before) _ (omega (arith, counts.counted, h)) in
      record { answer = rw (c.scans, few, short); buffer = rw (c.scans, few, short) }

  -- else they are written, and their places
  pub read_whole : {between after : List ℕ} → record_size * records ≤ length before
      → Recorded (take records later) before between → after ≡ with_places (places_in first bytes) between
      → ReadsAnswer bytes before after (read_as records pieces)
  read_whole h wrote put =
      let counts = counts_are c in
      let few = counts.few in
      let t = recorded first_tree in
      let long : ltb (length before) (record_size * nodes t) ≡ false =
      le-ltb (length before) _ (omega (arith, counts.counted, h)) in
      let same : take records later ≡ labels t = c.written ∙ ap labels (sym (first_same c)) in
      record {
        answer = rw (c.scans, few, long, counts.counted, counts.parted);
        buffer = rw (c.scans, few, long)
            (placed_recorded (places_in first bytes) t (recorded_places first bytes first_tree c.scans) _
            (wrote.bytes t same) put);
      }

-- a refusal before storing is of the expression's bytes, or 8
pub data RefusedBefore : Outcome (Tree Atom) → (number place : ℕ) → Type 0 where
  by_bytes : {number place : ℕ} → RefusedBefore (refused number place) number place
  by_pieces : {t : Tree Atom} → too_many t ≡ true → RefusedBefore (tree t) too_many_pieces 0

refused_pick : (t : Tree Atom) (number place : ℕ) (many : Bool) → too_many t ≡ many
    → refusing_counts number place ≡ cond many (refusing_counts too_many_pieces 0) (counting t)
    → RefusedBefore (tree t) number place
refused_pick t number place true m e =
    let same : number ≡ too_many_pieces = ap (λ (n : CountedNumbers). n.refusal) e in
    let here : place ≡ 0 = ap (λ (n : CountedNumbers). n.place) e in
    rw (same, here) (by_pieces m)
refused_pick t number place false m e =
    absurd (omega (arith, nodes_positive (recorded t), ap (λ (n : CountedNumbers). n.records) e))

pub refused_before_storing : (outcome : Outcome (Tree Atom)) (number place : ℕ)
    → refusing_counts number place ≡ checked_for outcome → RefusedBefore outcome number place
refused_before_storing (refused number' place') number place e =
    let same : number ≡ number' = ap (λ (n : CountedNumbers). n.refusal) e in
    let here : place ≡ place' = ap (λ (n : CountedNumbers). n.place) e in
    rw (same, here) by_bytes
refused_before_storing (tree t) number place e = refused_pick t number place (too_many t) refl e

-- what `read` then answers
refused_answer : {outcome : Outcome (Tree Atom)} {number place : ℕ} → RefusedBefore outcome number place → (room : ℕ)
    → refusing_read number place ≡ answer_for (drawn outcome) room
refused_answer by_bytes room = refl
refused_answer (by_pieces m) room = rw m

refused_buffer : (places : List ℕ) {outcome : Outcome (Tree Atom)} {number place : ℕ}
    → RefusedBefore outcome number place
    → (before : List ℕ)
    → before ≡ buffer_for places (drawn outcome) before
refused_buffer places by_bytes before = refl
refused_buffer places (by_pieces m) before = rw m

pub refused_read : {bytes before : List ℕ} (fault : Refused)
    → ReadingRefused first bytes (refusal_number fault.refusal) fault.place
    → ReadsAnswer bytes before before (Err fault)
refused_read {bytes} {before} fault r =
    let why = refused_before_storing (expanded first bytes) (refusal_number fault.refusal) fault.place r.numbers in
    record { answer = refused_answer why (length before); buffer = refused_buffer (places_in first bytes) why before }

-- what `read_second` promises, of its answer and of both buffers
pub record SecondAnswer (bytes records classes records' classes' : List ℕ) (r : Result Counts Refused) : Type 0 where
  pub answer : counted_numbers r ≡ second_answered bytes (length records) (length classes)
  pub record_buffer : records' ≡ second_records_after bytes records classes
  pub class_buffer : classes' ≡ second_classes_after bytes records classes

module _ {bytes later : List ℕ} {count pieces class_count : ℕ}
    (c : ReadingCounted second bytes later count pieces class_count) where
  abbrev second_tree : Tree Atom
  second_tree = written_at bytes c.read

  -- the labels of the records' tree are those in the scratch, numbered
  pub second_labels : relabelled (take count later) 0 ≡ labels (recorded second_tree)
  second_labels = ap (λ (ls : List ℕ). relabelled ls 0) c.written ∙ labels_numbered bytes c.read 0

module _ {bytes later : List ℕ} {count pieces class_count : ℕ}
    (c : ReadingCounted second bytes later count pieces class_count) (records classes : List ℕ) where
  -- 9 where the records do not fit
  pub second_short : length records < record_size * count
      → SecondAnswer bytes records classes records classes (Err (record { refusal = BufferTooShort; place = 0 }))
  second_short h =
      let counts = counts_are c in
      let few = counts.few in
      let short : too_short (second_tree c) (length records) ≡ true =
      lt-ltb (length records) _ (omega (arith, counts.counted, h)) in
      record {
        answer = rw (c.scans, few, short);
        record_buffer = rw (c.scans, few, short);
        class_buffer = rw (c.scans, few, short);
      }

  module _ (h : record_size * count ≤ length records) where
    -- the records fit
    fits : too_short (second_tree c) (length records) ≡ false
    fits = let counts = counts_are c in le-ltb (length records) _ (omega (arith, counts.counted, h))

    -- 15 where the class records do not
    pub second_few : length classes < class_record_size * class_count
        → SecondAnswer bytes records classes records classes (Err (record { refusal = ClassBufferTooShort; place = 0 }))
    second_few k =
        let counts = counts_are c in
        let few = counts.few in
        let room = fits in
        let short : too_few_classes (second_tree c) (length classes) ≡ true =
        lt-ltb (length classes) _ (omega (arith, counts.classed, k)) in
        record {
          answer = rw (c.scans, few, room, short);
          record_buffer = rw (c.scans, few, room, short);
          class_buffer = rw (c.scans, few, room, short);
        }

    -- else all are written, and the places
    pub second_whole : {between records' classes' : List ℕ} → class_record_size * class_count ≤ length classes
        → Recorded (relabelled (take count later) 0) records between
        → records' ≡ with_places (places_in second bytes) between
        → classes' ≡ encode_classes (labelled_classes bytes (take count later))
        ++ drop (class_record_size * class_count) classes
        → SecondAnswer bytes records classes records' classes' (counted_as count pieces class_count)
    second_whole k wrote put classed =
        let counts = counts_are c in
        let few = counts.few in
        let room = fits in
        let class_room : too_few_classes (second_tree c) (length classes) ≡ false =
        le-ltb (length classes) _ (omega (arith, counts.classed, k)) in
        let written : labelled_classes bytes (take count later) ≡ classes_of (second_tree c) =
        ap (labelled_classes bytes) c.written ∙ sym (classes_labelled bytes c.read) in
        record {
          answer = rw (c.scans, few, room, class_room, counts.counted, counts.parted, counts.classed);
          record_buffer = rw (c.scans, few, room, class_room)
              (placed_recorded (places_in second bytes) (recorded (second_tree c))
              (recorded_places second bytes (second_tree c) c.scans) _
              (wrote.bytes (recorded (second_tree c)) (second_labels c)) put);
          class_buffer = rw (c.scans, few, room, class_room) (classed
              ∙ ap (λ (cs : List Class). encode_classes cs ++ drop (class_record_size * class_count) classes) written
              ∙ ap (λ (n : ℕ). encode_classes (classes_of (second_tree c)) ++ drop (class_record_size * n) classes)
              counts.classed);
        }

-- what `read_second` answers where the expression was refused before storing
refused_counts : {outcome : Outcome (Tree Atom)} {number place : ℕ} → RefusedBefore outcome number place
    → (room class_room : ℕ) → refusing_counts number place ≡ second_answer_for outcome room class_room
refused_counts by_bytes room class_room = refl
refused_counts (by_pieces m) room class_room = rw m

refused_records : (places : List ℕ) {outcome : Outcome (Tree Atom)} {number place : ℕ}
    → RefusedBefore outcome number place
    → (records classes : List ℕ) → records ≡ second_records_for places outcome records classes
refused_records places by_bytes records classes = refl
refused_records places (by_pieces m) records classes = rw m

refused_classes : {outcome : Outcome (Tree Atom)} {number place : ℕ} → RefusedBefore outcome number place
    → (records classes : List ℕ) → classes ≡ second_classes_for outcome records classes
refused_classes by_bytes records classes = refl
refused_classes (by_pieces m) records classes = rw m

pub refused_second : {bytes records classes : List ℕ} (fault : Refused)
    → ReadingRefused second bytes (refusal_number fault.refusal) fault.place
    → SecondAnswer bytes records classes records classes (Err fault)
refused_second {bytes} {records} {classes} fault r =
    let why = refused_before_storing (expanded second bytes) (refusal_number fault.refusal) fault.place r.numbers in
    record {
      answer = refused_counts why (length records) (length classes);
      record_buffer = refused_records (places_in second bytes) why records classes;
      class_buffer = refused_classes why records classes;
    }
