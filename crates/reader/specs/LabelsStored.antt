-- What storing the tree of some labels does: it refuses by 8, 9 or 15, or writes the records and the class records; and
-- what the readers then answer.
use Rattle.std.specs.Prelude.{ℕ, ◌*◌, ◌<◌, ◌≤◌, ◌≡◌, refl, List, ◌++◌, length, take, drop, Result, Ok, Err}
use Rattle.std.proofs.Common.{arith, ap, sym, ◌∙◌, length-take-le}
use Rattle.language.specs.Tree.{Tree}
use Rattle.tree.specs.Refusing.{refusal_number}
use Rattle.tree.specs.declared.refusal.Refusal.TheVariants.{BufferTooShort, ClassBufferTooShort}
use Rattle.tree.specs.declared.refusal.Refused.{Refused}
use Rattle.tree.specs.declared.counted.Counts.{Counts}
use Rattle.tree.specs.Limits.{most_labels}
use Rattle.tree.specs.Layout.{record_size, class_record_size}
use Rattle.tree.specs.Leaf.{Leaf}
use Rattle.tree.specs.Records.{labels}
use Rattle.tree.specs.Places.{with_places}
use Rattle.cutting.specs.Measured.{Postorder, Measured}
use Rattle.lists.specs.Recording.{Recorded}
use Rattle.classes.specs.ClassRecord.{encode_classes}
use Rattle.operands.specs.Bytes.{Syntax, first, second}
use Rattle.operands.specs.LeavesPlaced.{LeavesPlaced, written_at}
use Rattle.scanner.specs.Expression.{LabelsRead}
use Rattle.checker.specs.Drawn.{recorded}
use Rattle.checker.specs.DrawnLaws.{first_has_no_class}
use Rattle.checker.specs.ExpandedLaws.{expanded_exactly}
use Rattle.checker.specs.AlikeMeasured.{measured_numbered}
use Rattle.checker.specs.Relabelled.{relabelled, labelled_classes, labels_numbered}
use Rattle.checker.specs.Checked.{counted_as}
use Rattle.checker.specs.Counted.{LabelsCounted, ReadingCounted, ReadingRefused, read_counted, counts_are}
use Rattle.reader.specs.Answer.{read_as}
use Rattle.reader.specs.PlacesIn.{places_in}
use Rattle.reader.specs.Placing.{PlacesDue, due_counted}
use Rattle.reader.specs.Store.{ReadsAnswer, read_short, read_whole, refused_read, first_same, SecondAnswer, second_whole}

-- the labels are those of a tree whose classes stand in the expression where its leaves say, and there are not too many
pub record LabelsToStore (bytes ls : List ℕ) : Type 0 where
  pub read : Tree Leaf
  pub same : ls ≡ labels read
  pub placed : LeavesPlaced bytes read
  pub few : length ls ≤ most_labels

-- all is stored: the labels were counted, there was room, and both buffers hold what is due
pub record AllStored (bytes ls records classes records' classes' : List ℕ) (count pieces class_count : ℕ) : Type 0
  where
    pub counted : LabelsCounted ls (counted_as count pieces class_count)
    pub all : count ≡ length ls
    pub room : record_size * count ≤ length records
    pub class_room : class_record_size * class_count ≤ length classes
    pub wrote : Recorded (relabelled ls 0) records records'
    pub classed : classes'
        ≡ encode_classes (labelled_classes bytes ls) ++ drop (class_record_size * class_count) classes

-- nothing is stored: too many pieces, then no room for the records, then none for the class records
pub data NotStored (ls records classes : List ℕ) (fault : Refused) : Type 0 where
  many_pieces : LabelsCounted ls (Err fault) → NotStored ls records classes fault
  no_room : {count pieces class_count : ℕ} → LabelsCounted ls (counted_as count pieces class_count)
      → length records < record_size * count → fault ≡ record { refusal = BufferTooShort; place = 0 }
      → NotStored ls records classes fault
  no_class_room : {count pieces class_count : ℕ} → LabelsCounted ls (counted_as count pieces class_count)
      → record_size * count ≤ length records → length classes < class_record_size * class_count
      → fault ≡ record { refusal = ClassBufferTooShort; place = 0 } → NotStored ls records classes fault

-- what storing answers; both buffers are as they were where it refuses
abbrev pub StoreAnswer : (bytes ls records classes records' classes' : List ℕ) → Result Counts Refused → Type 0
StoreAnswer bytes ls records classes records' classes' (Ok counts) =
    AllStored bytes ls records classes records' classes' counts.records counts.pieces counts.classes
StoreAnswer bytes ls records classes records' classes' (Err fault) =
    NotStored ls records classes fault × (records' ≡ records) × (classes' ≡ classes)

-- all is stored, where this is so
pub stored_all : {bytes ls records classes records' classes' : List ℕ} {count pieces class_count : ℕ}
    → LabelsCounted ls (counted_as count pieces class_count) → count ≡ length ls → record_size * count ≤ length records
    → class_record_size * class_count ≤ length classes → Recorded (relabelled ls 0) records records'
    → classes' ≡ encode_classes (labelled_classes bytes ls) ++ drop (class_record_size * class_count) classes
    → AllStored bytes ls records classes records' classes' count pieces class_count
stored_all c a r k w e =
    record { counted = c; all = a; room = r; class_room = k; wrote = w; classed = e }

module _ {bytes ls : List ℕ} (r : LabelsToStore bytes ls) where
  -- the labels with their classes numbered are those of the records' tree
  numbered_same : relabelled ls 0 ≡ labels (recorded (written_at bytes r.read))
  numbered_same = ap (λ (ns : List ℕ). relabelled ns 0) r.same ∙ labels_numbered bytes r.read 0

  pub postorder_numbered : {numbered : List ℕ} → numbered ≡ relabelled ls 0 → Postorder numbered
  postorder_numbered e = record { tree = recorded (written_at bytes r.read); same = e ∙ numbered_same }

  -- and what was measured before holds of it
  pub measured_again : {numbered sizes opens cuts : List ℕ} → numbered ≡ relabelled ls 0 → length numbered ≡ length ls
      → Measured ls sizes opens cuts (length ls) → Measured numbered sizes opens cuts (length numbered)
  measured_again e long m =
      rw (long, e, numbered_same, r.same) (measured_numbered bytes r.read (rw r.same at m))

module _ {syntax : Syntax} {bytes later : List ℕ} {total : ℕ} (w : LabelsRead syntax bytes later total)
    (few : total ≤ most_labels) (fits : total ≤ length later) where
  -- the labels that were read can be stored
  pub ready : LabelsToStore bytes (take total later)
  ready =
      record {
        read = w.read;
        same = w.written few;
        placed = w.placed;
        few = omega (arith, few, length-take-le total later fits);
      }

  -- what was counted is counted of the expression
  pub counted_of : {count pieces class_count : ℕ} → LabelsCounted (take total later) (counted_as count pieces class_count)
      → ReadingCounted syntax bytes later count pieces class_count
  counted_of {count} {pieces} {class_count} c =
      read_counted (counted_as count pieces class_count) w few (take total later) refl (length-take-le total later fits) c

  module _ {records classes records' classes' : List ℕ} {count pieces class_count : ℕ}
      (s : AllStored bytes (take total later) records classes records' classes' count pieces class_count) where
    -- the places of its nodes are due
    pub due_stored : PlacesDue syntax bytes count
    due_stored = due_counted (counted_of s.counted)

    -- as many labels were stored as were read
    pub all_read : count ≡ total
    all_read = s.all ∙ length-take-le total later fits

module _ {bytes later : List ℕ} {total : ℕ} (w : LabelsRead second bytes later total) (few : total ≤ most_labels)
    (fits : total ≤ length later) {records classes : List ℕ} where
  -- and where all is, with the places
  pub second_stored : {records' classes' placed : List ℕ} {count pieces class_count : ℕ}
      → AllStored bytes (take total later) records classes records' classes' count pieces class_count
      → placed ≡ with_places (places_in second bytes) records'
      → SecondAnswer bytes records classes placed classes' (counted_as count pieces class_count)
  second_stored s put =
      let same = ap (λ (n : ℕ). take n later) (sym (all_read w few fits s)) in
      second_whole (counted_of w few fits s.counted) records classes s.room s.class_room
      (rw same at s.wrote) put (rw same at s.classed)

-- in the first syntax there are no classes
classless : {bytes later : List ℕ} {count pieces class_count : ℕ}
    → ReadingCounted first bytes later count pieces class_count → class_count ≡ 0
classless {bytes} c =
    (counts_are c).classed
    ∙ ap length (first_has_no_class ((expanded_exactly first bytes (written_at bytes c.read)).0 c.scans).1)

-- the labels have no classes to number
unnumbered : {bytes later : List ℕ} {count pieces class_count : ℕ}
    (c : ReadingCounted first bytes later count pieces class_count)
    → relabelled (take count later) 0 ≡ take count later
unnumbered {bytes} c =
    ap (λ (ls : List ℕ). relabelled ls 0) c.written ∙ labels_numbered bytes c.read 0
    ∙ ap labels (first_same c) ∙ sym c.written

module _ {bytes later : List ℕ} {total : ℕ} (w : LabelsRead first bytes later total) (few : total ≤ most_labels)
    (fits : total ≤ length later) {records classes : List ℕ} where
  -- what `read` answers where nothing is stored
  pub read_not_stored : (fault : Refused) → NotStored (take total later) records classes fault
      → ReadsAnswer bytes records records (Err fault)
  read_not_stored fault (many_pieces c) =
      refused_read fault (read_counted (Err fault) w few (take total later) refl (length-take-le total later fits) c)
  read_not_stored fault (no_room c h e) = rw e (read_short (counted_of w few fits c) records h)
  read_not_stored fault (no_class_room c r h e) = absurd (omega (arith, h, classless (counted_of w few fits c)))

  -- and where all is, with the places
  pub read_stored : {records' classes' placed : List ℕ} {count pieces class_count : ℕ}
      → AllStored bytes (take total later) records classes records' classes' count pieces class_count
      → placed ≡ with_places (places_in first bytes) records'
      → ReadsAnswer bytes records placed (read_as count pieces)
  read_stored s put =
      let c = counted_of w few fits s.counted in
      let same = ap (λ (n : ℕ). take n later) (sym (all_read w few fits s)) in
      read_whole c records s.room (rw (unnumbered c) at (rw same at s.wrote)) put

-- the expression was read and stored: its labels were read, all is stored, and the places are put in
pub record ReadStored (syntax : Syntax) (bytes records classes records' classes' : List ℕ)
    (count pieces class_count : ℕ) : Type 0 where
  pub later : List ℕ
  pub total : ℕ
  pub read : LabelsRead syntax bytes later total
  pub few : total ≤ most_labels
  pub fits : total ≤ length later
  pub between : List ℕ
  pub stored : AllStored bytes (take total later) records classes between classes' count pieces class_count
  pub put : records' ≡ with_places (places_in syntax bytes) between

-- the expression is refused: by its bytes, or with too many nodes, or its labels were read and are not stored
pub data ReadRefused (syntax : Syntax) (bytes records classes : List ℕ) (fault : Refused) : Type 0 where
  by_reading : ReadingRefused syntax bytes (refusal_number fault.refusal) fault.place
      → ReadRefused syntax bytes records classes fault
  by_storing : {later : List ℕ} {total : ℕ} → LabelsRead syntax bytes later total → total ≤ most_labels
      → total ≤ length later → NotStored (take total later) records classes fault
      → ReadRefused syntax bytes records classes fault

-- what the reader of either syntax answers; both buffers are as they were where it refuses
abbrev pub ReaderAnswer : Syntax → (bytes records classes records' classes' : List ℕ) → Result Counts Refused → Type 0
ReaderAnswer syntax bytes records classes records' classes' (Ok counts) =
    ReadStored syntax bytes records classes records' classes' counts.records counts.pieces counts.classes
ReaderAnswer syntax bytes records classes records' classes' (Err fault) =
    ReadRefused syntax bytes records classes fault × (records' ≡ records) × (classes' ≡ classes)

-- what `read` then answers where it is refused
pub read_refused : {bytes records classes : List ℕ} (fault : Refused) → ReadRefused first bytes records classes fault
    → ReadsAnswer bytes records records (Err fault)
read_refused fault (by_reading r) = refused_read fault r
read_refused fault (by_storing w few fits n) = read_not_stored w few fits fault n
