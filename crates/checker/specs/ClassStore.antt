-- Storing the classes: the class labels tell the places, each class's record is written behind those before it, and the
-- labels are numbered.
use Rattle.std.specs.Prelude.{ℕ, zero, suc, ◌+◌, ◌*◌, ◌/◌, ◌%◌, ◌≤◌, ◌<◌, ◌≡◌, refl, Bool, true, false, cond, List, [], ◌∷◌, ◌++◌, length, get_or, set, take, drop, eqb}
use Rattle.std.proofs.Common.{ap, sym, ◌∙◌, append_assoc, append-nil, arith, add-one, take-append-drop, take-suc, drop-cons, drop-drop, take_all, take_at, drop_at, length-take-le, ne_eqb}
use Rattle.std.proofs.Math.Seq.{drop-length}
use Rattle.std.proofs.lemmas.List.{set_at, get_or_at}
use Rattle.language.specs.Tree.{Tree, leaf, catenation, union, star}
use Rattle.tree.specs.Leaf.{Leaf, character}
use Rattle.tree.specs.Layout.{two_bytes_limit, class_kind, class_label, class_record_size}
use Rattle.tree.specs.Records.{labels}
use Rattle.classes.specs.ClassRecord.{class_record, encode_classes}
use Rattle.classes.specs.ClassRecordLaws.{encode_classes_length, encode_classes_append}
use Rattle.classes.specs.ClassAt.{class_at, ClassHere}
use Rattle.operands.specs.LeavesPlaced.{LeavesPlaced}
use Rattle.checker.specs.Relabelled.{
  class_labels,
  relabelled,
  labelled_classes,
  relabelled_append,
  labelled_append,
  labelled_counted,
  class_labels_append,
  class_labels_le,
}

-- every class label holds the place of a class
abbrev pub LabelsPlaced : (bytes labels : List ℕ) → Type 0
LabelsPlaced bytes [] = Unit {0}
LabelsPlaced bytes (l ∷ ls) = (l % 8 ≡ class_kind → ClassHere bytes (l / 8)) × LabelsPlaced bytes ls

placed_append : (bytes xs ys : List ℕ) → LabelsPlaced bytes xs → LabelsPlaced bytes ys
    → LabelsPlaced bytes (xs ++ ys)
placed_append bytes [] ys p q = q
placed_append bytes (l ∷ xs) ys p q = (p.0, placed_append bytes xs ys p.1 q)

-- a label that is no class label
other_label : (bytes : List ℕ) (l : ℕ) → (l % 8 ≡ class_kind → ⊥) → LabelsPlaced bytes (l ∷ [])
other_label bytes l h = (λ e. absurd (h e), tt)

pub labels_placed : (bytes : List ℕ) (p : Tree Leaf) → LeavesPlaced bytes p → LabelsPlaced bytes (labels p)
labels_placed bytes (leaf (character b)) h = (λ e. absurd (omega (arith, e)), tt)
labels_placed bytes (leaf (Leaf.class at)) h =
    let number : (5 + 8 * at) / 8 ≡ at = omega arith in (λ e. rw number h, tt)
labels_placed bytes (leaf Leaf.empty_text) h = other_label bytes 6 (λ e. omega arith)
labels_placed bytes (catenation s t) h =
    placed_append bytes (labels s ++ labels t) (2 ∷ [])
    (placed_append bytes (labels s) (labels t) (labels_placed bytes s h.0) (labels_placed bytes t h.1))
    (other_label bytes 2 (λ e. omega arith))
labels_placed bytes (union s t) h =
    placed_append bytes (labels s ++ labels t) (3 ∷ [])
    (placed_append bytes (labels s) (labels t) (labels_placed bytes s h.0) (labels_placed bytes t h.1))
    (other_label bytes 3 (λ e. omega arith))
labels_placed bytes (star s) h =
    placed_append bytes (labels s) (4 ∷ []) (labels_placed bytes s h) (other_label bytes 4 (λ e. omega arith))

-- the class at a class label
pub class_placed : (bytes ls : List ℕ) (i : ℕ) → LabelsPlaced bytes ls → i < length ls
    → get_or ls i 0 % 8 ≡ class_kind → ClassHere bytes (get_or ls i 0 / 8)
class_placed bytes [] i p h e = absurd (omega arith)
class_placed bytes (l ∷ ls) zero p h e = p.0 e
class_placed bytes (l ∷ ls) (suc i) p h e = class_placed bytes ls i p.1 (omega arith) e

-- the labels up to the next one
next_label : (ls : List ℕ) (i : ℕ) → i < length ls → take (i + 1) ls ≡ take i ls ++ (get_or ls i 0 ∷ [])
next_label ls i h = rw add-one (take-suc ls i 0 h)

-- one more class label, or one of another kind
module _ (bytes ls : List ℕ) (i : ℕ) (h : i < length ls) where
  pub count_class : get_or ls i 0 % 8 ≡ class_kind → class_labels (take (i + 1) ls) ≡ class_labels (take i ls) + 1
  count_class e = ap class_labels (next_label ls i h) ∙ class_labels_append (take i ls) (get_or ls i 0 ∷ []) ∙ rw e

  pub count_other : (get_or ls i 0 % 8 ≡ class_kind → ⊥) → class_labels (take (i + 1) ls) ≡ class_labels (take i ls)
  count_other e =
      ap class_labels (next_label ls i h) ∙ class_labels_append (take i ls) (get_or ls i 0 ∷ [])
      ∙ rw (ne_eqb (get_or ls i 0 % 8) class_kind e) (omega arith)

  classes_class : get_or ls i 0 % 8 ≡ class_kind → labelled_classes bytes (take (i + 1) ls)
      ≡ labelled_classes bytes (take i ls) ++ (class_at bytes (get_or ls i 0 / 8) ∷ [])
  classes_class e =
      ap (labelled_classes bytes) (next_label ls i h) ∙ labelled_append bytes (take i ls) (get_or ls i 0 ∷ []) ∙ rw e

  classes_other : (get_or ls i 0 % 8 ≡ class_kind → ⊥)
      → labelled_classes bytes (take (i + 1) ls) ≡ labelled_classes bytes (take i ls)
  classes_other e =
      ap (labelled_classes bytes) (next_label ls i h) ∙ labelled_append bytes (take i ls) (get_or ls i 0 ∷ [])
      ∙ rw (ne_eqb (get_or ls i 0 % 8) class_kind e) (append-nil (labelled_classes bytes (take i ls)))

  labels_class : get_or ls i 0 % 8 ≡ class_kind → relabelled (take (i + 1) ls) 0
      ≡ relabelled (take i ls) 0 ++ (class_label (0 + class_labels (take i ls)) ∷ [])
  labels_class e =
      ap (λ (l : List ℕ). relabelled l 0) (next_label ls i h) ∙ relabelled_append (take i ls) (get_or ls i 0 ∷ []) 0
      ∙ rw e

  labels_other : (get_or ls i 0 % 8 ≡ class_kind → ⊥)
      → relabelled (take (i + 1) ls) 0 ≡ relabelled (take i ls) 0 ++ (get_or ls i 0 ∷ [])
  labels_other e =
      ap (λ (l : List ℕ). relabelled l 0) (next_label ls i h) ∙ relabelled_append (take i ls) (get_or ls i 0 ∷ []) 0
      ∙ rw (ne_eqb (get_or ls i 0 % 8) class_kind e)

-- the class labels among the first i are counted
pub record ClassLabelsCounted (ls : List ℕ) (i count : ℕ) : Type 0 where
  pub counted : count ≡ class_labels (take i ls)
  pub few : count ≤ i

pub no_label_counted : (ls : List ℕ) → ClassLabelsCounted ls 0 0
no_label_counted ls = record { counted = refl; few = omega arith }

pub next_label_counted : {ls : List ℕ} {i count one : ℕ} → ClassLabelsCounted ls i count → i < length ls
    → one ≡ class_labels (get_or ls i 0 ∷ []) → ClassLabelsCounted ls (i + 1) (count + one)
next_label_counted {ls} {i} {count} {one} s h e =
    record {
      counted = rw (s.counted, e)
          (sym (ap class_labels (next_label ls i h) ∙ class_labels_append (take i ls) (get_or ls i 0 ∷ [])));
      few = omega (arith, s.few, e, class_labels_le (get_or ls i 0 ∷ []));
    }

pub all_labels_counted : {ls : List ℕ} {i count : ℕ} → ClassLabelsCounted ls i count → length ls ≤ i
    → count ≡ class_labels ls
all_labels_counted {ls} {i} {count} s h = s.counted ∙ ap class_labels (take_all i ls h)

-- a class label holds the place of a class, and there is room for its record as record k
pub record LabelToStore (bytes : List ℕ) (label : ℕ) (classes : List ℕ) (k : ℕ) : Type 0 where
  pub placed : label % 8 ≡ class_kind → ClassHere bytes (label / 8)
  pub room : label % 8 ≡ class_kind → class_record_size * k + class_record_size ≤ length classes
  pub small : k < two_bytes_limit

-- the record of a class label is written as record k; of another label none is
pub data LabelStored (bytes : List ℕ) (label k : ℕ) (before : List ℕ) : (after : List ℕ) → ℕ → Type 0 where
  class_label_stored : {after : List ℕ} → label % 8 ≡ class_kind → after ≡ take (class_record_size * k) before
      ++ (class_record (class_at bytes (label / 8)) ++ drop class_record_size (drop (class_record_size * k) before))
      → LabelStored bytes label k before after (k + 1)
  other_label_stored : (label % 8 ≡ class_kind → ⊥) → LabelStored bytes label k before before k

-- label i gets the number k where it is a class label
pub data LabelNumbered (i k : ℕ) (before : List ℕ) : (after : List ℕ) → ℕ → Type 0 where
  class_label_numbered : get_or before i 0 % 8 ≡ class_kind
      → LabelNumbered i k before (set before i (class_label k)) (k + 1)
  other_label_numbered : (get_or before i 0 % 8 ≡ class_kind → ⊥) → LabelNumbered i k before before k

-- the class records of the first i labels are written, k of them, and nothing past them
pub record ClassesStored (bytes ls before after : List ℕ) (i k : ℕ) : Type 0 where
  pub counted : k ≡ class_labels (take i ls)
  pub written : after ≡ encode_classes (labelled_classes bytes (take i ls)) ++ drop (class_record_size * k) before

-- none yet
pub no_class_stored : (bytes ls before : List ℕ) → ClassesStored bytes ls before before 0 0
no_class_stored bytes ls before = record { counted = refl; written = refl }

module _ {bytes ls before after : List ℕ} {i k : ℕ} (s : ClassesStored bytes ls before after i k) (h : i < length ls)
  where
    -- how long the records are that are written
    stored_length : length (encode_classes (labelled_classes bytes (take i ls))) ≡ class_record_size * k
    stored_length =
        encode_classes_length (labelled_classes bytes (take i ls))
        ∙ ap (λ (n : ℕ). class_record_size * n) (labelled_counted bytes (take i ls) ∙ sym s.counted)

    -- one more
    pub class_stored : {later : List ℕ} → get_or ls i 0 % 8 ≡ class_kind
        → later ≡ take (class_record_size * k) after
        ++ (class_record (class_at bytes (get_or ls i 0 / 8)) ++ drop class_record_size (drop
        (class_record_size * k) after))
        → ClassesStored bytes ls before later (i + 1) (k + 1)
    class_stored e f =
        let done = encode_classes (labelled_classes bytes (take i ls)) in
        let one = class_record (class_at bytes (get_or ls i 0 / 8)) in
        let front : take (class_record_size * k) after ≡ done =
        ap (take (class_record_size * k)) s.written ∙ take_at done _ (class_record_size * k) stored_length in
        let back : drop (class_record_size * k) after ≡ drop (class_record_size * k) before =
        ap (drop (class_record_size * k)) s.written ∙ drop_at done _ (class_record_size * k) stored_length in
        let further : class_record_size * k + class_record_size ≡ class_record_size * (k + 1) = omega arith in
        let past : drop class_record_size (drop (class_record_size * k) after)
        ≡ drop (class_record_size * (k + 1)) before =
        ap (drop class_record_size) back ∙ drop-drop class_record_size (class_record_size * k) before
        ∙ ap (λ (n : ℕ). drop n before) further in
        let all_of : encode_classes (labelled_classes bytes (take (i + 1) ls)) ≡ done ++ one =
        ap encode_classes (classes_class bytes ls i h e)
        ∙ encode_classes_append (labelled_classes bytes (take i ls)) (class_at bytes (get_or ls i 0 / 8) ∷ [])
        ∙ ap (λ (l : List ℕ). done ++ l) (append-nil one) in
        record {
          counted = ap (λ (n : ℕ). n + 1) s.counted ∙ sym (count_class bytes ls i h e);
          written = f ∙ rw (front, past, all_of) (sym (append_assoc done one _));
        }

    -- a label of another kind
    pub other_stored : (get_or ls i 0 % 8 ≡ class_kind → ⊥) → ClassesStored bytes ls before after (i + 1) k
    other_stored e =
        record {
          counted = s.counted ∙ sym (count_other bytes ls i h e);
          written = s.written ∙ rw (classes_other bytes ls i h e);
        }

    -- k classes before this one leave room for its record
    pub class_room : (total : ℕ) → class_labels ls ≡ total → class_record_size * total ≤ length before
        → get_or ls i 0 % 8 ≡ class_kind → class_record_size * k + class_record_size ≤ length before
    class_room total e room kind =
        let parts : class_labels (take (i + 1) ls) + class_labels (drop (i + 1) ls) ≡ class_labels ls =
        sym (class_labels_append (take (i + 1) ls) (drop (i + 1) ls)) ∙ ap class_labels (take-append-drop (i + 1) ls) in
        omega (arith, s.counted, count_class bytes ls i h kind, parts, e, room)

    -- fewer records than labels
    pub stored_few : k ≤ i
    stored_few = omega (arith, s.counted, class_labels_le (take i ls), length-take-le i ls (omega arith))

-- all of them
pub all_stored : {bytes ls before after : List ℕ} {i k : ℕ} → ClassesStored bytes ls before after i k → length ls ≤ i
    → after ≡ encode_classes (labelled_classes bytes ls) ++ drop (class_record_size * class_labels ls) before
all_stored {bytes} {ls} {before} {after} {i} {k} s h =
    let whole : take i ls ≡ ls = take_all i ls h in
    s.written ∙ rw (s.counted, whole)

-- the first i labels are numbered, with k class labels among them
pub record LabelsNumbered (ls after : List ℕ) (i k : ℕ) : Type 0 where
  pub counted : k ≡ class_labels (take i ls)
  pub written : after ≡ relabelled (take i ls) 0 ++ drop i ls

relabelled_length : (ls : List ℕ) (n : ℕ) → length (relabelled ls n) ≡ length ls
relabelled_length [] n = refl
relabelled_length (l ∷ ls) n =
    by_kind (eqb (l % 8) class_kind) (relabelled_length ls (n + 1)) (relabelled_length ls n)
  where
    by_kind : (b : Bool) → length (relabelled ls (n + 1)) ≡ length ls → length (relabelled ls n) ≡ length ls
        → length (cond b (class_label n ∷ relabelled ls (n + 1)) (l ∷ relabelled ls n)) ≡ length (l ∷ ls)
    by_kind true e f = ap suc e
    by_kind false e f = ap suc f

-- none yet
pub none_numbered : (ls : List ℕ) → LabelsNumbered ls ls 0 0
none_numbered ls = record { counted = refl; written = refl }

module _ {ls after : List ℕ} {i k : ℕ} (s : LabelsNumbered ls after i k) (h : i < length ls) where
  front_length : length (relabelled (take i ls) 0) ≡ i
  front_length = relabelled_length (take i ls) 0 ∙ length-take-le i ls (omega arith)

  here : after ≡ relabelled (take i ls) 0 ++ (get_or ls i 0 ∷ drop (i + 1) ls)
  here =
      s.written
      ∙ ap (λ (l : List ℕ). relabelled (take i ls) 0 ++ l) (drop-cons ls i 0 h ∙ rw add-one refl)

  -- the label at i is still the one that was there
  pub label_there : get_or after i 0 ≡ get_or ls i 0
  label_there = ap (λ (l : List ℕ). get_or l i 0) here
      ∙ get_or_at (relabelled (take i ls) 0) (get_or ls i 0) _ 0 i front_length

  pub class_numbered : get_or ls i 0 % 8 ≡ class_kind → LabelsNumbered ls (set after i (class_label k)) (i + 1) (k + 1)
  class_numbered e =
      record {
        counted = ap (λ (n : ℕ). n + 1) s.counted ∙ sym (count_class [] ls i h e);
        written =
            ap (λ (l : List ℕ). set l i (class_label k)) here
            ∙ set_at (relabelled (take i ls) 0) (get_or ls i 0) (drop (i + 1) ls) (class_label k) i front_length
            ∙ sym (ap (λ (l : List ℕ). l ++ drop (i + 1) ls) (labels_class [] ls i h e ∙ same)
            ∙ append_assoc (relabelled (take i ls) 0) (class_label k ∷ []) (drop (i + 1) ls));
      }
    where
      same : relabelled (take i ls) 0 ++ (class_label (0 + class_labels (take i ls)) ∷ [])
          ≡ relabelled (take i ls) 0 ++ (class_label k ∷ [])
      same = ap (λ (n : ℕ). relabelled (take i ls) 0 ++ (class_label n ∷ [])) (omega (arith, s.counted))

  pub other_numbered : (get_or ls i 0 % 8 ≡ class_kind → ⊥) → LabelsNumbered ls after (i + 1) k
  other_numbered e =
      record {
        counted = s.counted ∙ sym (count_other [] ls i h e);
        written = here
            ∙ sym (ap (λ (l : List ℕ). l ++ drop (i + 1) ls) (labels_other [] ls i h e)
            ∙ append_assoc (relabelled (take i ls) 0) (get_or ls i 0 ∷ []) (drop (i + 1) ls));
      }

  -- a number is no larger than the labels before it
  pub number_le : k ≤ i
  number_le = omega (arith, s.counted, class_labels_le (take i ls), length-take-le i ls (omega arith))

-- all of them
pub all_numbered : {ls after : List ℕ} {i k : ℕ} → LabelsNumbered ls after i k → i ≡ length ls
    → after ≡ relabelled ls 0
all_numbered {ls} {after} {i} {k} s e =
    s.written ∙ rw (e, drop-length, take_all (length ls) ls (omega arith)) (append-nil (relabelled ls 0))

-- the next label, in the two loops
pub next_stored : {bytes ls before after later : List ℕ} {i k next : ℕ} → ClassesStored bytes ls before after i k
    → i < length ls → LabelStored bytes (get_or ls i 0) k after later next
    → ClassesStored bytes ls before later (i + 1) next
next_stored s h (class_label_stored e f) = class_stored s h e f
next_stored s h (other_label_stored e) = other_stored s h e

pub next_numbered : {i k next : ℕ} {ls after later : List ℕ} → LabelsNumbered ls after i k → i < length ls
    → LabelNumbered i k after later next → LabelsNumbered ls later (i + 1) next
next_numbered {i = i} s h (class_label_numbered e) =
    class_numbered s h (ap (λ (l : ℕ). l % 8) (sym (label_there s h)) ∙ e)
next_numbered {i = i} s h (other_label_numbered e) =
    other_numbered s h (λ f. e (ap (λ (l : ℕ). l % 8) (label_there s h) ∙ f))
