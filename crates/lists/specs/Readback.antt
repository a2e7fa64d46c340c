-- A tree is read back from its list: two trees with the same list are the same, by the labels that the records show.
use Rattle.std.specs.Prelude.{ℕ, ◌+◌, ◌*◌, ◌/◌, ◌%◌, ◌≤◌, ◌<◌, ◌≡◌, refl, List, ◌++◌, eqb, length, get_or, take, drop}
use Rattle.std.proofs.Common.{sym, ap, ◌∙◌, arith, add-zero, get_or-drop, ext_get_or}
use Rattle.language.specs.Tree.{Tree, leaf, catenation, union, star, nodes}
use Rattle.tree.specs.Leaf.{Leaf}
use Rattle.tree.specs.Layout.{record_size, class_kind, kind_at, class_records, label_with, label_at}
use Rattle.tree.specs.Places.{bare}
use Rattle.tree.specs.PlacesLaws.{length_bare, label_bare}
use Rattle.tree.specs.Records.{encode, Ranked, Good, labels}
use Rattle.tree.specs.Lengths.{length_encode, length_labels}
use Rattle.tree.specs.Postorder.{labels_injective}
use Rattle.cutting.specs.Seats.{seats, seat_at, root_label}
use Rattle.cutting.specs.SeatRecords.{root_kind, root_character, seat_record}
use Rattle.cutting.specs.Measured.{node}
use Rattle.cutting.specs.MeasuredLaws.{label_is}
use Rattle.lists.specs.RecordingLaws.{record_of_list}
use Rattle.lists.specs.ClassNumbers.{numbers_in, ranked_number, SameKinds, class_records_are}

-- these are the labels that the records of a list show
pub record LabelsOf (list ls : List ℕ) : Type 0 where
  pub long : length list ≡ record_size * length ls
  pub each : (r : ℕ) → r < length ls → get_or ls r 0 ≡ label_at list r

-- the byte of record r of a tree's list, in its record
pub byte_of_record : (t : Tree Leaf) (r k : ℕ) → r < nodes t
    → get_or (encode t) (record_size * r + k) 0
    ≡ get_or (seat_record r (seat_at (seats t 0 1) r) ++ drop (record_size * r + record_size) (encode t)) k 0
byte_of_record t r k h =
    sym (get_or-drop (record_size * r) (encode t) k 0) ∙ ap (λ (l : List ℕ). get_or l k 0) (record_of_list t r h)

-- record r of a tree's list shows the kind of its node
kind_shown : (t : Tree Leaf) (r : ℕ) → r < nodes t → kind_at (encode t) r ≡ root_kind (node t r)
kind_shown t r h = rw add-zero at (byte_of_record t r 0 h)

-- a root is a class leaf where its label says so
root_kinds : (u : Tree Leaf) → eqb (root_kind u) class_kind ≡ eqb (root_label u % 8) class_kind
root_kinds (leaf (Leaf.character a)) = let kind : (1 + 256 * a) % 8 ≡ 1 = omega arith in rw kind
root_kinds (leaf (Leaf.class k)) = let kind : (5 + 8 * k) % 8 ≡ 5 = omega arith in rw kind
root_kinds (leaf Leaf.empty_text) = refl
root_kinds (catenation s t) = refl
root_kinds (union s t) = refl
root_kinds (star s) = refl

-- a tree's list has the records of class leaves where the tree's labels say so
pub kinds_of_tree : (t : Tree Leaf) (n : ℕ) → n ≤ nodes t → SameKinds (encode t) (labels t) n
kinds_of_tree t n few =
    record {
      room = omega (arith, length_labels t);
      kinds = λ r h. rw (kind_shown t r (omega arith), label_is (labels t) t r refl (omega arith))
          (root_kinds (node t r));
    }

-- a root's kind and character are its label, with as many class leaves before it as its number says
root_labels : (u : Tree Leaf) (before : ℕ) → (root_label u % 8 ≡ class_kind → root_label u / 8 ≡ before)
    → label_with (root_kind u) (root_character u) before ≡ root_label u
root_labels (leaf (Leaf.character a)) before rank = refl
root_labels (leaf (Leaf.class k)) before rank =
    let number : (5 + 8 * k) / 8 ≡ before = rank (omega arith) in
    let same : k ≡ before = omega arith in
    rw same
root_labels (leaf Leaf.empty_text) before rank = refl
root_labels (catenation s t) before rank = refl
root_labels (union s t) before rank = refl
root_labels (star s) before rank = refl

-- record r of a tree's list shows the tree's label, where classes are numbered by their rank
label_shown : (t : Tree Leaf) → Ranked t → (r : ℕ) → r < nodes t → label_at (encode t) r ≡ get_or (labels t) r 0
label_shown t ranked r h =
    let here : get_or (labels t) r 0 ≡ root_label (node t r) = label_is (labels t) t r refl h in
    let before : class_records (encode t) r ≡ length (numbers_in (take r (labels t))) =
    class_records_are (encode t) (labels t) r (kinds_of_tree t r (omega arith)) in
    rw (kind_shown t r h, byte_of_record t r 1 h, before, here)
    (root_labels (node t r) (length (numbers_in (take r (labels t)))) (rw here at (ranked_number t ranked r h)))

-- the labels that a tree's list shows are the tree's
labels_of_tree : (list ls : List ℕ) (t : Tree Leaf) → list ≡ encode t → Ranked t → LabelsOf list ls → ls ≡ labels t
labels_of_tree list ls t e ranked shown =
    let long : length ls ≡ nodes t = omega (arith, shown.long, ap length e, length_encode t) in
    ext_get_or 0 ls (labels t) (long ∙ sym (length_labels t))
    (λ r h. shown.each r h ∙ ap (λ (l : List ℕ). label_at l r) e ∙ label_shown t ranked r (omega arith))

-- a list without its places shows the same labels
pub labels_of_bare : {list ls : List ℕ} → LabelsOf list ls → LabelsOf (bare list) ls
labels_of_bare {list} shown =
    record {
      long = length_bare list ∙ shown.long;
      each = λ r h. shown.each r h ∙ sym (label_bare list r);
    }

-- so the labels that a good list shows are its tree's
pub labels_of_good : (list ls : List ℕ) (t : Tree Leaf) → bare list ≡ encode t → Ranked t → LabelsOf list ls
    → ls ≡ labels t
labels_of_good list ls t e ranked shown = labels_of_tree (bare list) ls t e ranked (labels_of_bare shown)

-- a list gives back one tree and no other, where classes are numbered by their rank
pub encode_injective : (s t : Tree Leaf) → Ranked s → Ranked t → encode s ≡ encode t → s ≡ t
encode_injective s t ranked-s ranked-t e =
    labels_injective s t
    (labels_of_tree (encode s) (labels s) t e ranked-t
    (record {
      long = length_encode s ∙ ap (λ (n : ℕ). record_size * n) (sym (length_labels s));
      each = λ r h. sym (label_shown s ranked-s r (omega (arith, length_labels s)));
    }))

-- a good list is the list of one tree
pub good_unique : (bytes : List ℕ) (s t : Tree Leaf) → Good bytes s → Good bytes t → s ≡ t
good_unique bytes s t p q = encode_injective s t p.ranked q.ranked (sym p.of_tree ∙ q.of_tree)
