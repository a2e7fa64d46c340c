-- Why a list is good, or is not, by its length, its labels, its pieces and its records; the answer is the only one.
use Rattle.std.specs.Prelude.{ℕ, suc, ◌+◌, ◌*◌, ◌/◌, ◌%◌, ◌≤◌, ◌<◌, ◌≡◌, refl, Bool, true, false, Option, None, Some, Err, ok_or, List, [], ◌∷◌, ◌++◌, map, length, get_or, take, drop, set}
use Rattle.std.proofs.Common.{length-take-le, ap, sym, ◌∙◌, arith, not-suc-le-zero, zero-add, add-zero, add-one, take-append-drop, length-drop, get_or-set_same, get_or-set_other, take_at, drop-drop}
use Rattle.std.proofs.lemmas.List.{map-append}
use Rattle.std.proofs.Math.Decide.{dec_lt}
use Rattle.std.proofs.Math.Seq.{take-length}
use Rattle.language.specs.Tree.{Tree, leaf, catenation, union, star, nodes}
use Rattle.language.specs.Nested.{Nested}
use Rattle.tree.specs.Leaf.{Leaf}
use Rattle.tree.specs.Limits.{most_pieces, most_records}
use Rattle.tree.specs.Layout.{
  record_size,
  two_bytes_limit,
  labelled_record,
  record_at,
  kind_at,
  character_at,
  one_if_class,
  class_records,
  label_with,
  label_at,
}
use Rattle.tree.specs.Places.{bare, IsRecord}
use Rattle.tree.specs.PlacesLaws.{length_bare, kind_bare}
use Rattle.tree.specs.Cut.{one, cut_only, open_size, edge, nest, wanted}
use Rattle.tree.specs.Parts.{pieces_below, below_each}
use Rattle.tree.specs.Nesting.{pieces_below_edge, pieces_below_nest}
use Rattle.tree.specs.Records.{encode, labels, piece_count, class_numbers, class_count, Good}
use Rattle.tree.specs.Lengths.{length_encode, length_labels}
use Rattle.lists.specs.ClassNumbers.{numbers_in, numbers_labels, SameKinds, class_records_are, taken_ranks}
use Rattle.lists.specs.Readback.{LabelsOf, kinds_of_tree, labels_of_good, good_unique}
use Rattle.tree.specs.Pieces.{cut_up, good_small}
use Rattle.tree.specs.Numbering.{child_piece}
use Rattle.cutting.specs.Seats.{Seat, seats, seat_at, left_apart, right_apart, cut_edges}
use Rattle.cutting.specs.SeatsLaws.{length_seats}
use Rattle.cutting.specs.SeatRecords.{child_number, seat_record, written}
use Rattle.lists.specs.SeatRecordsLaws.{encode_written}
use Rattle.cutting.specs.Measured.{Postorder, Measured, CountsPieces}
use Rattle.cutting.specs.MeasuredLaws.{in_tree, label_is, Slots}
use Rattle.lists.specs.RecordingLaws.{record_of_list, fields_are}
use Rattle.tree.specs.Saying.{true_false}
use Rattle.deciding.specs.Judged.{Judged, CountsBelow}
use Rattle.tree.specs.declared.counted.Counts.{Counts}
use Rattle.tree.specs.declared.refusal.Refusal.{Refusal}
use Rattle.tree.specs.declared.refusal.Refusal.TheVariants.{ListNotGood}
use Rattle.deciding.specs.LabelsTaken.{Taken, ListOf, Compared, Agrees}

-- counts with the same numbers are the same
same_counts : (n m : Counts) → n.records ≡ m.records → n.pieces ≡ m.pieces → n.classes ≡ m.classes → n ≡ m
same_counts n m p q r =
    ap (λ (k : ℕ). record { records = k; pieces = n.pieces; classes = n.classes }) p
    ∙ ap (λ (k : ℕ). record { records = m.records; pieces = k; classes = n.classes }) q
    ∙ ap (λ (k : ℕ). record { records = m.records; pieces = m.pieces; classes = k }) r

-- two answers that fit are the same
pub decided_unique : (bytes : List ℕ) (a b : Option Counts) → Judged bytes a → Judged bytes b → a ≡ b
decided_unique bytes (Some n) (Some m) a b =
    let same : a.fits.tree ≡ b.fits.tree = good_unique bytes a.fits.tree b.fits.tree a.fits.is_good
    b.fits.is_good in
    ap Some (same_counts n m
    (a.fits.records_are ∙ ap (nodes {A = Leaf}) same ∙ sym b.fits.records_are)
    (a.fits.pieces_are ∙ ap piece_count same ∙ sym b.fits.pieces_are)
    (a.fits.classes_are ∙ ap class_count same ∙ sym b.fits.classes_are))
decided_unique bytes (Some n) None a b = absurd (b.fits a.fits.tree a.fits.is_good)
decided_unique bytes None (Some n) a b = absurd (a.fits b.fits.tree b.fits.is_good)
decided_unique bytes None None a b = refl

-- where an answer of none is turned into a refusal, it is that of a list that is not good, and the list is none
pub none_refused : {bytes : List ℕ} {refusal : Refusal} (answer : Option Counts) → Judged bytes answer
    → Err refusal ≡ ok_or answer ListNotGood → (ListNotGood ≡ refusal) × ((t : Tree Leaf) → Good bytes t → ⊥)
none_refused (Some counts) judged e = absurd (cc)
none_refused None judged e = (cc, judged.fits)

-- none yet
pub taken_none : (list ls : List ℕ) → Taken list ls 0
taken_none list ls = record { each = λ r h. absurd (not-suc-le-zero h) }

-- one more
pub taken_more : (list ls : List ℕ) (i v : ℕ) → i < length ls → v ≡ label_at list i → Taken list ls i
    → Taken list (set ls i v) (i + 1)
taken_more list ls i v inside is-label taken = record { each = λ r h. by_place r h (dec_lt r i) }
  where
    by_place : (r : ℕ) → r < i + 1 → Dec (r < i) → get_or (set ls i v) r 0 ≡ label_at list r
    by_place r h (yes before) = get_or-set_other ls i r v 0 (omega arith) ∙ taken.each r before
    by_place r h (no after) =
        let here : r ≡ i = omega arith in
        rw here (get_or-set_same ls i v 0 inside ∙ is-label)

-- the label of record i, by its kind, its character and the class leaves before it
pub label_by : (list : List ℕ) (i kind character classes : ℕ) → kind ≡ kind_at list i → character ≡ character_at list i
    → classes ≡ class_records list i → label_with kind character classes ≡ label_at list i
label_by list i kind character classes is-kind is-character before = rw (is-kind, is-character, before)

-- the class leaves before the next record
pub classes_more : (list : List ℕ) (i kind classes here : ℕ) → kind ≡ kind_at list i → classes ≡ class_records list i
    → here ≡ one_if_class kind → classes + here ≡ class_records list (i + 1)
classes_more list i kind classes here is-kind before is_one = rw (add-one i, before, is_one, is-kind)

-- all of them, taken off into the front of a longer list
pub front_labels : (list ls taken : List ℕ) → length list % record_size ≡ 0
    → length list / record_size ≤ length ls
    → length taken ≡ length (take (length list / record_size) ls)
    → Taken list taken (length (take (length list / record_size) ls))
    → LabelsOf list (take (length list / record_size) (taken ++ drop (length list / record_size) ls))
front_labels list ls taken whole room long shown =
    let n : length (take (length list / record_size) ls) ≡ length list / record_size =
    length-take-le (length list / record_size) ls room in
    let front : take (length list / record_size) (taken ++ drop (length list / record_size) ls) ≡ taken =
    take_at taken (drop (length list / record_size) ls) (length list / record_size) (long ∙ n) in
    rw front (record { long = omega arith; each = λ r h. shown.each r (omega arith) })

-- and the class leaves counted on the way
pub front_classes : (list ls front : List ℕ) (classes : ℕ) → length list % record_size ≡ 0
    → length list / record_size ≤ length ls → LabelsOf list front
    → classes ≡ class_records list (length (take (length list / record_size) ls))
    → classes ≡ class_records list (length front)
front_classes list ls front classes whole room shown counted =
    let n : length (take (length list / record_size) ls) ≡ length list / record_size =
    length-take-le (length list / record_size) ls room in
    let same : length (take (length list / record_size) ls) ≡ length front = omega (arith, shown.long) in
    counted ∙ ap (class_records list) same

-- none yet
pub agrees_none : (ls list : List ℕ) → Agrees ls list 0
agrees_none ls list = record { each = λ t e r h. absurd (not-suc-le-zero h) }

-- record i of a tree's list
own_record : (t : Tree Leaf) (i : ℕ) → i < nodes t → record_at (encode t) i ≡ seat_record i (seat_at (seats t 0 1) i)
own_record t i h =
    ap (take record_size) (record_of_list t i h)
    ∙ take_at (seat_record i (seat_at (seats t 0 1) i)) (drop (record_size * i + record_size) (encode t))
    record_size refl

-- the record that the slots and the pieces give at number i, and what its comparison says
module _ (ls list : List ℕ) (i left right label left_number right-number piece : ℕ) (sizes : List ℕ)
    (inside : i < length ls)
    (facts : (t : Tree Leaf) → ls ≡ labels t → Slots t i left right sizes × (piece ≡ (seat_at (seats t 0 1) i).piece))
    (is-label : label ≡ get_or ls i 0) (small : label < two_bytes_limit) (is-left : left_number ≡ child_number left)
    (is_right : right-number ≡ child_number right) where
  -- it is the tree's
  given_record : (t : Tree Leaf) → ls ≡ labels t → labelled_record label left_number right-number piece
      ≡ seat_record i (seat_at (seats t 0 1) i)
  given_record t e =
      fields_are t i left right label left_number right-number piece sizes (facts t e).0
      (is-label ∙ label_is ls t i e (in_tree ls t i e inside)) small is-left is_right (facts t e).1

  -- a list that has it not is not the tree's
  pub compared_no : length list ≡ record_size * length ls
      → (IsRecord list i (labelled_record label left_number right-number piece) → ⊥) → Compared ls list false
  compared_no long differs =
      record {
        if_so = λ e. absurd (true_false (sym e));
        if_not = λ e t same is-list. differs
            (record {
              same = ap (λ (l : List ℕ). record_at l i) is-list.of_tree
                  ∙ own_record t i (in_tree ls t i same inside) ∙ sym (given_record t same);
              placed = is-list.placed.each i (omega arith);
            });
      }

  -- a list that has it agrees with the tree's in one record more
  pub agrees_more : IsRecord list i (labelled_record label left_number right-number piece) → Agrees ls list i
      → Agrees ls list (i + 1)
  agrees_more has so_far = record { each = λ t e r h. by_place t e r h (dec_lt r i) }
    where
      by_place : (t : Tree Leaf) → ls ≡ labels t → (r : ℕ) → r < i + 1 → Dec (r < i)
          → IsRecord list r (seat_record r (seat_at (seats t 0 1) r))
      by_place t e r h (yes before) = so_far.each t e r before
      by_place t e r h (no after) =
          let here : r ≡ i = omega arith in
          rw here (record { same = has.same ∙ given_record t e; placed = has.placed })

-- where each record of a list is that of a seat, the list is what is written for the seats
same_records : (list : List ℕ) (i : ℕ) (xs : List Seat) → length list ≡ record_size * length xs
    → ((r : ℕ) → r < length xs → record_at list r ≡ seat_record (i + r) (seat_at xs r)) → list ≡ written i xs
same_records [] i [] long each = refl
same_records (a ∷ list) i [] long each = absurd (omega arith)
same_records list i (x ∷ xs) long each =
    let first : take record_size list ≡ seat_record i x = rw (add-zero i) at (each 0 (omega arith)) in
    let rest : drop record_size list ≡ written (suc i) xs =
    same_records (drop record_size list) (suc i) xs (simp length-drop (omega arith)) later in
    sym (take-append-drop record_size list) ∙ rw (first, rest)
  where
    later : (r : ℕ) → r < length xs
        → record_at (drop record_size list) r ≡ seat_record (suc i + r) (seat_at xs r)
    later r h =
        let next : record_size + record_size * r ≡ record_size * suc r = omega arith in
        let number : i + suc r ≡ suc i + r = omega arith in
        ap (take record_size) (drop-drop (record_size * r) record_size list ∙ ap (λ (n : ℕ). drop n list) next)
        ∙ each (suc r) (omega arith) ∙ ap (λ (n : ℕ). seat_record n (seat_at xs r)) number

-- where all records agree, the list is the tree's
pub compared_all : (ls list : List ℕ) → length list ≡ record_size * length ls → Agrees ls list (length ls)
    → Compared ls list true
compared_all ls list long agrees =
    record {
      if_so = λ e t same.
          let n : length ls ≡ nodes t = ap length same ∙ length_labels t in
          record {
            of_tree = same_records (bare list) 0 (seats t 0 1)
                (omega (arith, length_bare list, length_seats t 0 1))
                (λ r h. (agrees.each t same r (omega (arith, length_seats t 0 1))).same
                ∙ ap (λ (k : ℕ). seat_record k (seat_at (seats t 0 1) r)) (sym (zero-add r)))
                ∙ sym (encode_written t);
            placed = record { each = λ r room. (agrees.each t same r (omega (arith, long))).placed };
          };
      if_not = λ e t same is-list. true_false e;
    }

-- a good list has a record for each of its tree's nodes
pub good_length : (bytes : List ℕ) (t : Tree Leaf) → Good bytes t → length bytes ≡ record_size * nodes t
good_length bytes t g = sym (length_bare bytes) ∙ ap length g.of_tree ∙ length_encode t

-- why a list is not good: its length is no multiple of a record's
pub not_by_length : (bytes : List ℕ) → (length bytes % record_size ≡ 0 → ⊥) → Judged bytes None
not_by_length bytes h = record { fits = λ t g. h (omega (arith, good_length bytes t g)) }

-- it has more than 1,920 records
pub not_by_size : (bytes : List ℕ) → most_records < length bytes / record_size → Judged bytes None
not_by_size bytes h = record { fits = λ t g. omega (arith, good_length bytes t g, good_small bytes t g) }

-- what is known of a list whose labels are these
module _ (bytes ls : List ℕ) (shown : LabelsOf bytes ls) where
  -- not good: the labels are those of no tree
  pub not_by_labels : (Postorder ls → ⊥) → Judged bytes None
  not_by_labels h =
      record {
        fits = λ t g. h (record { tree = t; same = labels_of_good bytes ls t g.of_tree g.ranked shown });
      }

  -- not good: the tree has more than 128 pieces
  pub not_by_pieces : (pieces : ℕ) → CountsPieces ls pieces → most_pieces < pieces → Judged bytes None
  not_by_pieces pieces c h =
      record {
        fits = λ t g. omega (arith, c.count t (labels_of_good bytes ls t g.of_tree g.ranked shown), g.few);
      }

  -- not good: a record is not the tree's
  pub not_by_records : Compared ls bytes false → Judged bytes None
  not_by_records c =
      record {
        fits = λ t g. c.if_not refl t (labels_of_good bytes ls t g.of_tree g.ranked shown)
            (record { of_tree = g.of_tree; placed = g.placed });
      }

  -- the records of class leaves are where the labels of the list's tree say so
  kinds_by_tree : (t : Tree Leaf) → bare bytes ≡ encode t → ls ≡ labels t → SameKinds bytes ls (length ls)
  kinds_by_tree t of_tree same =
      let kinds : SameKinds (bare bytes) ls (length ls) =
      rw (of_tree, same) (kinds_of_tree t (length (labels t)) (omega (arith, length_labels t))) in
      record { room = kinds.room; kinds = λ r h. rw (kind_bare bytes r) at (kinds.kinds r h) }

  -- good: every record is the tree's; then the number of each class leaf is its rank, which its label was made of
  pub good_by_records : (pieces classes : ℕ) → Postorder ls → CountsPieces ls pieces → pieces ≤ most_pieces
      → classes ≡ class_records bytes (length ls) → Compared ls bytes true
      → Judged bytes (Some (record { records = length ls; pieces = pieces; classes = classes }))
  good_by_records pieces classes o c few counted same =
      let t : Tree Leaf = o.tree in
      let count : pieces ≡ piece_count t = c.count t o.same in
      let list : ListOf bytes t = same.if_so refl t o.same in
      let kinds : SameKinds bytes ls (length ls) = kinds_by_tree t list.of_tree o.same in
      let numbers : numbers_in (take (length ls) ls) ≡ class_numbers t =
      ap numbers_in (take-length ls ∙ o.same) ∙ numbers_labels t in
      record {
        fits = record {
          tree = t;
          is_good = record {
            of_tree = list.of_tree;
            placed = list.placed;
            few = rw (← count) few;
            ranked = record { each = rw numbers at (taken_ranks bytes ls (length ls) kinds shown.each) };
          };
          records_are = ap length o.same ∙ length_labels t;
          pieces_are = count;
          classes_are = counted ∙ class_records_are bytes ls (length ls) kinds ∙ ap length numbers;
        };
      }

-- the pieces below each node are those of the seats
below_edge : {A : Type 0} (b : Bool) (x : Nested A) → below_each (edge b x) ≡ below_each x
below_edge true x = refl
below_edge false x = refl

-- below a node with two children, by what is below them
below_two : {A : Type 0} (b c : Bool) (x y : Nested A) {left right : List ℕ} {m k : ℕ} → below_each x ≡ left
    → below_each y ≡ right → pieces_below x ≡ m → pieces_below y ≡ k
    → below_each (edge b x) ++ below_each (edge c y) ++ ((pieces_below (edge b x) + pieces_below (edge c y)) ∷ [])
    ≡ left ++ right ++ ((one b + m + (one c + k)) ∷ [])
below_two b c x y p q r s = simp (below_edge, pieces_below_edge, p, q, r, s)

below_seats : (t : Tree Leaf) (p n : ℕ)
    → below_each (nest t (wanted t)) ≡ map (λ (x : Seat). cut_edges x.tree) (seats t p n)
below_seats (leaf a) p n = refl
below_seats (catenation s t) p n =
    simp map-append (below_two (left_apart (catenation s t)) (right_apart (catenation s t))
    (nest s (wanted s)) (nest t (wanted t)) (below_seats s _ _) (below_seats t _ _)
    (pieces_below_nest s (wanted s)) (pieces_below_nest t (wanted t)))
below_seats (union s t) p n =
    simp map-append (below_two (left_apart (union s t)) (right_apart (union s t))
    (nest s (wanted s)) (nest t (wanted t)) (below_seats s _ _) (below_seats t _ _)
    (pieces_below_nest s (wanted s)) (pieces_below_nest t (wanted t)))
below_seats (star s) p n =
    let b : Bool = cut_only (open_size s) in
    simp map-append (ap (λ (l : List ℕ). l ++ (pieces_below (edge b (nest s (wanted s))) ∷ []))
    (below_edge b (nest s (wanted s)) ∙ below_seats s (child_piece b p n) (one b + n))
    ∙ rw (pieces_below_edge b (nest s (wanted s)), pieces_below_nest s (wanted s)))

-- what was measured tells the pieces below each node of a good list's tree
pub counts_below : (bytes ls sizes opens cuts : List ℕ) → LabelsOf bytes ls
    → Measured ls sizes opens cuts (length ls) → CountsBelow bytes cuts
unfolding cut_up
counts_below bytes ls sizes opens cuts shown measured = record { told = by_tree }
  where
    by_tree : (t : Tree Leaf) → Good bytes t → (r : ℕ) → r < nodes t
        → get_or cuts (r + 1) 0 ≡ get_or (below_each (cut_up t)) r 0
    by_tree t g r h =
        let e : ls ≡ labels t = labels_of_good bytes ls t g.of_tree g.ranked shown in
        (measured.counted t e).slot (r + 1) (omega (arith, ap length e, length_labels t))
        ∙ rw add-one (ap (λ (l : List ℕ). get_or l r 0) (sym (below_seats t 0 1)))

-- of a list that is not good nothing is told
pub counts_nothing : (bytes slots : List ℕ) → Judged bytes None → CountsBelow bytes slots
counts_nothing bytes slots judged = record { told = λ t g. absurd (judged.fits t g) }
