-- The records are written one after the other: each as the tree has it, so that all of them are the tree's list.
use Rattle.std.specs.Prelude.{ℕ, ◌+◌, ◌*◌, ◌≤◌, ◌<◌, ◌≡◌, refl, List, ◌++◌, length, get_or, take, drop}
use Rattle.std.proofs.Common.{ap, sym, ◌∙◌, arith, zero-add, take-add, take_at, take_all, length-take-le, drop-drop}
use Rattle.std.proofs.lemmas.List.Edits.{sets}
use Rattle.std.proofs.Math.Seq.{drop-append-add}
use Rattle.language.specs.Tree.{Tree, nodes}
use Rattle.tree.specs.Leaf.{Leaf}
use Rattle.tree.specs.Layout.{record_size, two_bytes_limit, labelled_record}
use Rattle.tree.specs.Fields.{record_put}
use Rattle.tree.specs.Records.{labels, encode}
use Rattle.tree.specs.Lengths.{length_labels, length_encode}
use Rattle.cutting.specs.Seats.{Seat, seats, seat_at, root_label}
use Rattle.cutting.specs.SeatsLaws.{length_seats}
use Rattle.cutting.specs.SeatRecords.{seat_record, child_number, written}
use Rattle.lists.specs.SeatRecordsLaws.{encode_written, drop_written, labelled_seat}
use Rattle.cutting.specs.Measured.{Postorder, node}
use Rattle.cutting.specs.MeasuredLaws.{in_tree, label_is, Slots}
use Rattle.lists.specs.Recording.{Recorded, WrittenSoFar}

-- two buffers that fit are the same
pub recorded_unique : (ls before a b : List ℕ) → Postorder ls → Recorded ls before a → Recorded ls before b → a ≡ b
recorded_unique ls before a b o p q = p.bytes o.tree o.same ∙ sym (q.bytes o.tree o.same)

-- none yet
pub written_none : (ls before : List ℕ) → WrittenSoFar ls before before 0
written_none ls before = record { bytes = λ t e. refl }

-- all of them
pub written_all : (ls before after : List ℕ) → WrittenSoFar ls before after (length ls) → Recorded ls before after
written_all ls before after s = record { bytes = λ t e. by_tree t (ap length e ∙ length_labels t) (s.bytes t e) }
  where
    by_tree : (t : Tree Leaf) → length ls ≡ nodes t → after ≡ take (record_size * length ls) (encode t)
        ++ drop (record_size * length ls) before → after ≡ encode t ++ drop (record_size * nodes t) before
    by_tree t n e =
        e ∙ rw n (ap (λ (l : List ℕ). l ++ drop (record_size * nodes t) before)
        (take_all (record_size * nodes t) (encode t) (omega (arith, length_encode t))))

-- record i of a tree's list
pub record_of_list : (t : Tree Leaf) (i : ℕ) → i < nodes t
    → drop (record_size * i) (encode t)
    ≡ seat_record i (seat_at (seats t 0 1) i) ++ drop (record_size * i + record_size) (encode t)
record_of_list t i h =
    let s : List Seat = seats t 0 1 in
    let e : encode t ≡ written 0 s = encode_written t in
    ap (λ (l : List ℕ). drop (record_size * i) l) e ∙ drop_written 0 i s (rw (length_seats t 0 1) h)
    ∙ ap (λ (k : ℕ). seat_record k (seat_at s i) ++ drop (record_size * i + record_size) (written 0 s)) (zero-add i)
    ∙ ap (λ (l : List ℕ). seat_record i (seat_at s i) ++ drop (record_size * i + record_size) l) (sym e)

-- a list that agrees with another up to k, with one record more put in
one_more : (list before part : List ℕ) (k : ℕ) → length part ≡ record_size → k ≤ length list
    → drop k list ≡ part ++ drop (k + record_size) list
    → take k (take k list ++ drop k before) ++ part ++ drop (k + record_size) (take k list ++ drop k before)
    ≡ take (k + record_size) list
    ++ drop (k + record_size) before
one_more list before part k whole inside next =
    let front : length (take k list) ≡ k = length-take-le k list inside in
    let first : take k (take k list ++ drop k before) ≡ take k list = take_at (take k list) (drop k before) k front in
    let last : drop (k + record_size) (take k list ++ drop k before) ≡ drop (k + record_size) before =
    rw front at (drop-append-add (take k list) (drop k before) record_size) ∙ drop-drop record_size k before in
    let more : take (k + record_size) list ≡ take k list ++ part =
    take-add k record_size list
    ∙ ap (λ (l : List ℕ). take k list ++ l) (ap (λ (l : List ℕ). take record_size l) next
    ∙ take_at part (drop (k + record_size) list) record_size whole) in
    rw (first, last, more)

-- the record that the slots of record i's children give is its seat's
pub fields_are : (t : Tree Leaf) (i left right label left_number right-number piece : ℕ) (sizes : List ℕ)
    → Slots t i left right sizes → label ≡ root_label (node t i) → label < two_bytes_limit
    → left_number ≡ child_number left → right-number ≡ child_number right → piece ≡ (seat_at (seats t 0 1) i).piece
    → labelled_record label left_number right-number piece ≡ seat_record i (seat_at (seats t 0 1) i)
fields_are t i left right label left_number right-number piece sizes k is-label small is-left is_right is-piece =
    let x : Seat = seat_at (seats t 0 1) i in
    ap (λ (l : ℕ). labelled_record l left_number right-number piece) is-label
    ∙ ap (λ (p : ℕ). labelled_record (root_label (node t i)) left_number right-number p) is-piece
    ∙ labelled_seat x.tree i x.piece x.new left_number right-number (rw is-label at small)
    (is-left ∙ ap child_number k.left_is) (is_right ∙ ap child_number k.right_is)

-- record i is put in
pub written_more : (ls before after next : List ℕ) (i left right label left_number right-number piece : ℕ)
    (sizes : List ℕ) → i < length ls
    → ((t : Tree Leaf) → ls ≡ labels t → Slots t i left right sizes × (piece ≡ (seat_at (seats t 0 1) i).piece))
    → label ≡ get_or ls i 0 → label < two_bytes_limit
    → left_number ≡ child_number left → right-number ≡ child_number right
    → record_size * i + record_size ≤ length after
    → next ≡ sets after (record_size * i)
    (labelled_record label left_number right-number piece)
    → WrittenSoFar ls before after i → WrittenSoFar ls before next (i + 1)
written_more ls before after next i left right label left_number right-number piece sizes h facts is-label small is-left
    is_right room put s =
    record { bytes = λ t e. by_tree t e (in_tree ls t i e h) }
  where
    by_tree : (t : Tree Leaf) → ls ≡ labels t → i < nodes t → next ≡ take (record_size * (i + 1)) (encode t)
        ++ drop (record_size * (i + 1)) before
    by_tree t e k =
        let here : labelled_record label left_number right-number piece ≡ seat_record i (seat_at (seats t 0 1) i) =
        fields_are t i left right label left_number right-number piece sizes (facts t e).0
        (is-label ∙ label_is ls t i e k) small is-left is_right (facts t e).1 in
        let more : record_size * (i + 1) ≡ record_size * i + record_size = omega arith in
        put ∙ ap (λ (l : List ℕ). sets after (record_size * i) l) here
        ∙ record_put after (record_size * i) (seat_record i (seat_at (seats t 0 1) i)) refl room
        ∙ rw (s.bytes t e, more)
        (one_more (encode t) before (seat_record i (seat_at (seats t 0 1) i)) (record_size * i) refl
        (omega (arith, length_encode t)) (record_of_list t i k))
