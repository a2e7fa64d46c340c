-- The records of a tree are those of its seats, one after the other, and their numbers are small.
use Rattle.std.specs.Prelude.{ℕ, zero, suc, ◌+◌, ◌*◌, ◌-◌, ◌%◌, ◌/◌, ◌≤◌, ◌<◌, ◌≡◌, refl, Bool, true, false, List, [], ◌∷◌, ◌++◌, length, drop}
use Rattle.std.proofs.Common.{ap, sym, ◌∙◌, arith, not-suc-le-zero, le_of_suc-le-suc, le_refl, add-zero, length-append, get_or-append-add, ne_eqb}
use Rattle.tree.specs.Lengths.{nodes_positive}
use Rattle.std.proofs.Math.ListN.{get_or-append}
use Rattle.std.proofs.Math.Seq.{drop-append-add}
use Rattle.std.proofs.Math.Decide.{dec_lt}
use Rattle.language.specs.Tree.{Tree, leaf, catenation, union, star, nodes}
use Rattle.tree.specs.Leaf.{Leaf}
use Rattle.tree.specs.Cut.{one, wanted, cut_only, open_size}
use Rattle.tree.specs.Layout.{
  record_size,
  two_bytes_limit,
  record_of,
  labelled_record,
  no_child,
  catenation_kind,
  union_kind,
  star_kind,
}
use Rattle.tree.specs.Numbering.{child_piece, numbered}
use Rattle.tree.specs.Records.{records, encode, piece_count, leaf_kind, leaf_character, leaf_number, leaf_label}
use Rattle.cutting.specs.Seats.{
  Seat,
  seat,
  seats,
  seat_at,
  no_seat,
  root_label,
  of_right,
  left_slot,
  right_slot,
  right_piece,
  right_new,
  past_left,
  left_apart,
  right_apart,
  of_left,
  cut_edges,
}
use Rattle.cutting.specs.SeatsLaws.{leaf_left, leaf_right, length_seats}
use Rattle.cutting.specs.SeatRecords.{child_number, seat_record, written, SeatWithin}

-- two lists of seats, one after the other
written_append : (i : ℕ) (xs ys : List Seat) → written i (xs ++ ys) ≡ written i xs ++ written (i + length xs) ys
written_append i [] ys = rw (add-zero i)
written_append i (x ∷ xs) ys =
    let e : suc i + length xs ≡ i + suc (length xs) = omega arith in
    ap (λ (l : List ℕ). seat_record i x ++ l) (written_append (suc i) xs ys
    ∙ ap (λ (k : ℕ). written (suc i) xs ++ written k ys) e)

-- these bytes are the records of the seats
record Writes (xs : List Seat) (first : ℕ) (bytes : List ℕ) : Type 0 where
  so : bytes ≡ written first xs

-- two lists of records, one after the other
writes_append : {xs ys : List Seat} {first : ℕ} (next : ℕ) {bs cs : List ℕ} → next ≡ first + length xs
    → Writes xs first bs → Writes ys next cs → Writes (xs ++ ys) first (bs ++ cs)
writes_append {xs} {ys} {first} next e v w =
    record { so = rw (v.so, w.so, e) (sym (written_append first xs ys)) }

-- a slot past 0 stands for the record before it
number_of : (slot n : ℕ) → slot ≡ n + 1 → child_number slot ≡ n
number_of slot n e = rw (ne_eqb slot 0 (omega arith)) (omega arith)

-- the record of a pair whose children have m and k nodes
pair_record : (kind p first m k : ℕ) → 1 ≤ m
    → record_of kind 0 (first + m - 1) (first + m + k - 1) p ≡ record_of kind 0 (child_number (first + m + k - k))
    (child_number (first + m + k)) p
pair_record kind p first m k h =
    rw (
      number_of (first + m + k - k) (first + m - 1) (omega arith),
      number_of (first + m + k) (first + m + k - 1) (omega arith),
    )

-- the record of a star whose child has m nodes
star_record : (p first m : ℕ) → 1 ≤ m → record_of star_kind 0 (first + m - 1) no_child p
    ≡ record_of star_kind 0 (child_number (first + m - 0)) no_child p
star_record p first m h = rw (number_of (first + m - 0) (first + m - 1) (omega arith))

-- a leaf has no right child
leaf_record : (a : Leaf) (p n first : ℕ)
    → record_of (leaf_kind a) (leaf_character a) (leaf_number a) no_child p ≡ seat_record first (seat (leaf a) p n)
leaf_record a p n first = rw (leaf_right a first)

-- the records of a tree are those of its seats
writes : (t : Tree Leaf) (first p n : ℕ) → Writes (seats t p n) first (records t (numbered t (wanted t) p n) first)
writes (leaf a) first p n = record { so = leaf_record a p n first }
writes (catenation s t) first p n =
    let e = length_seats s in
    let f = length_seats t in
    writes_append (first + nodes s + nodes t) (simp (length-append, e, f) (omega arith))
    (writes_append (first + nodes s) (simp e) (writes s first _ _) (writes t (first + nodes s) _ _))
    (record { so = pair_record catenation_kind p first (nodes s) (nodes t) (nodes_positive s) })
writes (union s t) first p n =
    let e = length_seats s in
    let f = length_seats t in
    writes_append (first + nodes s + nodes t) (simp (length-append, e, f) (omega arith))
    (writes_append (first + nodes s) (simp e) (writes s first _ _) (writes t (first + nodes s) _ _))
    (record { so = pair_record union_kind p first (nodes s) (nodes t) (nodes_positive s) })
writes (star s) first p n =
    let e = length_seats s in
    writes_append (first + nodes s) (simp e) (writes s first _ _)
    (record { so = star_record p first (nodes s) (nodes_positive s) })

-- the list of a tree, from its seats
pub encode_written : (t : Tree Leaf) → encode t ≡ written 0 (seats t 0 1)
unfolding encode
encode_written t = (writes t 0 0 1).so

-- the records from number j on begin with that of number j
pub drop_written : (i j : ℕ) (xs : List Seat) → j < length xs → drop (record_size * j) (written i xs)
    ≡ seat_record (i + j) (seat_at xs j) ++ drop (record_size * j + record_size) (written i xs)
drop_written i j [] h = absurd (not-suc-le-zero h)
drop_written i zero (x ∷ xs) h = rw (add-zero i)
drop_written i (suc j) (x ∷ xs) h =
    let rest : List ℕ = written (suc i) xs in
    let past : (k : ℕ) → drop (record_size + k) (seat_record i x ++ rest) ≡ drop k rest =
    drop-append-add (seat_record i x) rest in
    let here : record_size * suc j ≡ record_size + record_size * j = omega arith in
    let next : record_size * suc j + record_size ≡ record_size + (record_size * j + record_size) = omega arith in
    let number : suc i + j ≡ i + suc j = omega arith in
    ap (λ (k : ℕ). drop k (seat_record i x ++ rest)) here ∙ past (record_size * j)
    ∙ drop_written (suc i) j xs (le_of_suc-le-suc h)
    ∙ ap (λ (k : ℕ). seat_record k (seat_at xs j) ++ drop (record_size * j + record_size) rest) number
    ∙ ap (λ (l : List ℕ). seat_record (i + suc j) (seat_at xs j) ++ l)
    (sym (ap (λ (k : ℕ). drop k (seat_record i x ++ rest)) next ∙ past (record_size * j + record_size)))

-- the record that a leaf's label asks for is the leaf's
leaf_labelled : (a : Leaf) (p : ℕ) → leaf_label a < two_bytes_limit → labelled_record (leaf_label a) no_child no_child p
    ≡ record_of (leaf_kind a) (leaf_character a) (leaf_number a) no_child p
leaf_labelled (Leaf.character a) p h =
    let no_class : (1 + 256 * a) % 8 ≡ 1 = omega arith in
    let kind : (1 + 256 * a) % 256 ≡ 1 = omega arith in
    let character : (1 + 256 * a) / 256 ≡ a = omega arith in
    let byte : a % 256 ≡ a = omega arith in
    rw (no_class, kind, character, byte)
leaf_labelled (Leaf.class k) p h =
    let kind : (5 + 8 * k) % 8 ≡ 5 = omega arith in
    let number : (5 + 8 * k) / 8 ≡ k = omega arith in
    rw (kind, number)
leaf_labelled Leaf.empty_text p h = refl

-- the record that a root's label asks for, with the numbers of its children, is its seat's
pub labelled_seat : (u : Tree Leaf) (i p n left right : ℕ) → root_label u < two_bytes_limit
    → left ≡ child_number (left_slot (root_label u) i (of_right nodes u))
    → right ≡ child_number (right_slot (root_label u) i)
    → labelled_record (root_label u) left right p ≡ seat_record i (seat u p n)
labelled_seat (leaf a) i p n left right small is-left is_right =
    let no_left : left ≡ no_child = is-left ∙ ap child_number (leaf_left a i 0) in
    let no_right : right ≡ no_child = is_right ∙ ap child_number (leaf_right a i) in
    rw (no_left, no_right) (leaf_labelled a p small ∙ leaf_record a p n i)
labelled_seat (catenation s t) i p n left right small is-left is_right = rw (is-left, is_right)
labelled_seat (union s t) i p n left right small is-left is_right = rw (is-left, is_right)
labelled_seat (star s) i p n left right small is-left is_right = rw (is-left, is_right)

-- each seat's numbers do
EachSmall : ℕ → List Seat → Type 0
EachSmall limit xs = (i : ℕ) → i < length xs → SeatWithin limit (seat_at xs i)

-- in two lists, one after the other
small_append : (limit : ℕ) (xs ys : List Seat) → EachSmall limit xs → EachSmall limit ys → EachSmall limit (xs ++ ys)
unfolding EachSmall
small_append limit xs ys p q i h = by_place (dec_lt i (length xs))
  where
    by_place : Dec (i < length xs) → SeatWithin limit (seat_at (xs ++ ys) i)
    by_place (yes l) = rw (get_or-append xs ys no_seat i l) (p i l)
    by_place (no l) =
        let j : length xs + (i - length xs) ≡ i = omega arith in
        let e : seat_at (xs ++ ys) i ≡ seat_at ys (i - length xs) =
        rw j at (get_or-append-add xs ys (i - length xs) no_seat) in
        rw e (q (i - length xs) (omega (arith, length-append xs ys)))

-- in a list of one
small_one : (limit : ℕ) (x : Seat) → SeatWithin limit x → EachSmall limit (x ∷ [])
unfolding EachSmall
small_one limit x s zero h = s
small_one limit x s (suc i) h = absurd (not-suc-le-zero (le_of_suc-le-suc h))

-- a child's piece is older than the child's new pieces
child_older : (b : Bool) (p m n : ℕ) → p < n → n ≤ m → child_piece b p m < one b + m
child_older true p m n h k = omega arith
child_older false p m n h k = omega arith

-- so do the numbers of the left or only child, whose edge is cut as b says
small_left : (limit : ℕ) (u s : Tree Leaf) (b : Bool) (p n after : ℕ) → cut_edges u ≡ one b + cut_edges s + after
    → SeatWithin limit (seat u p n) → SeatWithin limit (seat s (child_piece b p n) (one b + n))
small_left limit u s b p n after e w = record {
  older = child_older b p n n w.older (le_refl n);
  bounded = omega (arith, w.bounded);
}

-- and those of the right one
small_right : (limit : ℕ) (u t : Tree Leaf) (p n : ℕ)
    → cut_edges u ≡ one (left_apart u) + of_left cut_edges u + (one (right_apart u) + cut_edges t)
    → SeatWithin limit (seat u p n)
    → SeatWithin limit (seat t (right_piece u p n) (right_new u n))
small_right limit u t p n e w = record {
  older = child_older (right_apart u) p (past_left u n) n w.older (omega arith);
  bounded = omega (arith, w.bounded);
}

-- the numbers of a tree's seats stay below what bounds the root's
seats_small : (limit : ℕ) (t : Tree Leaf) (p n : ℕ) → SeatWithin limit (seat t p n) → EachSmall limit (seats t p n)
seats_small limit (leaf a) p n w = small_one limit (seat (leaf a) p n) w
seats_small limit (catenation s t) p n w =
    let u = catenation s t in
    small_append limit _ _
    (small_append limit _ _ (seats_small limit s _ _ (small_left limit u s (left_apart u) p n _ refl w))
    (seats_small limit t _ _ (small_right limit u t p n refl w)))
    (small_one limit (seat u p n) w)
seats_small limit (union s t) p n w =
    let u = union s t in
    small_append limit _ _
    (small_append limit _ _ (seats_small limit s _ _ (small_left limit u s (left_apart u) p n _ refl w))
    (seats_small limit t _ _ (small_right limit u t p n refl w)))
    (small_one limit (seat u p n) w)
seats_small limit (star s) p n w =
    let u = star s in
    small_append limit _ _
    (seats_small limit s _ _ (small_left limit u s (cut_only (open_size s)) p n 0 (sym (add-zero (cut_edges u))) w))
    (small_one limit (seat u p n) w)

-- the numbers of a whole tree's seats end at its piece count
pub seat_small : (t : Tree Leaf) (i : ℕ) → i < nodes t → SeatWithin (piece_count t) (seat_at (seats t 0 1) i)
unfolding EachSmall piece_count
seat_small t i h =
    seats_small (piece_count t) t 0 1 (record { older = omega arith; bounded = le_refl (piece_count t) }) i
    (rw (length_seats t 0 1) h)
