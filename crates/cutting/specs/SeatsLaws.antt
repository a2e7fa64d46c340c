-- Each seat of a tree's list stands behind all that is under it, so a record's children are found by their slots.
use Rattle.std.specs.Prelude.{ℕ, zero, suc, ◌+◌, ◌*◌, ◌-◌, ◌<◌, ◌≡◌, refl, Bool, List, [], ◌∷◌, ◌++◌, map, length}
use Rattle.std.proofs.Common.{ap, sym, ◌∙◌, append_assoc, append-nil, arith, not-suc-le-zero, le_of_suc-le-suc, zero-add, ne_eqb, lt-ltb, le-ltb, length-append, get_or-append-add}
use Rattle.std.proofs.lemmas.List.{map-append, get_or_at}
use Rattle.std.proofs.Math.Nat.{sub-zero}
use Rattle.std.proofs.Math.Decide.{dec_lt}
use Rattle.std.proofs.Math.ListN.{get_or-append}
use Rattle.std.proofs.Math.Seq.{get_or-append_seam}
use Rattle.language.specs.Tree.{Tree, leaf, catenation, union, star, nodes}
use Rattle.tree.specs.Leaf.{Leaf}
use Rattle.tree.specs.Cut.{one, wanted, cut_only, open_size}
use Rattle.tree.specs.Choice.{only_left}
use Rattle.tree.specs.Numbering.{child_piece, Nodewise, at_left, at_right, Walker, walked}
use Rattle.tree.specs.Records.{labels, leaf_label}
use Rattle.cutting.specs.Seats.{
  left_piece,
  left_new,
  right_piece,
  right_new,
  Seat,
  seat,
  seats_by,
  seats,
  under,
  no_seat,
  seat_at,
  SeatOf,
  Seated,
  held,
  label,
  right_slot,
  left_slot,
  Around,
}

-- one seat for each node
pub length_seats : (t : Tree Leaf) (p n : ℕ) → length (seats t p n) ≡ nodes t
length_seats (leaf a) p n = refl
length_seats (catenation s t) p n = let e = length_seats s in let f =
    length_seats t in simp (length-append, e, f) (omega arith)
length_seats (union s t) p n = let e = length_seats s in let f =
    length_seats t in simp (length-append, e, f) (omega arith)
length_seats (star s) p n = let e = length_seats s in simp (length-append, e) (omega arith)

-- it stands so with more seats behind
seat_of_before : {xs : List Seat} {i : ℕ} {x : Seat} (ys : List Seat) → SeatOf xs i x → SeatOf (xs ++ ys) i x
seat_of_before ys s =
    record {
      before = s.before;
      after = s.after ++ ys;
      whole = ap (λ (l : List Seat). l ++ ys) s.whole
          ∙ simp append_assoc;
      ends = s.ends;
    }

-- and with more seats in front, which move its number
seat_of_behind : (xs : List Seat) {ys : List Seat} {j : ℕ} {x : Seat} (i : ℕ) → i ≡ length xs + j → SeatOf ys j x
    → SeatOf (xs ++ ys) i x
seat_of_behind xs i e s =
    record {
      before = xs ++ s.before;
      after = s.after;
      whole = ap (λ (l : List Seat). xs ++ l) s.whole ∙ simp append_assoc;
      ends = simp length-append (omega (arith, s.ends));
    }

-- two lists in which every seat stands so, one after the other
seated_append : (xs ys : List Seat) → Seated xs → Seated ys → Seated (xs ++ ys)
unfolding Seated
seated_append xs ys p q i h = by_place (dec_lt i (length xs))
  where
    by_place : Dec (i < length xs) → SeatOf (xs ++ ys) i (seat_at (xs ++ ys) i)
    by_place (yes l) = rw (get_or-append xs ys no_seat i l) (seat_of_before ys (p i l))
    by_place (no l) =
        let j : length xs + (i - length xs) ≡ i = omega arith in
        let e : seat_at (xs ++ ys) i ≡ seat_at ys (i - length xs) =
        rw j at (get_or-append-add xs ys (i - length xs) no_seat) in
        rw e (seat_of_behind xs i (sym j) (q (i - length xs) (omega (arith, length-append xs ys))))

-- one more seat, whose children are those before it
seated_last : (xs : List Seat) (x : Seat) → Seated xs → xs ++ (x ∷ []) ≡ under x → Seated (xs ++ (x ∷ []))
unfolding Seated
seated_last xs x p e i h = by_place (dec_lt i (length xs))
  where
    by_place : Dec (i < length xs) → SeatOf (xs ++ (x ∷ [])) i (seat_at (xs ++ (x ∷ [])) i)
    by_place (yes l) = rw (get_or-append xs (x ∷ []) no_seat i l) (seat_of_before (x ∷ []) (p i l))
    by_place (no l) =
        let n : length (xs ++ (x ∷ [])) ≡ length xs + 1 = length-append xs (x ∷ []) in
        rw (get_or_at xs x [] no_seat i (omega arith))
        (record {
          before = [];
          after = [];
          whole = e ∙ sym (append-nil (under x));
          ends = omega (arith, length_seats x.tree x.piece x.new, ap length e);
        })

-- none at all
none_seated : Seated []
unfolding Seated
none_seated i h = absurd (not-suc-le-zero h)

-- in a tree's list every seat stands so: it was put behind all that is under it
pub seats_seated : (t : Tree Leaf) (p n : ℕ) → Seated (seats t p n)
seats_seated (leaf a) p n = seated_last [] _ none_seated refl
seats_seated (catenation s t) p n = seated_last _ _ (seated_append _ _ (seats_seated s _ _) (seats_seated t _ _)) refl
seats_seated (union s t) p n = seated_last _ _ (seated_append _ _ (seats_seated s _ _) (seats_seated t _ _)) refl
seats_seated (star s) p n = seated_last _ _ (seats_seated s _ _) refl

-- a slot past 0 holds the number of the record before it
pub held_seat : (f : Seat → ℕ) (xs : List Seat) (j : ℕ) → j < length xs → held f xs (suc j) ≡ f (seat_at xs j)
held_seat f [] j h = absurd (not-suc-le-zero h)
held_seat f (x ∷ xs) zero h = refl
held_seat f (x ∷ xs) (suc j) h = held_seat f xs j (le_of_suc-le-suc h)

-- the labels of the seats' roots are these
record RootsLabelled (xs : List Seat) (ls : List ℕ) : Type 0 where
  so : ls ≡ map label xs

-- two lists, one after the other
labelled_append : {xs ys : List Seat} {ls ms : List ℕ} → RootsLabelled xs ls → RootsLabelled ys ms
    → RootsLabelled (xs ++ ys) (ls ++ ms)
labelled_append e f = record { so = rw (map-append, e.so, f.so) }

-- one seat
labelled_root : (x : Seat) → RootsLabelled (x ∷ []) (label x ∷ [])
labelled_root x = record { so = refl }

-- a tree's list, node by node
labelled : (t : Tree Leaf) (p n : ℕ) → RootsLabelled (seats t p n) (labels t)
labelled (leaf a) p n = labelled_root (seat (leaf a) p n)
labelled (catenation s t) p n = labelled_append (labelled_append (labelled s _ _) (labelled t _ _))
    (labelled_root (seat (catenation s t) p n))
labelled (union s t) p n = labelled_append (labelled_append (labelled s _ _) (labelled t _ _))
    (labelled_root (seat (union s t) p n))
labelled (star s) p n = labelled_append (labelled s _ _) (labelled_root (seat (star s) p n))

-- the labels of a tree are those of its seats' roots
pub labels_seats : (t : Tree Leaf) (p n : ℕ) → labels t ≡ map label (seats t p n)
labels_seats t p n = (labelled t p n).so

-- the seats below the root's
abbrev below_by : Tree Leaf → Nodewise Walker → List Seat
below_by (leaf a) x = []
below_by (catenation s t) x = seats_by s (at_left x) ++ seats_by t (at_right x)
below_by (union s t) x = seats_by s (at_left x) ++ seats_by t (at_right x)
below_by (star s) x = seats_by s (at_left x)

-- the seats below a seat
abbrev below : Seat → List Seat
below x = below_by x.tree (walked x.tree (wanted x.tree) x.piece x.new)

-- a seat is the last of those under it
root_last : (x : Seat) → under x ≡ below x ++ (x ∷ [])
root_last x = by_kind x.tree x.piece x.new
  where
    by_kind : (t : Tree Leaf) (p n : ℕ) → seats t p n ≡ below (seat t p n) ++ (seat t p n ∷ [])
    by_kind (leaf a) p n = refl
    by_kind (catenation s t) p n = refl
    by_kind (union s t) p n = refl
    by_kind (star s) p n = refl

-- the slot of a seat holds its number
held_root : (f : Seat → ℕ) (before after : List Seat) (x : Seat) (j : ℕ) → length before + nodes x.tree ≡ j
    → held f (before ++ under x ++ after) j ≡ f x
held_root f before after x j e =
    let rest : List Seat = below x in
    let split : before ++ under x ++ after ≡ (before ++ rest) ++ x ∷ after = rw (root_last x) (simp append_assoc) in
    let all : length (under x) ≡ length rest + 1 = ap length (root_last x) ∙ length-append rest (x ∷ []) in
    let long : suc (length (before ++ rest)) ≡ j =
    simp length-append (omega (arith, length_seats x.tree x.piece x.new)) in
    rw (split, ← long)
    (held_seat f (before ++ rest ++ x ∷ after) (length (before ++ rest)) (simp length-append (omega arith))
    ∙ ap f (get_or-append_seam (before ++ rest) x after no_seat))

-- the last slot is the root's
pub held_whole : (f : Seat → ℕ) (t : Tree Leaf) (p n : ℕ) → held f (seats t p n) (nodes t) ≡ f (seat t p n)
held_whole f t p n =
    let one_part : seats t p n ≡ [] ++ seats t p n ++ [] = sym (append-nil (seats t p n)) in
    ap (λ (l : List Seat). held f l (nodes t)) one_part ∙ held_root f [] [] (seat t p n) (nodes t) (zero-add (nodes t))

-- a leaf has no child
pub leaf_left : (a : Leaf) (i size : ℕ) → left_slot (leaf_label a) i size ≡ 0
leaf_left (Leaf.character zero) i size = refl
leaf_left (Leaf.character (suc a)) i size =
    rw (le-ltb (1 + 256 * suc a) 2 (omega arith), lt-ltb 4 (1 + 256 * suc a) (omega arith))
leaf_left (Leaf.class k) i size = rw (le-ltb (5 + 8 * k) 2 (omega arith), lt-ltb 4 (5 + 8 * k) (omega arith))
leaf_left Leaf.empty_text i size = refl

pub leaf_right : (a : Leaf) (i : ℕ) → right_slot (leaf_label a) i ≡ 0
leaf_right (Leaf.character a) i = rw (ne_eqb (1 + 256 * a) 2 (omega arith), ne_eqb (1 + 256 * a) 3 (omega arith))
leaf_right (Leaf.class k) i = rw (ne_eqb (5 + 8 * k) 2 (omega arith), ne_eqb (5 + 8 * k) 3 (omega arith))
leaf_right Leaf.empty_text i = refl

-- a pair's children end at its own record and where the right child begins
pair_around : (xs before after : List Seat) (i : ℕ) (l r x : Seat) → xs ≡ before ++ (under l ++ under r ++ (x ∷ []))
    ++ after
    → length before + (nodes l.tree + nodes r.tree + 1) ≡ i + 1
    → ((f : Seat → ℕ) → held f xs (i - nodes r.tree) ≡ f l) × ((f : Seat → ℕ) → held f xs i ≡ f r)
pair_around xs before after i l r x whole ends =
    let left_first : xs ≡ before ++ under l ++ (under r ++ (x ∷ []) ++ after) = whole ∙ simp append_assoc in
    let right_first : xs ≡ before ++ under l ++ under r ++ ((x ∷ []) ++ after) = whole ∙ simp append_assoc in (
      (λ f. ap (λ (l : List Seat). held f l (i - nodes r.tree)) left_first
          ∙ held_root f before (under r ++ (x ∷ []) ++ after) l (i - nodes r.tree) (omega arith)),
      (λ f. ap (λ (l : List Seat). held f l i) right_first
          ∙ held_root f (before ++ under l) ((x ∷ []) ++ after) r i
          (simp length-append (omega (arith, length_seats l.tree l.piece l.new)))),
    )

-- the only child ends at the star's own record
star_around : (xs before after : List Seat) (i : ℕ) (l x : Seat) → xs ≡ before ++ (under l ++ (x ∷ [])) ++ after
    → length before + (nodes l.tree + 1) ≡ i + 1 → (f : Seat → ℕ) → held f xs i ≡ f l
star_around xs before after i l x whole ends f =
    let only_first : xs ≡ before ++ under l ++ ((x ∷ []) ++ after) = whole ∙ simp append_assoc in
    ap (λ (l : List Seat). held f l i) only_first ∙ held_root f before ((x ∷ []) ++ after) l i (omega arith)

-- the children stand where their slots say
around_root : (xs : List Seat) (i : ℕ) (u : Tree Leaf) (p n : ℕ) → SeatOf xs i (seat u p n) → Around xs i (seat u p n)
around_root xs i (leaf a) p n s =
    record { inside = omega arith; left = λ f. rw (leaf_left a i 0); right = λ f. rw (leaf_right a i) }
around_root xs i (catenation s t) p n w =
    let u = catenation s t in
    let children = pair_around xs w.before w.after i (seat s (left_piece u p n) (left_new u n))
    (seat t (right_piece u p n) (right_new u n)) (seat u p n) w.whole w.ends in
    record { inside = omega (arith, w.ends); left = children.0; right = children.1 }
around_root xs i (union s t) p n w =
    let u = union s t in
    let children = pair_around xs w.before w.after i (seat s (left_piece u p n) (left_new u n))
    (seat t (right_piece u p n) (right_new u n)) (seat u p n) w.whole w.ends in
    record { inside = omega (arith, w.ends); left = children.0; right = children.1 }
around_root xs i (star s) p n w =
    let only : Bool → Seat = λ b. seat s (child_piece b p n) (one b + n) in
    record {
      inside = omega (arith, w.ends);
      left = λ f. rw sub-zero (star_around xs w.before w.after i (only (cut_only (open_size s)))
          (seat (star s) p n) w.whole w.ends f) ∙ ap (λ (b : Bool). f (only b)) (sym (only_left (open_size s)));
      right = λ f. refl;
    }

-- so it is at every record of a list in which every seat stands behind all that is under it
pub around : (xs : List Seat) (i : ℕ) → Seated xs → i < length xs → Around xs i (seat_at xs i)
unfolding Seated
around xs i s h = around_root xs i _ _ _ (s i h)
