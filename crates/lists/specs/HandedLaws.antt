-- The records hand their piece numbers to their children, from the last to the first.
use Rattle.std.specs.Prelude.{ℕ, ◌+◌, ◌-◌, ◌≤◌, ◌<◌, ◌≡◌, refl, ◌⊎◌, Bool, List, length, get_or, set}
use Rattle.std.proofs.Common.{ap, sym, subst, ◌∙◌, inl, inr, ⊎_elim, arith, add-one, length-set, get_or-set_same, get_or-set_other}
use Rattle.std.proofs.Math.Nat.{sub-zero}
use Rattle.std.proofs.Math.Decide.{dec_lt, ℕ_discrete}
use Rattle.language.specs.Tree.{Tree, leaf, catenation, union, star, nodes}
use Rattle.tree.specs.Leaf.{Leaf}
use Rattle.tree.specs.Cut.{open_size, one, cut_left, cut_right}
use Rattle.tree.specs.Limits.{most_nodes, most_labels}
use Rattle.tree.specs.Numbering.{child_piece}
use Rattle.tree.specs.Records.{labels}
use Rattle.cutting.specs.Gathered.{cut_sum}
use Rattle.cutting.specs.GatheredLaws.{pieces_at_most_nodes}
use Rattle.lists.specs.SeatRecordsLaws.{seat_small}
use Rattle.tree.specs.Lengths.{length_labels}
use Rattle.cutting.specs.Measured.{node, Measured, Postorder}
use Rattle.cutting.specs.MeasuredLaws.{in_tree, measured_less, Children, children, gathered}
use Rattle.cutting.specs.Seats.{
  Seat,
  seat,
  seats,
  seat_at,
  root_label,
  cut_edges,
  of_left,
  of_right,
  left_piece,
  left_new,
  right_piece,
  right_new,
  left_slot,
  right_slot,
  held,
  Around,
}
use Rattle.cutting.specs.SeatsLaws.{leaf_left, leaf_right, held_seat, held_whole, length_seats, seats_seated, around}
use Rattle.lists.specs.Handed.{
  size_of,
  Waits,
  here,
  before,
  SlotFilled,
  SeatsHeld,
  piece_of,
  new_of,
  Handed,
  Pieced,
}

-- no slot that waits is slot 0
waits_positive : {xs : List Seat} {i m : ℕ} → Waits xs i m → 1 ≤ m
waits_positive (here h e) = h
waits_positive (before h w) = waits_positive w

-- none waits before the first record
waits_none : {xs : List Seat} {i m : ℕ} → Waits xs i m → i ≡ 0 → ⊥
waits_none (here h e) z = omega arith
waits_none (before h w) z = omega arith

-- a slot waits as the last one, or before all that stands under that
waits_cases : {xs : List Seat} {i m : ℕ} → Waits xs i m → (m ≡ i) ⊎ Waits xs (i - held size_of xs i) m
waits_cases (here h e) = inl e
waits_cases (before h w) = inr w

-- the slots that wait at another number
waits_at : {xs : List Seat} (i j : ℕ) {m : ℕ} → i ≡ j → Waits xs i m → Waits xs j m
waits_at {xs} i j {m} e w = subst (λ (k : ℕ). Waits xs k m) e w

-- what waits before all that stands under slot i + 1 waits there too
waits_on : (xs : List Seat) (i j m : ℕ) → j ≡ i + 1 - held size_of xs (i + 1) → Waits xs j m → Waits xs (i + 1) m
waits_on xs i j m e w = before {i = i + 1} (omega arith) (waits_at j (i + 1 - held size_of xs (i + 1)) e w)

-- the same for a pair: its right child is at slot i, its left child where the right one begins
pair : (xs : List Seat) (i m : ℕ) (s t : Tree Leaf) → held size_of xs (i + 1) ≡ nodes s + nodes t + 1
    → held size_of xs (i - nodes t) ≡ nodes s → held size_of xs i ≡ nodes t
    → nodes s + nodes t ≤ i → Waits xs i m → (m ≡ i - nodes t) ⊎ ((m ≡ i) ⊎ Waits xs (i + 1) m)
pair xs i m s t size left right inside w =
    ⊎_elim (λ e. inr (inl e))
    (λ v. by_left (waits_cases (waits_at (i - held size_of xs i) (i - nodes t) (omega arith) v))) (waits_cases w)
  where
    by_left : (m ≡ i - nodes t) ⊎ Waits xs (i - nodes t - held size_of xs (i - nodes t)) m
        → (m ≡ i - nodes t) ⊎ ((m ≡ i) ⊎ Waits xs (i + 1) m)
    by_left (inl e) = inl e
    by_left (inr v) = inr (inr (waits_on xs i (i - nodes t - held size_of xs (i - nodes t)) m (omega arith) v))

-- what waits when record i has handed on its numbers: its children's slots, and what waited before
waits_step : (xs : List Seat) (i m : ℕ) (u : Tree Leaf) (p n : ℕ) → Around xs i (seat u p n)
    → held size_of xs (i + 1) ≡ nodes u → Waits xs i m
    → (m ≡ left_slot (root_label u) i (of_right nodes u)) ⊎ ((m ≡ right_slot (root_label u) i) ⊎ Waits xs (i + 1) m)
waits_step xs i m (leaf b) p n a size w = inr (inr (waits_on xs i i m (omega arith) w))
waits_step xs i m (catenation s t) p n a size w = pair xs i m s t size (a.left size_of) (a.right size_of) a.inside
    w
waits_step xs i m (union s t) p n a size w = pair xs i m s t size (a.left size_of) (a.right size_of) a.inside w
waits_step xs i m (star s) p n a size w =
    let only : i - 0 ≡ i = sub-zero i in
    let below : held size_of xs i ≡ nodes s = rw only at (a.left size_of) in
    ⊎_elim (λ e. inl (rw only e)) (λ v. inr (inr (waits_on xs i (i - held size_of xs i) m (omega arith) v)))
    (waits_cases w)

-- at first the root's slot alone is filled
pub gives_root : (f : Seat → ℕ) (t : Tree Leaf) (slots : List ℕ) → get_or slots (nodes t) 0 ≡ f (seat t 0 1)
    → SeatsHeld f t (nodes t) slots
gives_root f t slots e = record { slot = by_case }
  where
    by_case : (m : ℕ) → m ≤ nodes t → SlotFilled (seats t 0 1) (nodes t) m → get_or slots m 0 ≡ held f (seats t 0 1) m
    by_case m h (inl l) = absurd (omega arith)
    by_case m h (inr w) =
        ⊎_elim (λ z. rw z (e ∙ sym (held_whole f t 0 1)))
        (λ v. absurd (waits_none v (omega (arith, held_whole size_of t 0 1))))
        (waits_cases w)

-- a slot that is none of record i's children and is filled after record i was filled before
filled_before : (t : Tree Leaf) (i left right m : ℕ) → i < nodes t
    → left ≡ left_slot (root_label (node t i)) i (of_right nodes (node t i))
    → right ≡ right_slot (root_label (node t i)) i
    → (m ≡ left → ⊥) → (m ≡ right → ⊥) → SlotFilled (seats t 0 1) i m → SlotFilled (seats t 0 1) (i + 1) m
filled_before t i left right m h l r not_left not_right (inl past) = by_next (dec_lt (i + 1) m)
  where
    by_next : Dec (i + 1 < m) → SlotFilled (seats t 0 1) (i + 1) m
    by_next (yes k) = inl k
    by_next (no k) = inr (here {i = i + 1} {m = m} (omega arith) (omega arith))
filled_before t i left right m h l r not_left not_right (inr w) =
    let s : List Seat = seats t 0 1 in
    let x : Seat = seat_at s i in
    let inside : i < length s = rw (length_seats t 0 1) h in
    let size : held size_of s (i + 1) ≡ nodes x.tree = rw add-one (held_seat size_of s i inside) in
    ⊎_elim (λ e. absurd (not_left (e ∙ sym l))) (⊎_elim (λ e. absurd (not_right (e ∙ sym r))) (λ v. inr v))
    (waits_step s i m x.tree x.piece x.new (around s i (seats_seated t 0 1) inside) size w)

-- no filled slot is slot 0
filled_positive : (t : Tree Leaf) (i m : ℕ) → SlotFilled (seats t 0 1) i m → 1 ≤ m
filled_positive t i m (inl l) = omega arith
filled_positive t i m (inr w) = waits_positive w

-- record i hands a number to each of its children
pub gives_more : (f : Seat → ℕ) (t : Tree Leaf) (i left right a b : ℕ) (slots : List ℕ) → i < nodes t
    → nodes t < length slots → left ≤ i → right ≤ i
    → left ≡ left_slot (root_label (node t i)) i (of_right nodes (node t i))
    → right ≡ right_slot (root_label (node t i)) i
    → (1 ≤ left → a ≡ held f (seats t 0 1) left) → (1 ≤ right → b ≡ held f (seats t 0 1) right)
    → SeatsHeld f t (i + 1) slots → SeatsHeld f t i (set (set slots left a) right b)
gives_more f t i left right a b slots h room left_le right_le l r for-left for-right g =
    record { slot = λ m k w. by_right m k w (ℕ_discrete m right) }
  where
    by_left : (m : ℕ) → m ≤ nodes t → SlotFilled (seats t 0 1) i m → (m ≡ right → ⊥) → Dec (m ≡ left)
        → get_or (set slots left a) m 0 ≡ held f (seats t 0 1) m
    by_left m k w not_right (yes e) =
        rw e (get_or-set_same slots left a 0 (omega arith) ∙ for-left (omega (arith, filled_positive t i m w)))
    by_left m k w not_right (no e) =
        get_or-set_other slots left m a 0 e ∙ g.slot m k (filled_before t i left right m h l r e not_right w)

    by_right : (m : ℕ) → m ≤ nodes t → SlotFilled (seats t 0 1) i m → Dec (m ≡ right)
        → get_or (set (set slots left a) right b) m 0 ≡ held f (seats t 0 1) m
    by_right m k w (yes e) =
        rw e (get_or-set_same (set slots left a) right b 0 (simp length-set (omega arith))
        ∙ for-right (omega (arith, filled_positive t i m w)))
    by_right m k w (no e) = get_or-set_other (set slots left a) right m b 0 e ∙ by_left m k w e (ℕ_discrete m left)

-- where there is a left or only child, a number of it is its own
of_left_there : (u : Tree Leaf) (i size k : ℕ) → 1 ≤ left_slot (root_label u) i size → of_left (λ (s : Tree Leaf). k) u
    ≡ k
of_left_there (leaf a) i size k h = absurd (omega (arith, leaf_left a i size))
of_left_there (catenation s t) i size k h = refl
of_left_there (union s t) i size k h = refl
of_left_there (star s) i size k h = refl

-- and where there is a right child
of_right_there : (u : Tree Leaf) (i k : ℕ) → 1 ≤ right_slot (root_label u) i → of_right (λ (t : Tree Leaf). k) u ≡ k
of_right_there (leaf a) i k h = absurd (omega (arith, leaf_right a i))
of_right_there (catenation s t) i k h = refl
of_right_there (union s t) i k h = refl
of_right_there (star s) i k h = absurd (omega arith)

-- what a record hands to its children, by the open sizes of both, the cut edges below the left one, and its own numbers
pub record Hands (xs : List Seat) (left right left_open right_open left_cuts own new : ℕ) : Type 0 where
  pub left_piece_is : 1 ≤ left → child_piece (cut_left left_open right_open) own new ≡ held piece_of xs left
  pub left_new_is : 1 ≤ left → one (cut_left left_open right_open) + new ≡ held new_of xs left
  pub right_piece_is : 1 ≤ right
      → child_piece (cut_right left_open right_open) own (one (cut_left left_open right_open) + left_cuts + new)
      ≡ held piece_of xs right
  pub right_new_is : 1 ≤ right
      → one (cut_right left_open right_open) + (one (cut_left left_open right_open) + left_cuts + new)
      ≡ held new_of xs right

-- these are the numbers of the children's seats
hands_root : (xs : List Seat) (i : ℕ) (u : Tree Leaf) (p n : ℕ) → Around xs i (seat u p n)
    → Hands xs (left_slot (root_label u) i (of_right nodes u)) (right_slot (root_label u) i) (of_left open_size u)
    (of_right open_size u) (of_left cut_edges u) p n
hands_root xs i u p n a =
    record {
      left_piece_is = λ there. sym (a.left piece_of ∙ of_left_there u i (of_right nodes u) (left_piece u p n) there);
      left_new_is = λ there. sym (a.left new_of ∙ of_left_there u i (of_right nodes u) (left_new u n) there);
      right_piece_is = λ there. sym (a.right piece_of ∙ of_right_there u i (right_piece u p n) there);
      right_new_is = λ there. sym (a.right new_of ∙ of_right_there u i (right_new u n) there);
    }

-- the same where each number is known by an equation
hands_by : (xs : List Seat) {l r lo ro lc p n left right left_open right_open left_cuts own new : ℕ} → left ≡ l
    → right ≡ r → left_open ≡ lo → right_open ≡ ro → left_cuts ≡ lc
    → own ≡ p → new ≡ n → Hands xs l r lo ro lc p n → Hands xs left right left_open right_open left_cuts own new
hands_by xs l r lo ro lc o n h = rw (l, r, lo, ro, lc, o, n) h

-- what record i of a tree hands to its children
pub hands : (t : Tree Leaf) (i : ℕ) {left right left_open right_open left_cuts own new : ℕ} → i < nodes t
    → left ≡ left_slot (root_label (node t i)) i (of_right nodes (node t i))
    → right ≡ right_slot (root_label (node t i)) i
    → left_open ≡ of_left open_size (node t i) → right_open ≡ of_right open_size (node t i)
    → left_cuts ≡ of_left cut_edges (node t i)
    → own ≡ (seat_at (seats t 0 1) i).piece → new ≡ (seat_at (seats t 0 1) i).new
    → Hands (seats t 0 1) left right left_open right_open left_cuts own new
hands t i h l r lo ro lc o n =
    hands_by (seats t 0 1) l r lo ro lc o n
    (hands_root (seats t 0 1) i (node t i) (seat_at (seats t 0 1) i).piece (seat_at (seats t 0 1) i).new
    (around (seats t 0 1) i (seats_seated t 0 1) (rw (length_seats t 0 1) h)))

-- at first the root has piece 0, and its new pieces begin at 1
pub handed_none : (ls pieces news : List ℕ) → length ls < length pieces → length ls < length news
    → Handed ls (set pieces (length ls) 0) (set news (length ls) 1) (length ls)
handed_none ls pieces news h k =
    record {
      pieced = λ t e. at_root piece_of t 0 pieces e h refl;
      renewed = λ t e. at_root new_of t 1 news e k refl;
    }
  where
    at_root : (f : Seat → ℕ) (t : Tree Leaf) (v : ℕ) (slots : List ℕ) → ls ≡ labels t → length ls < length slots
        → v ≡ f (seat t 0 1) → SeatsHeld f t (length ls) (set slots (length ls) v)
    at_root f t v slots e room is =
        let n : length ls ≡ nodes t = ap length e ∙ length_labels t in
        rw n (gives_root f t (set slots (nodes t) v) (get_or-set_same slots (nodes t) v 0 (rw n at room) ∙ is))

-- what record i was handed
pub own_number : (f : Seat → ℕ) (t : Tree Leaf) (i : ℕ) (slots : List ℕ) → i < nodes t → SeatsHeld f t (i + 1) slots
    → get_or slots (i + 1) 0 ≡ f (seat_at (seats t 0 1) i)
own_number f t i slots h g =
    g.slot (i + 1) (omega arith) (inr (here {i = i + 1} {m = i + 1} (omega arith) refl))
    ∙ rw add-one (held_seat f (seats t 0 1) i (rw (length_seats t 0 1) h))

-- what the numbers of a turn stay below
pub record TurnSmall (left right slot : ℕ) (opens cuts news : List ℕ) : Type 0 where
  pub left_le : get_or opens left 0 ≤ most_nodes
  pub right_le : get_or opens right 0 ≤ most_nodes
  pub all_new : cut_sum (get_or opens left 0) (get_or opens right 0) (get_or cuts left 0) (get_or cuts right 0) + get_or news slot
      0 ≤ most_labels

-- a turn at record i, whose slot is i + 1
module _ (ls : List ℕ) (i slot left right : ℕ) (sizes opens cuts pieces news : List ℕ) (next : slot ≡ i + 1)
    (in_List : i < length ls) (measured : Measured ls sizes opens cuts (length ls))
    (handed : Handed ls pieces news slot) (right_is : right ≡ right_slot (get_or ls i 0) i)
    (left_is : left ≡ left_slot (get_or ls i 0) i (get_or sizes right 0)) where
  -- what its children's slots hold
  turn_children : (t : Tree Leaf) → ls ≡ labels t → Children t i left right sizes opens cuts
  turn_children t e =
      children ls t i left right sizes opens cuts e in_List
      (measured_less ls sizes opens cuts i (length ls) (omega arith) measured) right_is left_is

  -- what the record hands on
  pub turn_hands : (t : Tree Leaf) → ls ≡ labels t
      → Hands (seats t 0 1) left right (get_or opens left 0) (get_or opens right 0) (get_or cuts left 0) (get_or pieces slot 0)
      (get_or news slot 0)
  turn_hands t e =
      let c = turn_children t e in
      let h : i < nodes t = in_tree ls t i e in_List in
      rw next
      (hands t i h c.found.left_is c.found.right_is c.left_open c.right_open c.left_cuts
      (own_number piece_of t i pieces h (rw next at (handed.pieced t e)))
      (own_number new_of t i news h (rw next at (handed.renewed t e))))

  -- once it has handed them on
  turn_handed : (a b c d : ℕ) → length ls < length pieces → length ls < length news → left ≤ i → right ≤ i
      → a ≡ child_piece (cut_left (get_or opens left 0) (get_or opens right 0)) (get_or pieces slot 0) (get_or news slot 0)
      → b ≡ child_piece (cut_right (get_or opens left 0) (get_or opens right 0)) (get_or pieces slot 0)
      (one (cut_left (get_or opens left 0) (get_or opens right 0)) + get_or cuts left 0 + get_or news slot 0)
      → c ≡ one (cut_left (get_or opens left 0) (get_or opens right 0)) + get_or news slot 0
      → d ≡ one (cut_right (get_or opens left 0) (get_or opens right 0))
      + (one (cut_left (get_or opens left 0) (get_or opens right 0)) + get_or cuts left 0 + get_or news slot 0)
      → Handed ls (set (set pieces left a) right b) (set (set news left c) right d) i
  turn_handed a b c d room-pieces room-news left_le right_le is-a is_b is_c is-d =
      record {
        pieced = λ t e.
            let k = turn_children t e in
            let h = turn_hands t e in
            gives_more piece_of t i left right a b pieces (in_tree ls t i e in_List)
            (omega (arith, ap length e, length_labels t)) left_le right_le k.found.left_is k.found.right_is
            (λ there. is-a ∙ h.left_piece_is there) (λ there. is_b ∙ h.right_piece_is there)
            (rw next at (handed.pieced t e));
        renewed = λ t e.
            let k = turn_children t e in
            let h = turn_hands t e in
            gives_more new_of t i left right c d news (in_tree ls t i e in_List)
            (omega (arith, ap length e, length_labels t)) left_le right_le k.found.left_is k.found.right_is
            (λ there. is_c ∙ h.left_new_is there) (λ there. is-d ∙ h.right_new_is there)
            (rw next at (handed.renewed t e));
      }

  -- the same, by the numbers that lead there: whether each child is cut off, and what that adds
  pub turn_stored : (is-left is_right : Bool) (a b x y z : ℕ) → length ls < length pieces → length ls < length news
      → left ≤ i → right ≤ i
      → is-left ≡ cut_left (get_or opens left 0) (get_or opens right 0)
      → is_right ≡ cut_right (get_or opens left 0) (get_or opens right 0)
      → x ≡ one is-left → y ≡ one is-left → z ≡ one is_right
      → a ≡ child_piece is-left (get_or pieces slot 0) (get_or news slot 0)
      → b ≡ child_piece is_right (get_or pieces slot 0) (x + get_or cuts left 0 + get_or news slot 0)
      → Handed ls (set (set pieces left a) right b)
      (set (set news left (y + get_or news slot 0)) right (z + (x + get_or cuts left 0 + get_or news slot 0))) i
  turn_stored is-left is_right a b x y z room-pieces room-news left_le right_le l r is_x is_y is-z is-a is_b =
      turn_handed a b (y + get_or news slot 0) (z + (x + get_or cuts left 0 + get_or news slot 0)) room-pieces room-news
      left_le right_le
      (is-a ∙ rw l) (is_b ∙ rw (is_x, l, r)) (rw (is_y, l)) (rw (is-z, is_x, l, r))

  -- the children's open sizes are small, and so are all new pieces below the record
  pub turn_small : Postorder ls → length ls ≤ most_labels → TurnSmall left right slot opens cuts news
  turn_small o h =
      let t = o.tree in
      let e = o.same in
      let inside : i < nodes t = in_tree ls t i e in_List in
      let g = gathered t i left right sizes opens cuts (turn_children t e) in
      let own : get_or news slot 0 ≡ (seat_at (seats t 0 1) i).new =
      rw next (own_number new_of t i news inside (rw next at (handed.renewed t e))) in
      record {
        left_le = g.left_le;
        right_le = g.right_le;
        all_new = rw (g.cuts_is, own)
            (omega (arith, (seat_small t i inside).bounded, pieces_at_most_nodes t, ap length e, length_labels t));
      }

-- when the first record has handed on its numbers
pub handed_all : (ls pieces news : List ℕ) → Handed ls pieces news 0 → Pieced ls pieces
handed_all ls pieces news g =
    record {
      at_record = λ t e i h.
          (g.pieced t e).slot (i + 1) (omega arith) (inl (omega arith))
          ∙ rw add-one (held_seat piece_of (seats t 0 1) i (rw (length_seats t 0 1) h));
    }
