-- The slots of the records are measured one after the other, each from its children's.
use Rattle.std.specs.Prelude.{ℕ, ◌+◌, ◌-◌, ◌≤◌, ◌<◌, ◌≡◌, refl, Bool, true, false, cond, ◌||◌, List, eqb, ltb, length, get_or, set}
use Rattle.std.proofs.Common.{ap, sym, ◌∙◌, arith, le_refl, le_trans, add-one, length-set, get_or-set_same, get_or-set_other}
use Rattle.std.proofs.Math.Decide.{dec_le}
use Rattle.language.specs.Tree.{Tree, leaf, catenation, union, star, nodes}
use Rattle.tree.specs.Leaf.{Leaf}
use Rattle.tree.specs.Cut.{open_size}
use Rattle.tree.specs.Limits.{most_nodes}
use Rattle.tree.specs.Layout.{label_of, catenation_kind, union_kind, star_kind}
use Rattle.tree.specs.Records.{labels, piece_count}
use Rattle.tree.specs.Lengths.{length_labels}
use Rattle.tree.specs.Choice.{open_at_most}
use Rattle.cutting.specs.Seats.{
  Seat,
  seats,
  seat_at,
  label,
  root_label,
  cut_edges,
  of_left,
  of_right,
  left_slot,
  right_slot,
  held,
  Around,
}
use Rattle.cutting.specs.SeatsLaws.{held_seat, held_whole, labels_seats, length_seats, seats_seated, around}
use Rattle.cutting.specs.Gathered.{open_sum, cut_sum}
use Rattle.cutting.specs.GatheredLaws.{nodes_gathered, open_gathered, cuts_gathered, cut_edges_lt}
use Rattle.cutting.specs.Measured.{Postorder, node, RoomToMeasure, SlotsHold, Measured, CountsPieces}

-- slots that hold up to some record hold up to each before it
pub holds_less : {f : Tree Leaf → ℕ} {t : Tree Leaf} {j : ℕ} {slots : List ℕ} (i : ℕ) → i ≤ j → SlotsHold f t j slots
    → SlotsHold f t i slots
holds_less i h w = record { slot = λ k l. w.slot k (le_trans l h) }

-- slot 0 holds nothing
pub holds_none : (f : Tree Leaf → ℕ) (t : Tree Leaf) (slots : List ℕ) → get_or slots 0 0 ≡ 0 → SlotsHold f t 0 slots
holds_none f t slots e = record { slot = λ j h. let z : j ≡ 0 = omega arith in rw z e }

-- one record more
pub holds_more : (f : Tree Leaf → ℕ) (t : Tree Leaf) (i : ℕ) (slots : List ℕ) (v : ℕ) → SlotsHold f t i slots
    → i < nodes t → i + 1 < length slots → v ≡ f (node t i) → SlotsHold f t (i + 1) (set slots (i + 1) v)
holds_more f t i slots v w h k e = record { slot = λ j l. by_place j l (dec_le j i) }
  where
    by_place : (j : ℕ) → j ≤ i + 1 → Dec (j ≤ i) → get_or (set slots (i + 1) v) j 0
        ≡ held (λ (x : Seat). f x.tree) (seats t 0 1) j
    by_place j l (yes m) = get_or-set_other slots (i + 1) j v 0 (omega arith) ∙ w.slot j m
    by_place j l (no m) =
        let here : j ≡ i + 1 = omega arith in
        rw here (get_or-set_same slots (i + 1) v 0 k ∙ e
        ∙ rw add-one (sym (held_seat (λ (x : Seat). f x.tree) (seats t 0 1) i (rw (length_seats t 0 1) h))))

-- a record is one of the tree
pub in_tree : (ls : List ℕ) (t : Tree Leaf) (i : ℕ) → ls ≡ labels t → i < length ls → i < nodes t
in_tree ls t i e h = omega (arith, ap length e, length_labels t)

-- what is measured up to some record is measured up to each before it
pub measured_less : (ls sizes opens cuts : List ℕ) (i j : ℕ) → i ≤ j → Measured ls sizes opens cuts j
    → Measured ls sizes opens cuts i
measured_less ls sizes opens cuts i j h m =
    record {
      sized = λ t e. holds_less i h (m.sized t e);
      opened = λ t e. holds_less i h (m.opened t e);
      counted = λ t e. holds_less i h (m.counted t e);
    }

-- label i is that of the subtree at record i
pub label_is : (ls : List ℕ) (t : Tree Leaf) (i : ℕ) → ls ≡ labels t → i < nodes t → get_or ls i 0 ≡ root_label (node t i)
label_is ls t i e h = rw (e, labels_seats t 0 1) (held_seat label (seats t 0 1) i (rw (length_seats t 0 1) h))

-- a right child's slot is no later than its parent's record
pub right_slot_le : (l i : ℕ) → right_slot l i ≤ i
right_slot_le l i = by_test (eqb l (label_of catenation_kind 0) || eqb l (label_of union_kind 0))
  where
    by_test : (b : Bool) → cond b i 0 ≤ i
    by_test true = le_refl i
    by_test false = omega arith

-- nor is a left child's
pub left_slot_le : (l i size : ℕ) → left_slot l i size ≤ i
left_slot_le l i size = by_test (ltb l (label_of catenation_kind 0) || ltb (label_of star_kind 0) l)
  where
    by_test : (b : Bool) → cond b 0 (i - size) ≤ i
    by_test true = omega arith
    by_test false = omega arith

-- a number that is at most n for every tree is so for a child that may not be there
of_left_le : (f : Tree Leaf → ℕ) (n : ℕ) → ((t : Tree Leaf) → f t ≤ n) → (u : Tree Leaf) → of_left f u ≤ n
of_left_le f n h (leaf a) = omega arith
of_left_le f n h (catenation s t) = h s
of_left_le f n h (union s t) = h s
of_left_le f n h (star s) = h s

-- and for a right child
of_right_le : (f : Tree Leaf → ℕ) (n : ℕ) → ((t : Tree Leaf) → f t ≤ n) → (u : Tree Leaf) → of_right f u ≤ n
of_right_le f n h (leaf a) = omega arith
of_right_le f n h (catenation s t) = h t
of_right_le f n h (union s t) = h t
of_right_le f n h (star s) = omega arith

-- which slots record i's children have, and the size of the right one
pub record Slots (t : Tree Leaf) (i left right : ℕ) (sizes : List ℕ) : Type 0 where
  pub left_is : left ≡ left_slot (root_label (node t i)) i (of_right nodes (node t i))
  pub right_is : right ≡ right_slot (root_label (node t i)) i
  pub right_size : get_or sizes right 0 ≡ of_right nodes (node t i)
  pub inside : of_left nodes (node t i) + of_right nodes (node t i) ≤ i

-- they follow from its label and the sizes
pub slots : (ls : List ℕ) (t : Tree Leaf) (i left right : ℕ) (sizes : List ℕ) → ls ≡ labels t → i < length ls
    → SlotsHold nodes t i sizes
    → right ≡ right_slot (get_or ls i 0) i → left ≡ left_slot (get_or ls i 0) i (get_or sizes right 0)
    → Slots t i left right sizes
slots ls t i left right sizes e inside w r l =
    let h : i < nodes t = in_tree ls t i e inside in
    let s : List Seat = seats t 0 1 in
    let a : Around s i (seat_at s i) = around s i (seats_seated t 0 1) (rw (length_seats t 0 1) h) in
    let lab : get_or ls i 0 ≡ root_label (node t i) = label_is ls t i e h in
    let size : get_or sizes right 0 ≡ of_right nodes (node t i) =
    w.slot right (rw r (right_slot_le (get_or ls i 0) i)) ∙ rw (r, lab) (a.right (λ (x : Seat). nodes x.tree)) in
    record { left_is = l ∙ rw (size, lab); right_is = r ∙ rw lab; right_size = size; inside = a.inside }

-- what the slots of record i's children hold
pub record Children (t : Tree Leaf) (i left right : ℕ) (sizes opens cuts : List ℕ) : Type 0 where
  pub found : Slots t i left right sizes
  pub left_size : get_or sizes left 0 ≡ of_left nodes (node t i)
  pub left_open : get_or opens left 0 ≡ of_left open_size (node t i)
  pub right_open : get_or opens right 0 ≡ of_right open_size (node t i)
  pub left_cuts : get_or cuts left 0 ≡ of_left cut_edges (node t i)
  pub right_cuts : get_or cuts right 0 ≡ of_right cut_edges (node t i)

-- the children's slots hold the children's numbers
pub children : (ls : List ℕ) (t : Tree Leaf) (i left right : ℕ) (sizes opens cuts : List ℕ) → ls ≡ labels t
    → i < length ls → Measured ls sizes opens cuts i
    → right ≡ right_slot (get_or ls i 0) i → left ≡ left_slot (get_or ls i 0) i (get_or sizes right 0)
    → Children t i left right sizes opens cuts
children ls t i left right sizes opens cuts e inside m r l =
    let h : i < nodes t = in_tree ls t i e inside in
    let s : List Seat = seats t 0 1 in
    let a : Around s i (seat_at s i) = around s i (seats_seated t 0 1) (rw (length_seats t 0 1) h) in
    let k : Slots t i left right sizes = slots ls t i left right sizes e inside (m.sized t e) r l in
    let right_at : (f : Tree Leaf → ℕ) (numbers : List ℕ) → SlotsHold f t i numbers
    → get_or numbers right 0 ≡ of_right f (node t i) =
    λ f numbers w. w.slot right (rw r (right_slot_le (get_or ls i 0) i))
    ∙ rw k.right_is (a.right (λ (x : Seat). f x.tree)) in
    let left_at : (f : Tree Leaf → ℕ) (numbers : List ℕ) → SlotsHold f t i numbers
    → get_or numbers left 0 ≡ of_left f (node t i) =
    λ f numbers w. w.slot left (rw l (left_slot_le (get_or ls i 0) i (get_or sizes right 0)))
    ∙ rw k.left_is (a.left (λ (x : Seat). f x.tree)) in
    record {
      found = k;
      left_size = left_at nodes sizes (m.sized t e);
      left_open = left_at open_size opens (m.opened t e);
      right_open = right_at open_size opens (m.opened t e);
      left_cuts = left_at cut_edges cuts (m.counted t e);
      right_cuts = right_at cut_edges cuts (m.counted t e);
    }

-- a right child has no more nodes than there are records before its parent
pub right_size_le : (ls : List ℕ) (t : Tree Leaf) (i right : ℕ) (sizes : List ℕ) → ls ≡ labels t → i < length ls
    → SlotsHold nodes t i sizes
    → right ≡ right_slot (get_or ls i 0) i → get_or sizes right 0 ≤ i
right_size_le ls t i right sizes e h w r =
    let k = slots ls t i (left_slot (get_or ls i 0) i (get_or sizes right 0)) right sizes e h w r refl in omega
    (arith, k.right_size, k.inside)

-- fewer edges are cut below a node than there are nodes
below_cuts : (u : Tree Leaf) → of_left cut_edges u + of_right cut_edges u ≤ of_left nodes u + of_right nodes u
below_cuts (leaf a) = omega arith
below_cuts (catenation s t) = omega (arith, cut_edges_lt s, cut_edges_lt t)
below_cuts (union s t) = omega (arith, cut_edges_lt s, cut_edges_lt t)
below_cuts (star s) = omega (arith, cut_edges_lt s)

-- what follows for the record itself, from what its children's slots hold
pub record Gathered (t : Tree Leaf) (i size left_open right_open left_cuts right_cuts : ℕ) : Type 0 where
  pub size_is : size ≡ nodes (node t i)
  pub size_le : size ≤ i + 1
  pub left_le : left_open ≤ most_nodes
  pub right_le : right_open ≤ most_nodes
  pub cuts_le : left_cuts + right_cuts ≤ i
  pub open_is : open_sum left_open right_open ≡ open_size (node t i)
  pub cuts_is : cut_sum left_open right_open left_cuts right_cuts ≡ cut_edges (node t i)

-- by the laws that gather a node's numbers from its children's
pub gathered : (t : Tree Leaf) (i left right : ℕ) (sizes opens cuts : List ℕ) → Children t i left right sizes opens cuts
    → Gathered t i (get_or sizes left 0 + get_or sizes right 0 + 1) (get_or opens left 0) (get_or opens right 0)
    (get_or cuts left 0) (get_or cuts right 0)
gathered t i left right sizes opens cuts c =
    let u : Tree Leaf = node t i in
    record {
      size_is = omega (arith, nodes_gathered u, c.left_size, c.found.right_size);
      size_le = omega (arith, c.left_size, c.found.right_size, c.found.inside);
      left_le = rw c.left_open (of_left_le open_size most_nodes open_at_most u);
      right_le = rw c.right_open (of_right_le open_size most_nodes open_at_most u);
      cuts_le = omega (arith, c.left_cuts, c.right_cuts, c.found.inside, below_cuts u);
      open_is = rw (c.left_open, c.right_open) (sym (open_gathered u));
      cuts_is = rw (c.left_open, c.right_open, c.left_cuts, c.right_cuts) (sym (cuts_gathered u));
    }

-- one record more is measured
pub measured_more : (ls : List ℕ) (i size open-here cuts-here : ℕ) (sizes opens cuts : List ℕ) → i < length ls
    → RoomToMeasure (length ls) sizes opens cuts → Measured ls sizes opens cuts i
    → ((t : Tree Leaf) → ls ≡ labels t → (size ≡ nodes (node t i)) × (open-here ≡ open_size (node t i))
    × (cuts-here ≡ cut_edges (node t i)))
    → Measured ls (set sizes (i + 1) size) (set opens (i + 1) open-here) (set cuts (i + 1) cuts-here) (i + 1)
measured_more ls i size open-here cuts-here sizes opens cuts h room m found =
    record {
      sized = λ t e. holds_more nodes t i sizes size (m.sized t e) (in_tree ls t i e h)
          (omega (arith, room.for_sizes)) (found t e).0;
      opened = λ t e. holds_more open_size t i opens open-here (m.opened t e) (in_tree ls t i e h)
          (omega (arith, room.for_opens)) (found t e).1;
      counted = λ t e. holds_more cut_edges t i cuts cuts-here (m.counted t e) (in_tree ls t i e h)
          (omega (arith, room.for_cuts)) (found t e).2;
    }

-- before the first record nothing is measured
pub measured_none : (ls sizes opens cuts : List ℕ) → RoomToMeasure (length ls) sizes opens cuts
    → Measured ls (set sizes 0 0) (set opens 0 0) (set cuts 0 0) 0
measured_none ls sizes opens cuts room =
    record {
      sized = λ t e. holds_none nodes t (set sizes 0 0) (get_or-set_same sizes 0 0 0 (omega (arith, room.for_sizes)));
      opened = λ t e. holds_none open_size t (set opens 0 0)
          (get_or-set_same opens 0 0 0 (omega (arith, room.for_opens)));
      counted = λ t e. holds_none cut_edges t (set cuts 0 0) (get_or-set_same cuts 0 0 0 (omega (arith, room.for_cuts)));
    }

-- stores leave the room
pub room_stays : (n : ℕ) (sizes opens cuts : List ℕ) (i a b c : ℕ) → RoomToMeasure n sizes opens cuts
    → RoomToMeasure n (set sizes i a) (set opens i b) (set cuts i c)
room_stays n sizes opens cuts i a b c room =
    record {
      for_sizes = rw (length-set sizes i a) room.for_sizes;
      for_opens = rw (length-set opens i b) room.for_opens;
      for_cuts = rw (length-set cuts i c) room.for_cuts;
    }

-- the root's slot holds the whole tree's number
pub holds_root : (f : Tree Leaf → ℕ) (ls : List ℕ) (t : Tree Leaf) (slots : List ℕ) → ls ≡ labels t
    → SlotsHold f t (length ls) slots → get_or slots (length ls) 0 ≡ f t
holds_root f ls t slots e w =
    let n : length ls ≡ nodes t = ap length e ∙ length_labels t in
    w.slot (length ls) (le_refl (length ls)) ∙ rw n (held_whole (λ (x : Seat). f x.tree) t 0 1)

-- two counts that fit are the same
pub counted_unique : (ls : List ℕ) (a b : ℕ) → Postorder ls → CountsPieces ls a → CountsPieces ls b → a ≡ b
counted_unique ls a b o c d = c.count o.tree o.same ∙ sym (d.count o.tree o.same)

-- the root's cut edges give the piece count
pub counted_all : (ls sizes opens cuts : List ℕ) → Measured ls sizes opens cuts (length ls)
    → CountsPieces ls (1 + get_or cuts (length ls) 0)
unfolding piece_count
counted_all ls sizes opens cuts m =
    record { count = λ t e. ap (λ (n : ℕ). 1 + n) (holds_root cut_edges ls t cuts e (m.counted t e)) }

-- and they are fewer than the labels
pub root_cuts_lt : (ls sizes opens cuts : List ℕ) → Postorder ls → Measured ls sizes opens cuts (length ls)
    → get_or cuts (length ls) 0 < length ls
root_cuts_lt ls sizes opens cuts o m =
    omega (
      arith,
      holds_root cut_edges ls o.tree cuts o.same (m.counted o.tree o.same),
      cut_edges_lt o.tree,
      ap length o.same,
      length_labels o.tree,
    )
