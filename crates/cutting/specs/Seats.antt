-- The seat of a record: the subtree whose root it holds, its piece, and the number of the first new piece below it. A
-- tree's seats stand in the order of its records. A slot is a record's number plus 1, and slot 0 stands for a child
-- that is not there: so a star is a pair without a right child, a leaf a pair without any, and one rule serves all
-- kinds.
use Rattle.std.specs.Prelude.{ℕ, ◌+◌, ◌-◌, ◌≤◌, ◌<◌, ◌≡◌, Bool, cond, ◌||◌, List, [], ◌∷◌, ◌++◌, map, eqb, ltb, length, get_or}
use Rattle.language.specs.Tree.{Tree, leaf, catenation, union, star, nodes}
use Rattle.tree.specs.Leaf.{Leaf}
use Rattle.tree.specs.Cut.{cuts, one, wanted, cut_left, cut_right, open_size}
use Rattle.tree.specs.Layout.{label_of, catenation_kind, union_kind, star_kind}
use Rattle.tree.specs.Numbering.{child_piece, Nodewise, at_root, at_left, at_right, Walker, walked}
use Rattle.tree.specs.Records.{leaf_label}

-- the edges that the wanted cut cuts
abbrev pub cut_edges : Tree Leaf → ℕ
cut_edges t = cuts t (wanted t)

-- the label of a tree's root
abbrev pub root_label : Tree Leaf → ℕ
root_label (leaf a) = leaf_label a
root_label (catenation s t) = label_of catenation_kind 0
root_label (union s t) = label_of union_kind 0
root_label (star s) = label_of star_kind 0

-- a number of the left or only child, 0 where there is none
abbrev pub of_left : (Tree Leaf → ℕ) → Tree Leaf → ℕ
of_left f (leaf a) = 0
of_left f (catenation s t) = f s
of_left f (union s t) = f s
of_left f (star s) = f s

-- a number of the right child, 0 where there is none
abbrev pub of_right : (Tree Leaf → ℕ) → Tree Leaf → ℕ
of_right f (leaf a) = 0
of_right f (catenation s t) = f t
of_right f (union s t) = f t
of_right f (star s) = 0

-- whether the edge to the left or only child is cut
abbrev pub left_apart : Tree Leaf → Bool
left_apart u = cut_left (of_left open_size u) (of_right open_size u)

-- whether the edge to the right child is cut
abbrev pub right_apart : Tree Leaf → Bool
right_apart u = cut_right (of_left open_size u) (of_right open_size u)

-- the piece of u's left or only child, when u's own piece is p and its new pieces begin at n
abbrev pub left_piece : Tree Leaf → (p n : ℕ) → ℕ
left_piece u p n = child_piece (left_apart u) p n

-- the first new piece number below u's left or only child
abbrev pub left_new : Tree Leaf → ℕ → ℕ
left_new u n = one (left_apart u) + n

-- the first new piece number that the left child leaves
abbrev pub past_left : Tree Leaf → ℕ → ℕ
past_left u n = one (left_apart u) + of_left cut_edges u + n

-- the piece of u's right child
abbrev pub right_piece : Tree Leaf → (p n : ℕ) → ℕ
right_piece u p n = child_piece (right_apart u) p (past_left u n)

-- the first new piece number below u's right child
abbrev pub right_new : Tree Leaf → ℕ → ℕ
right_new u n = one (right_apart u) + past_left u n

-- a record's seat
pub record Seat : Type 0 where
  pub tree : Tree Leaf
  pub piece : ℕ
  pub new : ℕ

-- the seat of t, when its own piece is p and its new pieces begin at n
abbrev pub seat : Tree Leaf → (p n : ℕ) → Seat
seat t p n = record { tree = t; piece = p; new = n }

-- the seat of t's root, from what the walk has at t's nodes
abbrev pub root_seat : Tree Leaf → Nodewise Walker → Seat
root_seat t x = seat t (at_root x).piece (at_root x).new

-- the seats of t's records, from what the walk has at t's nodes
abbrev pub seats_by : Tree Leaf → Nodewise Walker → List Seat
seats_by (leaf a) x = root_seat (leaf a) x ∷ []
seats_by (catenation s t) x =
    seats_by s (at_left x) ++ seats_by t (at_right x) ++ (root_seat (catenation s t) x ∷ [])
seats_by (union s t) x = seats_by s (at_left x) ++ seats_by t (at_right x) ++ (root_seat (union s t) x ∷ [])
seats_by (star s) x = seats_by s (at_left x) ++ (root_seat (star s) x ∷ [])

-- the seats of t's records
abbrev pub seats : Tree Leaf → (p n : ℕ) → List Seat
seats t p n = seats_by t (walked t (wanted t) p n)

-- the seats at and below a seat
abbrev pub under : Seat → List Seat
under x = seats x.tree x.piece x.new

-- a seat for places past the end
abbrev pub no_seat : Seat
no_seat = seat (leaf (Leaf.character 0)) 0 0

-- the seat of record i
abbrev pub seat_at : List Seat → ℕ → Seat
seat_at xs i = get_or xs i no_seat

-- x is the seat of record i: all that stands under x ends there
pub record SeatOf (xs : List Seat) (i : ℕ) (x : Seat) : Type 0 where
  pub before : List Seat
  pub after : List Seat
  pub whole : xs ≡ before ++ under x ++ after
  pub ends : length before + nodes x.tree ≡ i + 1

-- every record's seat stands so
unfoldable pub Seated : List Seat → Type 0
Seated xs = (i : ℕ) → i < length xs → SeatOf xs i (seat_at xs i)

-- what slot j holds of a number of each seat: nothing in slot 0, that of record j - 1 in slot j
abbrev pub held : (Seat → ℕ) → List Seat → ℕ → ℕ
held f xs j = get_or (0 ∷ map f xs) j 0

-- the label of a seat's root
abbrev pub label : Seat → ℕ
label x = root_label x.tree

-- a number of the seat of u's left or only child, 0 where there is none
abbrev pub of_left_seat : (Seat → ℕ) → Seat → ℕ
of_left_seat f x =
    of_left (λ (s : Tree Leaf). f (seat s (left_piece x.tree x.piece x.new) (left_new x.tree x.new)))
    x.tree

-- a number of the seat of u's right child, 0 where there is none
abbrev pub of_right_seat : (Seat → ℕ) → Seat → ℕ
of_right_seat f x =
    of_right (λ (t : Tree Leaf). f (seat t (right_piece x.tree x.piece x.new) (right_new x.tree x.new)))
    x.tree

-- the slot of the right child of record i, whose label is given
abbrev pub right_slot : (label i : ℕ) → ℕ
right_slot label i = cond (eqb label (label_of catenation_kind 0) || eqb label (label_of union_kind 0)) i 0

-- the slot of the left or only child, when the right child has `size` nodes; the labels of catenation, union and star
-- stand next to each other, and no leaf's is among them
abbrev pub left_slot : (label i size : ℕ) → ℕ
left_slot label i size = cond (ltb label (label_of catenation_kind 0) || ltb (label_of star_kind 0) label) 0 (i - size)

-- where the children of record i, with the seat x, are found
pub record Around (xs : List Seat) (i : ℕ) (x : Seat) : Type 0 where
  pub inside : of_left nodes x.tree + of_right nodes x.tree ≤ i
  pub left : (f : Seat → ℕ) → held f xs (left_slot (label x) i (of_right nodes x.tree)) ≡ of_left_seat f x
  pub right : (f : Seat → ℕ) → held f xs (right_slot (label x) i) ≡ of_right_seat f x
