-- Moving every word along a byte moves the marks along it in every piece.
use Rattle.std.specs.Prelude.{ℕ, ◌+◌, ◌^◌, ◌≤◌, ◌<◌, ◌≡◌, refl, ◌↔◌, List, length, get_or, drop, set}
use Rattle.std.proofs.Common.{sym, ap, ◌∙◌, subst, subst₂, inr, add_assoc, zero-add, add-zero, arith, get_or-drop, drop-drop}
use Rattle.language.specs.Tree.{Tree}
use Rattle.language.specs.Automaton.{State, start, accepting, left, right, Reads}
use Rattle.language.specs.Nested.{
  Nested,
  leaf,
  catenation,
  union,
  star,
  below,
  Has,
  Reading,
  Move,
  OwnLeaf,
  stand_in,
  given,
  OwnReads,
  own_meaning,
}
use Rattle.tree.specs.Limits.{most_states}
use Rattle.tree.specs.Leaf.{Leaf, meaning}
use Rattle.tables.specs.Words.{Bit, width, run, Own, number, Marked, Holds, CleanBelow, Clean}
use Rattle.tables.specs.Plan.{Moves}
use Rattle.closing.specs.Passes.Laid.{Lays, LaysBelow, LaysEach, NarrowBelow}
use Rattle.closing.specs.BitsOfWords.MadeAnew.{MadeAnew, anew_set_at}
use Rattle.std.proofs.Math.Logic.Iff

-- from a part of a node to the node: what stands at p in the part stands at e p in the node, and nothing else comes
-- into the part
lifted : {M R R' : State → Type 0} (e : State → State) → ((p : State) → R p → R' (e p))
    → ((p : State) → R' p → (s : State) × (p ≡ e s) × R s)
    → ((p : State) × M (e p) × R p) ↔ ((p : State) × M p × R' p)
lifted {M} e into back = (
  λ m. (e m.0, m.1, into m.0 m.2),
  λ m. let s = back m.0 m.2 in (s.0, subst M s.1 m.1, s.2),
)

-- where neither side can be
neither : {A B : Type 0} → (A → ⊥) → (B → ⊥) → A ↔ B
neither f g = (λ a. absurd (f a), λ b. absurd (g b))

module _ (classes : List ℕ) (b : ℕ) where
  -- where a transition that reads comes from, by where it leads: into the first part of a catenation
  module _ {s t : Tree (OwnLeaf Leaf)} where
    reads_catenation_left : (p : State) {q : State} → Reads (own_meaning (meaning classes)) b (Tree.catenation s t) p
        (left q)
        → (r : State) × (p ≡ left r) × Reads (own_meaning (meaning classes)) b s r q
    reads_catenation_left p (Reads.catenation_left {p = r} e) = (r, refl, e)

    -- into the second part of a catenation
    reads_catenation_right : (p : State) {q : State} → Reads (own_meaning (meaning classes)) b (Tree.catenation s t) p
        (right q)
        → (r : State) × (p ≡ right r) × Reads (own_meaning (meaning classes)) b t r q
    reads_catenation_right p (Reads.catenation_right {p = r} e) = (r, refl, e)

    -- into the first part of a union
    reads_union_left : (p : State) {q : State} → Reads (own_meaning (meaning classes)) b (Tree.union s t) p (left q)
        → (r : State) × (p ≡ left r)
        × Reads (own_meaning (meaning classes)) b s r q
    reads_union_left p (Reads.union_left {p = r} e) = (r, refl, e)

    -- into the second part of a union
    reads_union_right : (p : State) {q : State} → Reads (own_meaning (meaning classes)) b (Tree.union s t) p (right q)
        → (r : State) × (p ≡ right r) × Reads (own_meaning (meaning classes)) b t r q
    reads_union_right p (Reads.union_right {p = r} e) = (r, refl, e)

  -- into a star's operand
  reads_star : {s : Tree (OwnLeaf Leaf)} (p : State) {q : State}
      → Reads (own_meaning (meaning classes)) b (Tree.star s) p (left q)
      → (r : State) × (p ≡ left r) × Reads (own_meaning (meaning classes)) b s r q
  reads_star p (Reads.star_inside {p = r} e) = (r, refl, e)

  module _ {x y : Nested Leaf} where
    -- the same in all pieces: into the first part of a catenation
    in_catenation_left : (p : State) {q : State} → Reading (meaning classes) b (catenation x y) p (left q) → (r : State)
        × (p ≡ left r)
        × Reading (meaning classes) b x r q
    in_catenation_left p (Reading.catenation_left {p = r} e) = (r, refl, e)

    -- into the second part of a catenation
    in_catenation_right : (p : State) {q : State} → Reading (meaning classes) b (catenation x y) p (right q)
        → (r : State) × (p ≡ right r) × Reading (meaning classes) b y r q
    in_catenation_right p (Reading.catenation_right {p = r} e) = (r, refl, e)

    -- into the first part of a union
    in_union_left : (p : State) {q : State} → Reading (meaning classes) b (union x y) p (left q) → (r : State)
        × (p ≡ left r)
        × Reading (meaning classes) b x r q
    in_union_left p (Reading.union_left {p = r} e) = (r, refl, e)

    -- into the second part of a union
    in_union_right : (p : State) {q : State} → Reading (meaning classes) b (union x y) p (right q) → (r : State)
        × (p ≡ right r)
        × Reading (meaning classes) b y r q
    in_union_right p (Reading.union_right {p = r} e) = (r, refl, e)

  -- into a star's operand
  in_star : {x : Nested Leaf} (p : State) {q : State} → Reading (meaning classes) b (star x) p (left q) → (r : State)
      × (p ≡ left r)
      × Reading (meaning classes) b x r q
  in_star p (Reading.star_inside {p = r} e) = (r, refl, e)

  -- into a child piece
  in_below : {x : Nested Leaf} (p : State) {q : State} → Reading (meaning classes) b (below x) p (left q) → (r : State)
      × (p ≡ left r)
      × Reading (meaning classes) b x r q
  in_below p (Reading.in_child {p = r} e) = (r, refl, e)

  -- none leads to a start
  no_start : {t : Tree (OwnLeaf Leaf)} {p : State} → Reads (own_meaning (meaning classes)) b t p start → ⊥
  no_start = elim [ ]

  -- none to the accepting state of a catenation
  no_catenation : {s t : Tree (OwnLeaf Leaf)} {p : State} → Reads (own_meaning (meaning classes)) b
      (Tree.catenation s t) p accepting → ⊥
  no_catenation = elim [ ]

  -- none to that of a union
  no_union : {s t : Tree (OwnLeaf Leaf)} {p : State} → Reads (own_meaning (meaning classes)) b (Tree.union s t) p
      accepting → ⊥
  no_union = elim [ ]

  -- none to that of a star
  no_star : {s : Tree (OwnLeaf Leaf)} {p : State} → Reads (own_meaning (meaning classes)) b (Tree.star s) p
      accepting → ⊥
  no_star = elim [ ]

  -- a stand-in reads no byte
  no_stand_in : {p : State} → Reads (own_meaning (meaning classes)) b (Tree.leaf stand_in) p accepting → ⊥
  no_stand_in (Reads.at_leaf e) = e

  -- the same in all pieces: none to a start
  in_no_start : {x : Nested Leaf} {p : State} → Reading (meaning classes) b x p start → ⊥
  in_no_start = elim [ ]

  -- none to the accepting state of a catenation
  in_no_catenation : {x y : Nested Leaf} {p : State} → Reading (meaning classes) b (catenation x y) p accepting → ⊥
  in_no_catenation = elim [ ]

  -- none to that of a union
  in_no_union : {x y : Nested Leaf} {p : State} → Reading (meaning classes) b (union x y) p accepting → ⊥
  in_no_union = elim [ ]

  -- none to that of a star
  in_no_star : {x : Nested Leaf} {p : State} → Reading (meaning classes) b (star x) p accepting → ⊥
  in_no_star = elim [ ]

  -- none to that of a stand-in
  in_no_below : {x : Nested Leaf} {p : State} → Reading (meaning classes) b (below x) p accepting → ⊥
  in_no_below = elim [ ]

  -- in a part of the piece, whose states are numbered from i, the bits of w' are those of w moved along b
  record Shifts (x : Nested Leaf) (i w w' : ℕ) : Type 0 where
    exactly : (q : State) → Own x q
        → Bit w' (i + number x q) ↔ ((p : State) × (Own x p × Bit w (i + number x p))
        × OwnReads (meaning classes) b x p q)

  -- a bit by an equal number
  at : (w : ℕ) {i j : ℕ} → i ≡ j → Bit w i → Bit w j
  at w e c = subst (λ (n : ℕ). Bit w n) e c

  -- in the whole piece
  shifts : {x : Nested Leaf} {w w' : ℕ} → Moves classes x b w w' → Shifts x 0 w w'
  shifts {x} {w} {w'} moves = record {
    exactly = λ q o. (
      λ c. let m =
          (moves.exactly q o).0 (at w' (zero-add (number x q)) c) in
          (m.0, (m.1, at w (sym (zero-add (number x m.0))) m.2), m.3),
      λ m. at w' (sym (zero-add (number x q)))
          ((moves.exactly q o).1 (m.0, m.1.0, at w (zero-add (number x m.0)) m.1.1, m.2)),
    );
  }

  -- in a part x of a node z, at e, whose numbers in z are k more
  part : (z x : Nested Leaf) (e : State → State) (k : ℕ) → ((q : State) → number z (e q) ≡ k + number x q)
      → ((q : State) → Own z (e q) ↔ Own x q)
      → ((p q : State) → OwnReads (meaning classes) b x p q → OwnReads (meaning classes) b z (e p) (e q))
      → ((p q : State) → OwnReads (meaning classes) b z p (e q) → (r : State) × (p ≡ e r)
      × OwnReads (meaning classes) b x r q)
      → {i w w' : ℕ} → Shifts z i w w' → Shifts x (i + k) w w'
  part z x e k numbered owned into back {i} {w} {w'} whole = record {
    exactly = λ q o. (
      λ c. let m =
          (lifted e (λ p. into p q) (λ p. back p q)).1 ((whole.exactly (e q) ((owned q).1 o)).0 (at w' (further q) c)) in
          (m.0, ((owned m.0).0 m.1.0, at w (sym (further m.0)) m.1.1), m.2),
      λ m. at w' (sym (further q)) ((whole.exactly (e q) ((owned q).1 o)).1
          (e m.0, ((owned m.0).1 m.1.0, at w (further m.0) m.1.1), into m.0 q m.2)),
    );
  }
    where
      further : (q : State) → i + k + number x q ≡ i + number z (e q)
      further q = add_assoc i k (number x q) ∙ ap (λ (n : ℕ). i + n) (sym (numbered q))

  -- the first part of a catenation
  catenation_left : {x y : Nested Leaf} {i w w' : ℕ} → Shifts (catenation x y) i w w' → Shifts x (i + 1) w w'
  catenation_left {x} {y} =
      part (catenation x y) x left 1 (λ q. refl) (λ q. (λ o. o, λ o. o)) (λ p q. Reads.catenation_left)
      (λ p q. reads_catenation_left p)

  -- the second part of a catenation
  catenation_right : {x y : Nested Leaf} {i w w' : ℕ} → Shifts (catenation x y) i w w'
      → Shifts y (i + (1 + width x)) w w'
  catenation_right {x} {y} =
      part (catenation x y) y right (1 + width x) (λ q. refl) (λ q. (λ o. o, λ o. o)) (λ p q. Reads.catenation_right)
      (λ p q. reads_catenation_right p)

  -- the first part of a union
  union_left : {x y : Nested Leaf} {i w w' : ℕ} → Shifts (union x y) i w w' → Shifts x (i + 1) w w'
  union_left {x} {y} =
      part (union x y) x left 1 (λ q. refl) (λ q. (λ o. o, λ o. o)) (λ p q. Reads.union_left)
      (λ p q. reads_union_left p)

  -- the second part of a union
  union_right : {x y : Nested Leaf} {i w w' : ℕ} → Shifts (union x y) i w w' → Shifts y (i + (1 + width x)) w w'
  union_right {x} {y} =
      part (union x y) y right (1 + width x) (λ q. refl) (λ q. (λ o. o, λ o. o)) (λ p q. Reads.union_right)
      (λ p q. reads_union_right p)

  -- a star's operand
  star_inside : {x : Nested Leaf} {i w w' : ℕ} → Shifts (star x) i w w' → Shifts x (i + 1) w w'
  star_inside {x} = part (star x) x left 1 (λ q. refl) (λ q. (λ o. o, λ o. o)) (λ p q. Reads.star_inside)
      (λ p q. reads_star p)

  -- the words of the child pieces below x are moved
  abbrev BelowMoved : Nested Leaf → List ℕ → List ℕ → Type 0
  BelowMoved (leaf a) ws ws' = Unit {0}
  BelowMoved (catenation x y) ws ws' = BelowMoved x ws ws' × BelowMoved y (drop (run x) ws) (drop (run x) ws')
  BelowMoved (union x y) ws ws' = BelowMoved x ws ws' × BelowMoved y (drop (run x) ws) (drop (run x) ws')
  BelowMoved (star x) ws ws' = BelowMoved x ws ws'
  BelowMoved (below x) ws ws' = Moves classes x b (get_or ws 0 0) (get_or ws' 0 0) × BelowMoved x (drop 1 ws) (drop 1 ws')

  -- no start is marked after a move
  unmarked_start : {x : Nested Leaf} {i w w' : ℕ} → Shifts x i w w' → Bit w' i → ⊥
  unmarked_start {x} {i} {w} {w'} s c = no_start ((s.exactly start tt).0 (at w' (sym (add-zero i)) c)).2

  -- nor the accepting state of a node that is no leaf
  unmarked_end : {x : Nested Leaf} {i w w' : ℕ} → ((p : State) → OwnReads (meaning classes) b x p accepting → ⊥)
      → Shifts x i w w' → Bit w' (i + number x accepting) → ⊥
  unmarked_end never s c = let m = (s.exactly accepting tt).0 c in never m.0 m.2

  -- at a leaf it comes from the leaf's start
  reads_leaf : {a : Leaf} {p : State} → Reads (own_meaning (meaning classes)) b (Tree.leaf (given a)) p accepting
      → (p ≡ start) × (meaning classes).Takes a b
  reads_leaf (Reads.at_leaf e) = (refl, e)

  -- the same in all pieces: at a leaf it comes from the leaf's start
  in_leaf : {a : Leaf} {p : State} → Reading (meaning classes) b (leaf a) p accepting → (p ≡ start)
      × (meaning classes).Takes a b
  in_leaf (Reading.at_leaf e) = (refl, e)

  -- at a leaf
  leaf_moved : (a : Leaf) (i w w' : ℕ) (ws : List ℕ) → Shifts (leaf a) i w w'
      → Bit w' (i + 1) ↔ Move (meaning classes) b (leaf a) (Marked (leaf a) w i ws) accepting
  leaf_moved a i w w' ws s = (
    λ c. let m = (s.exactly accepting tt).0 c in (
      start,
      at w (ap (λ (p : State). i + number (leaf a) p) (reads_leaf m.2).0 ∙ add-zero i) m.1.1,
      Reading.at_leaf (reads_leaf m.2).1,
    ),
    λ m. (s.exactly accepting tt).1 (
      start,
      (tt, at w (sym (add-zero i)) (subst (Marked (leaf a) w i ws) (in_leaf m.2).0 m.1)),
      Reads.at_leaf {a = given a} (in_leaf m.2).1,
    ),
  )

  -- in every piece: the bits of a part are those of its piece, and a child piece has its own word
  marked_moved : (x : Nested Leaf) (i w w' : ℕ) (ws ws' : List ℕ) → Shifts x i w w' → BelowMoved x ws ws' → (q : State)
      → Has x q
      → Marked x w' i ws' q ↔ Move (meaning classes) b x (Marked x w i ws) q
  marked_moved (leaf a) i w w' ws ws' s u start h = neither (unmarked_start s) (λ m. in_no_start m.2)
  marked_moved (leaf a) i w w' ws ws' s u accepting h = leaf_moved a i w w' ws s
  marked_moved (catenation x y) i w w' ws ws' s u start h = neither (unmarked_start s) (λ m. in_no_start m.2)
  marked_moved (catenation x y) i w w' ws ws' s u accepting h =
      neither (unmarked_end (λ p. no_catenation) s) (λ m. in_no_catenation m.2)
  marked_moved (catenation x y) i w w' ws ws' s u (left q) h =
      Iff.trans (marked_moved x (i + 1) w w' ws ws' (catenation_left s) u.0 q h)
      (lifted {M = Marked (catenation x y) w i ws} left (λ p. Reading.catenation_left) (λ p. in_catenation_left p))
  marked_moved (catenation x y) i w w' ws ws' s u (right q) h =
      Iff.trans (marked_moved y (i + (1 + width x)) w w' (drop (run x) ws) (drop (run x) ws') (catenation_right s)
      u.1 q h)
      (lifted {M = Marked (catenation x y) w i ws} right (λ p. Reading.catenation_right) (λ p. in_catenation_right p))
  marked_moved (union x y) i w w' ws ws' s u start h = neither (unmarked_start s) (λ m. in_no_start m.2)
  marked_moved (union x y) i w w' ws ws' s u accepting h =
      neither (unmarked_end (λ p. no_union) s) (λ m. in_no_union m.2)
  marked_moved (union x y) i w w' ws ws' s u (left q) h =
      Iff.trans (marked_moved x (i + 1) w w' ws ws' (union_left s) u.0 q h)
      (lifted {M = Marked (union x y) w i ws} left (λ p. Reading.union_left) (λ p. in_union_left p))
  marked_moved (union x y) i w w' ws ws' s u (right q) h =
      Iff.trans (marked_moved y (i + (1 + width x)) w w' (drop (run x) ws) (drop (run x) ws') (union_right s) u.1 q
      h)
      (lifted {M = Marked (union x y) w i ws} right (λ p. Reading.union_right) (λ p. in_union_right p))
  marked_moved (star x) i w w' ws ws' s u start h = neither (unmarked_start s) (λ m. in_no_start m.2)
  marked_moved (star x) i w w' ws ws' s u accepting h = neither (unmarked_end (λ p. no_star) s) (λ m. in_no_star m.2)
  marked_moved (star x) i w w' ws ws' s u (left q) h =
      Iff.trans (marked_moved x (i + 1) w w' ws ws' (star_inside s) u q h)
      (lifted {M = Marked (star x) w i ws} left (λ p. Reading.star_inside) (λ p. in_star p))
  marked_moved (below x) i w w' ws ws' s u start h = neither (unmarked_start s) (λ m. in_no_start m.2)
  marked_moved (below x) i w w' ws ws' s u accepting h =
      neither (unmarked_end (λ p. no_stand_in) s) (λ m. in_no_below m.2)
  marked_moved (below x) i w w' ws ws' s u (left q) h =
      Iff.trans (marked_moved x 0 (get_or ws 0 0) (get_or ws' 0 0) (drop 1 ws) (drop 1 ws') (shifts u.0) u.1 q h)
      (lifted {M = Marked (below x) w i ws} left (λ p. Reading.in_child) (λ p. in_below p))
  marked_moved (leaf a) i w w' ws ws' s u (left q) h = elim h [ ]
  marked_moved (leaf a) i w w' ws ws' s u (right q) h = elim h [ ]
  marked_moved (star x) i w w' ws ws' s u (right q) h = elim h [ ]
  marked_moved (below x) i w w' ws ws' s u (right q) h = elim h [ ]

  -- no bit past a last state is set
  clean_moved : (x : Nested Leaf) (ws ws' : List ℕ) → BelowMoved x ws ws' → CleanBelow x ws'
  clean_moved (leaf a) ws ws' u = tt
  clean_moved (catenation x y) ws ws' u =
      (clean_moved x ws ws' u.0, clean_moved y (drop (run x) ws) (drop (run x) ws') u.1)
  clean_moved (union x y) ws ws' u =
      (clean_moved x ws ws' u.0, clean_moved y (drop (run x) ws) (drop (run x) ws') u.1)
  clean_moved (star x) ws ws' u = clean_moved x ws ws' u
  clean_moved (below x) ws ws' u = (u.0.clean, clean_moved x (drop 1 ws) (drop 1 ws') u.1)

-- w is word k moved along b, for every tree whose piece k is, by its row
pub record WordMoved (rows classes before : List ℕ) (b k w : ℕ) : Type 0 where
  pub moves : (x : Nested Leaf) → width x ≤ most_states → Lays rows x k → get_or before k 0 < 2 ^ width x
      → Moves classes x b (get_or before k 0) w

-- one word more, moved from what it is now, which is what it was before
pub moved_more : {rows classes before after : List ℕ} {b n w : ℕ} → n < length before
    → MadeAnew (WordMoved rows classes before b) before after 0 n
    → ((x : Nested Leaf) → width x ≤ most_states → Lays rows x n → get_or after n 0 < 2 ^ width x
    → Moves classes x b (get_or after n 0) w)
    → MadeAnew (WordMoved rows classes before b) before (set after n w) 0 (n + 1)
moved_more {classes = classes} {before = before} {after = after} {b = b} {n = n} {w = w} h so_far moves =
    anew_set_at so_far w (omega arith) (omega arith) record {
      moves = λ x narrow at small. subst (λ (v : ℕ). Moves classes x b v w) as_before
          (moves x narrow at (subst (λ (v : ℕ). v < 2 ^ width x) (sym as_before) small));
    }
  where
    as_before : get_or after n 0 ≡ get_or before n 0
    as_before = so_far.others n (inr (omega arith))

-- the marks that the words hold are moved along b, and no bit past a last state is set
pub record MarksMoved (classes : List ℕ) (x : Nested Leaf) (b : ℕ) (before after : List ℕ) : Type 0 where
  pub holds : (q : State) → Has x q → Holds x after q ↔ Move (meaning classes) b x (Holds x before) q
  pub clean : Clean x after

-- the first n words are moved along b; the others are as before
pub record MovedAll (rows classes before after : List ℕ) (b n : ℕ) : Type 0 where
  pub same_length : length after ≡ length before
  pub marks : (x : Nested Leaf) → LaysEach rows x → 1 + run x ≤ n → width x ≤ most_states → NarrowBelow x
      → Clean x before → MarksMoved classes x b before after
  pub others : (k : ℕ) → n ≤ k → get_or after k 0 ≡ get_or before k 0

-- the word at the beginning of what is left of the words
pub first_left : (l : List ℕ) (k : ℕ) → get_or (drop k l) 0 0 ≡ get_or l k 0
first_left l k = get_or-drop k l 0 0 ∙ ap (λ (i : ℕ). get_or l i 0) (add-zero k)

module _ (rows classes before after : List ℕ) (b n : ℕ)
    (anew : MadeAnew (WordMoved rows classes before b) before after 0 n) where
  -- the word of piece k is moved
  word_moved : (x : Nested Leaf) (k : ℕ) → k < n → Lays rows x k → width x ≤ most_states
      → get_or (drop k before) 0 0
      < 2 ^ width x
      → Moves classes x b (get_or (drop k before) 0 0) (get_or (drop k after) 0 0)
  word_moved x k h at narrow small =
      subst₂ (λ (v w : ℕ). Moves classes x b v w) (sym (first_left before k))
      (ap (λ (i : ℕ). get_or after i 0) (zero-add k)
      ∙ sym (first_left after k))
      ((anew.anew k h).moves x narrow at (subst (λ (v : ℕ). v < 2 ^ width x) (first_left before k) small))

  -- the words of the child pieces below x are
  below_moved : (x : Nested Leaf) (new : ℕ) → LaysBelow rows x new → new + run x ≤ n → NarrowBelow x
      → CleanBelow x (drop new before)
      → BelowMoved classes b x (drop new before) (drop new after)
  below_moved (leaf a) new at h narrow clean = tt
  below_moved (catenation x y) new at h narrow clean = (
    below_moved x new at.0 (omega arith) narrow.0 clean.0,
    subst₂ (λ (u v : List ℕ). BelowMoved classes b y u v) (sym (drop-drop (run x) new before))
        (sym (drop-drop (run x) new after))
        (below_moved y (new + run x) at.1 (omega arith) narrow.1
        (subst (CleanBelow y) (drop-drop (run x) new before) clean.1)),
  )
  below_moved (union x y) new at h narrow clean = (
    below_moved x new at.0 (omega arith) narrow.0 clean.0,
    subst₂ (λ (u v : List ℕ). BelowMoved classes b y u v) (sym (drop-drop (run x) new before))
        (sym (drop-drop (run x) new after))
        (below_moved y (new + run x) at.1 (omega arith) narrow.1
        (subst (CleanBelow y) (drop-drop (run x) new before) clean.1)),
  )
  below_moved (star x) new at h narrow clean = below_moved x new at h narrow clean
  below_moved (below x) new at h narrow clean = (
    word_moved x new (omega arith) at.0 narrow.0 clean.0,
    subst₂ (λ (u v : List ℕ). BelowMoved classes b x u v) (sym (drop-drop 1 new before)) (sym (drop-drop 1 new after))
        (below_moved x (new + 1) at.1 (omega arith) narrow.1
        (subst (CleanBelow x) (drop-drop 1 new before) clean.1)),
  )

  -- so the marks are
  marks_moved : (x : Nested Leaf) → LaysEach rows x → 1 + run x ≤ n → width x ≤ most_states → NarrowBelow x
      → Clean x before → MarksMoved classes x b before after
  marks_moved x at h narrow-top narrow clean =
      let top = word_moved x 0 (omega arith) at.0 narrow-top clean.0 in
      let children = below_moved x 1 at.1 h narrow clean.1 in
      record {
        holds = marked_moved classes b x 0 (get_or before 0 0) (get_or after 0 0) (drop 1 before) (drop 1 after)
            (shifts classes b top)
            children;
        clean = (top.clean, clean_moved classes b x (drop 1 before) (drop 1 after) children);
      }

-- word by word, every word is moved
pub moved_all : {rows classes before after : List ℕ} {b n m : ℕ} → m ≡ n
    → MadeAnew (WordMoved rows classes before b) before after 0 m → MovedAll rows classes before after b n
moved_all {rows} {classes} {before} {after} {b} {n} {m} e anew = record {
  same_length = anew.same_length;
  marks = marks_moved rows classes before after b n
      (subst (λ (k : ℕ). MadeAnew (WordMoved rows classes before b) before after 0 k) e anew);
  others = λ k h. anew.others k (inr (omega arith));
}
