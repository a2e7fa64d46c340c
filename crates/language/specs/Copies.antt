-- A state of the uncut automaton and its copies in the cut one: a node's own state, and those of the stand-ins of its
-- piece.
use Rattle.std.specs.Prelude.{ℕ, ◌≡◌, refl}
use Rattle.std.proofs.Common.{ap}
use Rattle.language.specs.Tree.{Tree}
use Rattle.language.specs.Meaning.{Meaning}
use Rattle.language.specs.Automaton.{State, start, accepting, left, right, States, Empty, Reads}
use Rattle.language.specs.Nested.{Nested, leaf, catenation, union, star, below, whole, Has, origin, Reading}
use Rattle.language.specs.Settled.{Wire, Settled}

-- the state q of the cut automaton is a copy of the state p of the uncut one
pub data Copy {A : Type 0} : Nested A → State → State → Type 0 where
  of_start : {x : Nested A} → Copy x start start
  of_accepting : {x : Nested A} → Copy x accepting accepting
  catenation_left : {x y : Nested A} {q p : State} → Copy x q p → Copy (catenation x y) (left q) (left p)
  catenation_right : {x y : Nested A} {q p : State} → Copy y q p → Copy (catenation x y) (right q) (right p)
  union_left : {x y : Nested A} {q p : State} → Copy x q p → Copy (union x y) (left q) (left p)
  union_right : {x y : Nested A} {q p : State} → Copy y q p → Copy (union x y) (right q) (right p)
  star_inside : {x : Nested A} {q p : State} → Copy x q p → Copy (star x) (left q) (left p)
  in_child : {x : Nested A} {q p : State} → Copy x q p → Copy (below x) (left q) p

module _ {A : Type 0} where
  -- each state is a copy of its origin
  pub copy_of_origin : (x : Nested A) (q : State) → Has x q → Copy x q (origin x q)
  copy_of_origin x start has = of_start
  copy_of_origin x accepting has = of_accepting
  copy_of_origin (catenation x y) (left q) has = Copy.catenation_left (copy_of_origin x q has)
  copy_of_origin (catenation x y) (right q) has = Copy.catenation_right (copy_of_origin y q has)
  copy_of_origin (union x y) (left q) has = Copy.union_left (copy_of_origin x q has)
  copy_of_origin (union x y) (right q) has = Copy.union_right (copy_of_origin y q has)
  copy_of_origin (star x) (left q) has = Copy.star_inside (copy_of_origin x q has)
  copy_of_origin (below x) (left q) has = in_child (copy_of_origin x q has)
  copy_of_origin (leaf _) (left q) has = elim has [ ]
  copy_of_origin (leaf _) (right q) has = elim has [ ]
  copy_of_origin (star x) (right q) has = elim has [ ]
  copy_of_origin (below x) (right q) has = elim has [ ]

  -- and of no other state
  pub copy_has : {x : Nested A} {q p : State} → Copy x q p → Has x q × (origin x q ≡ p)
  copy_has of_start = (tt, refl)
  copy_has of_accepting = (tt, refl)
  copy_has (Copy.catenation_left c) = ((copy_has c).0, ap left (copy_has c).1)
  copy_has (Copy.catenation_right c) = ((copy_has c).0, ap right (copy_has c).1)
  copy_has (Copy.union_left c) = ((copy_has c).0, ap left (copy_has c).1)
  copy_has (Copy.union_right c) = ((copy_has c).0, ap right (copy_has c).1)
  copy_has (Copy.star_inside c) = ((copy_has c).0, ap left (copy_has c).1)
  copy_has (in_child c) = copy_has c

  -- every copy of p lies in N
  abbrev pub Full : Nested A → States → State → Type 0
  Full x N p = (q : State) → Copy x q p → N q

module _ {A : Type 0} (M : Meaning A) (b : ℕ) where
  -- each reading transition of the cut automaton is one of the uncut automaton
  pub reading_reads : {x : Nested A} {p q : State} → Reading M b x p q
      → Has x p × Reads M b (whole x) (origin x p) (origin x q)
  reading_reads (Reading.at_leaf takes) = (tt, Reads.at_leaf takes)
  reading_reads (Reading.catenation_left r) = ((reading_reads r).0, Reads.catenation_left (reading_reads r).1)
  reading_reads (Reading.catenation_right r) = ((reading_reads r).0, Reads.catenation_right (reading_reads r).1)
  reading_reads (Reading.union_left r) = ((reading_reads r).0, Reads.union_left (reading_reads r).1)
  reading_reads (Reading.union_right r) = ((reading_reads r).0, Reads.union_right (reading_reads r).1)
  reading_reads (Reading.star_inside r) = ((reading_reads r).0, Reads.star_inside (reading_reads r).1)
  reading_reads (Reading.in_child r) = reading_reads r

  -- none of these ends in the start
  never_reads : {t : Tree A} {p : State} → Reads M b t p start → ⊥
  never_reads = elim [ ]

module _ {A : Type 0} (M : Meaning A) where
  -- where the start lies in a settled set, all its copies do: it is passed down
  pub start_full : (x : Nested A) (N : States) → Settled M x N → N start → Full x N start
  start_full x N settled m start of_start = m
  start_full (below x) N settled m (left q) (in_child c) =
      start_full x _ settled.1 (settled.0 _ _ Wire.pass_down m) q c
  start_full x N settled m accepting x5 = elim x5 [ ]
  start_full (leaf _) N settled m (left q) x8 = elim x8 [ ]
  start_full (catenation _ _) N settled m (left q) x10 = elim x10 [ ]
  start_full (union _ _) N settled m (left q) x11 = elim x11 [ ]
  start_full (star _) N settled m (left q) x11 = elim x11 [ ]
  start_full x N settled m (right _) x8 = elim x8 [ ]

  -- what is full in a child piece is full with its stand-in, but for the start: the accepting state is passed up
  child_full : (x : Nested A) (N : States) → Settled M (below x) N → {p : State} → (p ≡ start → ⊥)
      → Full x (λ q. N (left q)) p → Full (below x) N p
  child_full x N settled other full start of_start = absurd (other refl)
  child_full x N settled other full accepting of_accepting = settled.0 _ _ Wire.pass_up (full accepting of_accepting)
  child_full x N settled other full (left q) (in_child c) = full q c
  child_full x N settled {p = p} other full (right _) x3 = elim x3 [ ]

  -- no empty transition ends in the start
  never_empty : {t : Tree A} {p : State} → Empty M t p start → ⊥
  never_empty = elim [ ]

  -- an empty transition of the uncut automaton leads from full to full in a settled set
  pub empty_full : (x : Nested A) (N : States) → Settled M x N → {p q : State} → Empty M (whole x) p q → Full x N p
      → Full x N q
  empty_full (leaf a) N s (Empty.leaf_past has) full accepting of_accepting =
      s _ _ (Wire.leaf_past has) (full start of_start)
  empty_full (catenation x y) N s Empty.catenation_in full (left q) (Copy.catenation_left c) =
      start_full x _ s.1 (s.0 _ _ Wire.catenation_in (full start of_start)) q c
  empty_full (catenation x y) N s Empty.catenation_over full (right q) (Copy.catenation_right c) =
      start_full y _ s.2 (s.0 _ _ Wire.catenation_over (full (left accepting) (Copy.catenation_left of_accepting)))
      q c
  empty_full (catenation x y) N s Empty.catenation_out full accepting of_accepting =
      s.0 _ _ Wire.catenation_out (full (right accepting) (Copy.catenation_right of_accepting))
  empty_full (catenation x y) N s (Empty.catenation_left e) full (left q) (Copy.catenation_left c) =
      empty_full x _ s.1 e (λ p d. full (left p) (Copy.catenation_left d)) q c
  empty_full (catenation x y) N s (Empty.catenation_right e) full (right q) (Copy.catenation_right c) =
      empty_full y _ s.2 e (λ p d. full (right p) (Copy.catenation_right d)) q c
  empty_full (union x y) N s Empty.union_in_left full (left q) (Copy.union_left c) =
      start_full x _ s.1 (s.0 _ _ Wire.union_in_left (full start of_start)) q c
  empty_full (union x y) N s Empty.union_in_right full (right q) (Copy.union_right c) =
      start_full y _ s.2 (s.0 _ _ Wire.union_in_right (full start of_start)) q c
  empty_full (union x y) N s Empty.union_out_left full accepting of_accepting =
      s.0 _ _ Wire.union_out_left (full (left accepting) (Copy.union_left of_accepting))
  empty_full (union x y) N s Empty.union_out_right full accepting of_accepting =
      s.0 _ _ Wire.union_out_right (full (right accepting) (Copy.union_right of_accepting))
  empty_full (union x y) N s (Empty.union_left e) full (left q) (Copy.union_left c) =
      empty_full x _ s.1 e (λ p d. full (left p) (Copy.union_left d)) q c
  empty_full (union x y) N s (Empty.union_right e) full (right q) (Copy.union_right c) =
      empty_full y _ s.2 e (λ p d. full (right p) (Copy.union_right d)) q c
  empty_full (star x) N s Empty.star_in full (left q) (Copy.star_inside c) =
      start_full x _ s.1 (s.0 _ _ Wire.star_in (full start of_start)) q c
  empty_full (star x) N s Empty.star_past full accepting of_accepting = s.0 _ _ Wire.star_past (full start of_start)
  empty_full (star x) N s Empty.star_out full accepting of_accepting =
      s.0 _ _ Wire.star_out (full (left accepting) (Copy.star_inside of_accepting))
  empty_full (star x) N s Empty.star_back full (left q) (Copy.star_inside c) =
      start_full x _ s.1 (s.0 _ _ Wire.star_back (full (left accepting) (Copy.star_inside of_accepting))) q c
  empty_full (star x) N s (Empty.star_inside e) full (left q) (Copy.star_inside c) =
      empty_full x _ s.1 e (λ p d. full (left p) (Copy.star_inside d)) q c
  empty_full (below x) N s e full q c =
      child_full x N s (λ begins. never_empty (rw begins at e))
      (empty_full x _ s.1 e (λ p d. full (left p) (in_child d))) q c
  empty_full (leaf a) N s (Empty.leaf_past has) full start c = elim c [ ]
  empty_full (leaf a) N s (Empty.leaf_past has) full (left q) c = elim c [ ]
  empty_full (leaf a) N s (Empty.leaf_past has) full (right q) c = elim c [ ]
  empty_full (catenation x y) N s Empty.catenation_in full start c = elim c [ ]
  empty_full (catenation x y) N s Empty.catenation_in full accepting c = elim c [ ]
  empty_full (catenation x y) N s Empty.catenation_in full (right q) c = elim c [ ]
  empty_full (catenation x y) N s Empty.catenation_over full start c = elim c [ ]
  empty_full (catenation x y) N s Empty.catenation_over full accepting c = elim c [ ]
  empty_full (catenation x y) N s Empty.catenation_over full (left q) c = elim c [ ]
  empty_full (catenation x y) N s Empty.catenation_out full start c = elim c [ ]
  empty_full (catenation x y) N s Empty.catenation_out full (left q) c = elim c [ ]
  empty_full (catenation x y) N s Empty.catenation_out full (right q) c = elim c [ ]
  empty_full (catenation x y) N s (Empty.catenation_left {p = p} {q = q} e) full start c = elim c [ ]
  empty_full (catenation x y) N s (Empty.catenation_left {p = p} {q = q} e) full accepting c = elim c [ ]
  empty_full (catenation x y) N s (Empty.catenation_left {p = p} e) full (right q) c = elim c [ ]
  empty_full (catenation x y) N s (Empty.catenation_right {p = p} {q = q} e) full start c = elim c [ ]
  empty_full (catenation x y) N s (Empty.catenation_right {p = p} {q = q} e) full accepting c = elim c [ ]
  empty_full (catenation x y) N s (Empty.catenation_right {p = p} e) full (left q) c = elim c [ ]
  empty_full (union x y) N s Empty.union_in_left full start c = elim c [ ]
  empty_full (union x y) N s Empty.union_in_left full accepting c = elim c [ ]
  empty_full (union x y) N s Empty.union_in_left full (right q) c = elim c [ ]
  empty_full (union x y) N s Empty.union_in_right full start c = elim c [ ]
  empty_full (union x y) N s Empty.union_in_right full accepting c = elim c [ ]
  empty_full (union x y) N s Empty.union_in_right full (left q) c = elim c [ ]
  empty_full (union x y) N s Empty.union_out_left full start c = elim c [ ]
  empty_full (union x y) N s Empty.union_out_left full (left q) c = elim c [ ]
  empty_full (union x y) N s Empty.union_out_left full (right q) c = elim c [ ]
  empty_full (union x y) N s Empty.union_out_right full start c = elim c [ ]
  empty_full (union x y) N s Empty.union_out_right full (left q) c = elim c [ ]
  empty_full (union x y) N s Empty.union_out_right full (right q) c = elim c [ ]
  empty_full (union x y) N s (Empty.union_left {p = p} {q = q} e) full start c = elim c [ ]
  empty_full (union x y) N s (Empty.union_left {p = p} {q = q} e) full accepting c = elim c [ ]
  empty_full (union x y) N s (Empty.union_left {p = p} e) full (right q) c = elim c [ ]
  empty_full (union x y) N s (Empty.union_right {p = p} {q = q} e) full start c = elim c [ ]
  empty_full (union x y) N s (Empty.union_right {p = p} {q = q} e) full accepting c = elim c [ ]
  empty_full (union x y) N s (Empty.union_right {p = p} e) full (left q) c = elim c [ ]
  empty_full (star x) N s Rattle.language.specs.Automaton.star_in full start c = elim c [ ]
  empty_full (star x) N s Rattle.language.specs.Automaton.star_in full accepting c = elim c [ ]
  empty_full (star x) N s Rattle.language.specs.Automaton.star_in full (right q) c = elim c [ ]
  empty_full (star x) N s Rattle.language.specs.Automaton.star_past full start c = elim c [ ]
  empty_full (star x) N s Rattle.language.specs.Automaton.star_past full (left q) c = elim c [ ]
  empty_full (star x) N s Rattle.language.specs.Automaton.star_past full (right q) c = elim c [ ]
  empty_full (star x) N s Rattle.language.specs.Automaton.star_out full start c = elim c [ ]
  empty_full (star x) N s Rattle.language.specs.Automaton.star_out full (left q) c = elim c [ ]
  empty_full (star x) N s Rattle.language.specs.Automaton.star_out full (right q) c = elim c [ ]
  empty_full (star x) N s Rattle.language.specs.Automaton.star_back full start c = elim c [ ]
  empty_full (star x) N s Rattle.language.specs.Automaton.star_back full accepting c = elim c [ ]
  empty_full (star x) N s Rattle.language.specs.Automaton.star_back full (right q) c = elim c [ ]
  empty_full (star x) N s (Rattle.language.specs.Automaton.star_inside {p = p} {q = q} e) full start c = elim c [ ]
  empty_full (star x) N s (Rattle.language.specs.Automaton.star_inside {p = p} {q = q} e) full accepting c = elim c [ ]
  empty_full (star x) N s (Rattle.language.specs.Automaton.star_inside {p = p} e) full (right q) c = elim c [ ]

  module _ (N : Meaning A) (b : ℕ) where
    -- a transition that reads b, by whatever meaning, leads from full in some marks to full in a settled set that has
    -- what these move to
    pub reads_full : (x : Nested A) (marks reached : States) → Settled M x reached
        → ((p q : State) → Reading N b x p q → marks p → reached q) → {p q : State} → Reads N b (whole x) p q
        → Full x marks p → Full x reached q
    reads_full (leaf a) marks reached s moved (Reads.at_leaf takes) full accepting of_accepting =
        moved start accepting (Reading.at_leaf takes) (full start of_start)
    reads_full (catenation x y) marks reached s moved (Reads.catenation_left e) full (left q) (Copy.catenation_left c) =
        reads_full x _ _ s.1 (λ p q r. moved (left p) (left q) (Reading.catenation_left r)) e
        (λ p d. full (left p) (Copy.catenation_left d)) q c
    reads_full (catenation x y) marks reached s moved (Reads.catenation_right e) full (right q)
        (Copy.catenation_right c) =
        reads_full y _ _ s.2 (λ p q r. moved (right p) (right q) (Reading.catenation_right r)) e
        (λ p d. full (right p) (Copy.catenation_right d)) q c
    reads_full (union x y) marks reached s moved (Reads.union_left e) full (left q) (Copy.union_left c) =
        reads_full x _ _ s.1 (λ p q r. moved (left p) (left q) (Reading.union_left r)) e
        (λ p d. full (left p) (Copy.union_left d)) q c
    reads_full (union x y) marks reached s moved (Reads.union_right e) full (right q) (Copy.union_right c) =
        reads_full y _ _ s.2 (λ p q r. moved (right p) (right q) (Reading.union_right r)) e
        (λ p d. full (right p) (Copy.union_right d)) q c
    reads_full (star x) marks reached s moved (Reads.star_inside e) full (left q) (Copy.star_inside c) =
        reads_full x _ _ s.1 (λ p q r. moved (left p) (left q) (Reading.star_inside r)) e
        (λ p d. full (left p) (Copy.star_inside d)) q c
    reads_full (below x) marks reached s moved e full q c =
        child_full x reached s (λ begins. never_reads N b (rw begins at e))
        (reads_full x _ _ s.1 (λ p q r. moved (left p) (left q) (Reading.in_child r)) e
        (λ p d. full (left p) (in_child d))) q c
    reads_full (leaf a) marks reached s moved (Reads.at_leaf takes) full start c = elim c [ ]
    reads_full (leaf a) marks reached s moved (Reads.at_leaf takes) full (left q) c = elim c [ ]
    reads_full (leaf a) marks reached s moved (Reads.at_leaf takes) full (right q) c = elim c [ ]
    reads_full (catenation x y) marks reached s moved (Reads.catenation_left {p = p} {q = q} e) full start c = elim c [ ]
    reads_full (catenation x y) marks reached s moved (Reads.catenation_left {p = p} {q = q} e) full accepting c = elim c [ ]
    reads_full (catenation x y) marks reached s moved (Reads.catenation_left {p = p} e) full (right q) c = elim c [ ]
    reads_full (catenation x y) marks reached s moved (Reads.catenation_right {p = p} {q = q} e) full start c = elim c [ ]
    reads_full (catenation x y) marks reached s moved (Reads.catenation_right {p = p} {q = q} e) full accepting c = elim c [ ]
    reads_full (catenation x y) marks reached s moved (Reads.catenation_right {p = p} e) full (left q) c = elim c [ ]
    reads_full (union x y) marks reached s moved (Reads.union_left {p = p} {q = q} e) full start c = elim c [ ]
    reads_full (union x y) marks reached s moved (Reads.union_left {p = p} {q = q} e) full accepting c = elim c [ ]
    reads_full (union x y) marks reached s moved (Reads.union_left {p = p} e) full (right q) c = elim c [ ]
    reads_full (union x y) marks reached s moved (Reads.union_right {p = p} {q = q} e) full start c = elim c [ ]
    reads_full (union x y) marks reached s moved (Reads.union_right {p = p} {q = q} e) full accepting c = elim c [ ]
    reads_full (union x y) marks reached s moved (Reads.union_right {p = p} e) full (left q) c = elim c [ ]
    reads_full (star x) marks reached s moved (Reads.star_inside {p = p} {q = q} e) full start c = elim c [ ]
    reads_full (star x) marks reached s moved (Reads.star_inside {p = p} {q = q} e) full accepting c = elim c [ ]
    reads_full (star x) marks reached s moved (Reads.star_inside {p = p} e) full (right q) c = elim c [ ]
