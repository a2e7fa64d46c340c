-- A tree cut into connected pieces, and the simulation of Bille's paper on it: moves and sweeps.
use Rattle.std.specs.Prelude.{ℕ, ◌≡◌, ◌⊎◌, ◌↔◌}
use Rattle.language.specs.Tree.{Tree}
use Rattle.language.specs.Meaning.{Meaning}
use Rattle.language.specs.Automaton.{State, start, accepting, left, right, States, Empty, Reads, Closed}

-- a tree with some edges cut: `below x` stands for a cut edge, with a stand-in above it and the child piece x below it
pub data Nested (A : Type 0) : Type 0 where
  leaf : A → Nested A
  catenation : Nested A → Nested A → Nested A
  union : Nested A → Nested A → Nested A
  star : Nested A → Nested A
  below : Nested A → Nested A

-- a leaf of a piece's own tree: one of the tree's leaves, or the stand-in of a child piece
pub data OwnLeaf (A : Type 0) : Type 0 where
  given : A → OwnLeaf A
  stand_in : OwnLeaf A

-- what holds of a given leaf as P says, and of no stand-in
abbrev pub OfGiven : {A : Type 0} → (A → Type 0) → OwnLeaf A → Type 0
OfGiven P (given a) = P a
OfGiven P stand_in = ⊥

-- the meaning of a piece's own leaves: a given leaf keeps its own; a stand-in takes no byte and has no empty text
abbrev pub own_meaning : {A : Type 0} → Meaning A → Meaning (OwnLeaf A)
own_meaning M = record { Takes = λ a b. OfGiven (λ c. M.Takes c b) a; HasEmpty = OfGiven M.HasEmpty }

-- the tree with no edge cut
abbrev pub whole : {A : Type 0} → Nested A → Tree A
whole (leaf a) = Tree.leaf a
whole (catenation x y) = Tree.catenation (whole x) (whole y)
whole (union x y) = Tree.union (whole x) (whole y)
whole (star x) = Tree.star (whole x)
whole (below x) = whole x

-- the top piece's own tree: its nodes, with a stand-in leaf for each child piece
abbrev pub own : {A : Type 0} → Nested A → Tree (OwnLeaf A)
own (leaf a) = Tree.leaf (given a)
own (catenation x y) = Tree.catenation (own x) (own y)
own (union x y) = Tree.union (own x) (own y)
own (star x) = Tree.star (own x)
own (below x) = Tree.leaf stand_in

-- which states there are: two for each node and for each stand-in; a child piece's are to the left of its stand-in's
abbrev pub Has : {A : Type 0} → Nested A → State → Type 0
Has x start = Unit {0}
Has x accepting = Unit {0}
Has (leaf a) (left q) = ⊥
Has (leaf a) (right q) = ⊥
Has (catenation x y) (left q) = Has x q
Has (catenation x y) (right q) = Has y q
Has (union x y) (left q) = Has x q
Has (union x y) (right q) = Has y q
Has (star x) (left q) = Has x q
Has (star x) (right q) = ⊥
Has (below x) (left q) = Has x q
Has (below x) (right q) = ⊥

-- the state of the uncut automaton that a state is: a child's start and accepting states are also those of its stand-in
abbrev pub origin : {A : Type 0} → Nested A → State → State
origin x start = start
origin x accepting = accepting
origin (leaf a) (left q) = left q
origin (leaf a) (right q) = right q
origin (catenation x y) (left q) = left (origin x q)
origin (catenation x y) (right q) = right (origin y q)
origin (union x y) (left q) = left (origin x q)
origin (union x y) (right q) = right (origin y q)
origin (star x) (left q) = left (origin x q)
origin (star x) (right q) = right q
origin (below x) (left q) = origin x q
origin (below x) (right q) = right q

-- marks of the cut automaton model a set of states of the uncut one: each state is marked exactly when the state that
-- it is lies in the set
abbrev pub Models : {A : Type 0} → Nested A → States → States → Type 0
Models x marks X = (q : State) → Has x q → marks q ↔ X (origin x q)

module _ {A : Type 0} (M : Meaning A) (b : ℕ) where
  -- the transitions that read the byte b in the pieces: those of the leaves; a stand-in reads no byte
  pub data Reading : Nested A → State → State → Type 0 where
    at_leaf : {a : A} → M.Takes a b → Reading (leaf a) start accepting
    catenation_left : {x y : Nested A} {p q : State} → Reading x p q → Reading (catenation x y) (left p) (left q)
    catenation_right : {x y : Nested A} {p q : State} → Reading y p q → Reading (catenation x y) (right p) (right q)
    union_left : {x y : Nested A} {p q : State} → Reading x p q → Reading (union x y) (left p) (left q)
    union_right : {x y : Nested A} {p q : State} → Reading y p q → Reading (union x y) (right p) (right q)
    star_inside : {x : Nested A} {p q : State} → Reading x p q → Reading (star x) (left p) (left q)
    in_child : {x : Nested A} {p q : State} → Reading x p q → Reading (below x) (left p) (left q)

  -- the marks after moving along the byte b in every piece
  abbrev pub Move : Nested A → States → States
  Move x marks q = (p : State) × marks p × Reading x p q

-- the marks of a child piece at e, with its start marked where its stand-in's is
abbrev pub Down : (State → State) → States → States
Down e marks p = marks (e (left p)) ⊎ ((p ≡ start) × marks (e start))

-- the marks with those of the child piece at e become `child`, and the stand-in's accepting state marked where the
-- child's is
abbrev pub Up : (State → State) → States → States → States
Up e child marks q = marks q ⊎ (((p : State) × (q ≡ e (left p)) × child p) ⊎ ((q ≡ e accepting) × child accepting))

module _ {A : Type 0} (M : Meaning A) where
  -- the empty transitions of the top piece's own tree
  abbrev pub OwnEmpty : Nested A → State → State → Type 0
  OwnEmpty x = Empty (own_meaning M) (own x)

  -- its transitions that read the byte b
  abbrev pub OwnReads : ℕ → Nested A → State → State → Type 0
  OwnReads b x = Reads (own_meaning M) b (own x)

  -- the marks, closed in the top piece
  abbrev pub OwnClosed : Nested A → States → States
  OwnClosed x = Closed (own_meaning M) (own x)

  -- go through the child pieces below x from left to right: pass a marked start down, sweep the child, pass a marked
  -- accepting state up, close the piece again.
  -- x stands at e in its piece, and `close` closes the piece
  abbrev pub Visit : Nested A → (State → State) → (States → States) → States → States
  Visit (leaf a) e close marks = marks
  Visit (catenation x y) e close marks = Visit y (λ p. e (right p)) close (Visit x (λ p. e (left p)) close marks)
  Visit (union x y) e close marks = Visit y (λ p. e (right p)) close (Visit x (λ p. e (left p)) close marks)
  Visit (star x) e close marks = Visit x (λ p. e (left p)) close marks
  Visit (below x) e close marks = close (Up e (Visit x (λ p. p) (OwnClosed x) (OwnClosed x (Down e marks))) marks)

  -- a sweep: close the top piece itself, then go through its child pieces
  abbrev pub Sweep : Nested A → States → States
  Sweep x marks = Visit x (λ p. p) (OwnClosed x) (OwnClosed x marks)
