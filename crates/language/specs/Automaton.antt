-- The automaton of a tree, after Bille's paper: two fresh states for every node, catenation too. And its plain
-- simulation.
use Rattle.std.specs.Prelude.{ℕ, ◌≡◌, List, [], ◌∷◌}
use Rattle.language.specs.Tree.{Tree, leaf, catenation, union, star}
use Rattle.language.specs.Meaning.{Meaning}

-- a state: the way down to a node (left, also to an only child, or right), then its start or its accepting state
pub data State : Type 0 where
  start : State
  accepting : State
  left : State → State
  right : State → State

-- the empty transitions; a leaf that has the empty text leads with no byte from its start to its accepting state
pub data Empty {A : Type 0} (M : Meaning A) : Tree A → State → State → Type 0 where
  leaf_past : {a : A} → M.HasEmpty a → Empty M (leaf a) start accepting
  catenation_in : {s t : Tree A} → Empty M (catenation s t) start (left start)
  catenation_over : {s t : Tree A} → Empty M (catenation s t) (left accepting) (right start)
  catenation_out : {s t : Tree A} → Empty M (catenation s t) (right accepting) accepting
  union_in_left : {s t : Tree A} → Empty M (union s t) start (left start)
  union_in_right : {s t : Tree A} → Empty M (union s t) start (right start)
  union_out_left : {s t : Tree A} → Empty M (union s t) (left accepting) accepting
  union_out_right : {s t : Tree A} → Empty M (union s t) (right accepting) accepting
  star_in : {s : Tree A} → Empty M (star s) start (left start)
  star_past : {s : Tree A} → Empty M (star s) start accepting
  star_out : {s : Tree A} → Empty M (star s) (left accepting) accepting
  star_back : {s : Tree A} → Empty M (star s) (left accepting) (left start)
  catenation_left : {s t : Tree A} {p q : State} → Empty M s p q → Empty M (catenation s t) (left p) (left q)
  catenation_right : {s t : Tree A} {p q : State} → Empty M t p q → Empty M (catenation s t) (right p) (right q)
  union_left : {s t : Tree A} {p q : State} → Empty M s p q → Empty M (union s t) (left p) (left q)
  union_right : {s t : Tree A} {p q : State} → Empty M t p q → Empty M (union s t) (right p) (right q)
  star_inside : {s : Tree A} {p q : State} → Empty M s p q → Empty M (star s) (left p) (left q)

-- the transitions that read the byte b: at each leaf that takes b, from its start to its accepting state
pub data Reads {A : Type 0} (M : Meaning A) (b : ℕ) : Tree A → State → State → Type 0 where
  at_leaf : {a : A} → M.Takes a b → Reads M b (leaf a) start accepting
  catenation_left : {s t : Tree A} {p q : State} → Reads M b s p q
      → Reads M b (catenation s t) (left p) (left q)
  catenation_right : {s t : Tree A} {p q : State} → Reads M b t p q
      → Reads M b (catenation s t) (right p) (right q)
  union_left : {s t : Tree A} {p q : State} → Reads M b s p q → Reads M b (union s t) (left p) (left q)
  union_right : {s t : Tree A} {p q : State} → Reads M b t p q → Reads M b (union s t) (right p) (right q)
  star_inside : {s : Tree A} {p q : State} → Reads M b s p q → Reads M b (star s) (left p) (left q)

-- zero or more steps of R
pub data PathOf (R : State → State → Type 0) : State → State → Type 0 where
  here : {p : State} → PathOf R p p
  step : {p q r : State} → R p q → PathOf R q r → PathOf R p r

-- a set of states
abbrev pub States : Type 1
States = State → Type 0

module _ {A : Type 0} (M : Meaning A) where
  -- the states that a path of empty transitions reaches from a state of X
  abbrev pub Closed : Tree A → States → States
  Closed t X q = (p : State) × X p × PathOf (Empty M t) p q

  -- the marks to start with: what the start reaches
  abbrev pub Started : Tree A → States
  Started t = Closed t (λ p. p ≡ start)

module _ {A : Type 0} (M : Meaning A) (t : Tree A) where
  -- the states that a transition reading b reaches from a state of X
  abbrev pub Moved : ℕ → States → States
  Moved b X q = (p : State) × X p × Reads M b t p q

  -- the marks after one more byte: move along that byte, then close
  abbrev pub Stepped : ℕ → States → States
  Stepped b X = Closed M t (Moved b X)

  -- the marks after a text
  abbrev pub After : List ℕ → States → States
  After [] X = X
  After (b ∷ w) X = After w (Stepped b X)

-- the plain simulation from the closed start marks the accepting state after the text w
abbrev pub Accepts : {A : Type 0} (M : Meaning A) → Tree A → List ℕ → Type 0
Accepts M t w = After M t w (Started M t) accepting
