-- Marks of a cut automaton and the set of states of the uncut one that they model: when they model one, and which it
-- is.
use Rattle.std.specs.Prelude.{ℕ, ◌≡◌, refl, ◌↔◌}
use Rattle.language.specs.Tree.{Tree, leaf, catenation, union, star}
use Rattle.language.specs.Meaning.{Meaning}
use Rattle.language.specs.Automaton.{State, start, accepting, left, right, States, Empty, Reads, Started, Stepped}
use Rattle.language.specs.Nested.{Nested, below, whole, Has, origin, Models}
use Rattle.language.specs.Simulation.{◌⊆◌, closed_least}
use Rattle.language.specs.Copies.{Copy, of_start, of_accepting, in_child, copy_has}

-- which states the automaton of a tree has: two for each node
abbrev pub StateOf : {A : Type 0} → Tree A → State → Type 0
StateOf t start = Unit {0}
StateOf t accepting = Unit {0}
StateOf (leaf a) (left p) = ⊥
StateOf (leaf a) (right p) = ⊥
StateOf (catenation s t) (left p) = StateOf s p
StateOf (catenation s t) (right p) = StateOf t p
StateOf (union s t) (left p) = StateOf s p
StateOf (union s t) (right p) = StateOf t p
StateOf (star s) (left p) = StateOf s p
StateOf (star s) (right p) = ⊥

module _ {A : Type 0} where
  -- each of them has a copy in every cut
  copy_onto : (x : Nested A) (p : State) → StateOf (whole x) p → (q : State) × Copy x q p
  copy_onto x start is = (start, of_start)
  copy_onto x accepting is = (accepting, of_accepting)
  copy_onto (Nested.catenation x y) (left p) is = let (q, c) = copy_onto x p is in (left q, Copy.catenation_left c)
  copy_onto (Nested.catenation x y) (right p) is = let (q, c) = copy_onto y p is in (right q, Copy.catenation_right c)
  copy_onto (Nested.union x y) (left p) is = let (q, c) = copy_onto x p is in (left q, Copy.union_left c)
  copy_onto (Nested.union x y) (right p) is = let (q, c) = copy_onto y p is in (right q, Copy.union_right c)
  copy_onto (Nested.star x) (left p) is = let (q, c) = copy_onto x p is in (left q, Copy.star_inside c)
  copy_onto (below x) (left p) is = let (q, c) = copy_onto x (left p) is in (left q, in_child c)
  copy_onto (below x) (right p) is = let (q, c) = copy_onto x (right p) is in (left q, in_child c)
  copy_onto (Rattle.language.specs.Nested.leaf _) (left p) is = elim is [ ]
  copy_onto (Rattle.language.specs.Nested.leaf _) (right p) is = elim is [ ]
  copy_onto (Rattle.language.specs.Nested.star x) (right p) is = elim is [ ]

  -- so each is the origin of a state of the cut automaton
  pub origin_onto : (x : Nested A) (p : State) → StateOf (whole x) p → (q : State) × Has x q × (origin x q ≡ p)
  origin_onto x p is = let (q, c) = copy_onto x p is in (q, (copy_has c).0, (copy_has c).1)

  -- states of the cut automaton that are one state are marked alike, where the marks model a set
  pub models_alike : (x : Nested A) (marks X : States) → Models x marks X → (p q : State) → Has x p → Has x q
      → origin x p ≡ origin x q → marks p → marks q
  models_alike x marks X models p q has_p has-q same m = (models q has-q).1 (rw same at ((models p has_p).0 m))

  -- and where they are, the marks model a set: that of the origins of the marked states
  pub alike_models : (x : Nested A) (marks : States)
      → ((p q : State) → Has x p → Has x q → origin x p ≡ origin x q → marks p → marks q) →
      Models x marks (λ p. (q : State) × Has x q × (origin x q ≡ p) × marks q)
  alike_models x marks alike q has = (λ m. (q, has, refl, m), λ (o, is, same, m). alike o q is has same m)

  -- a set of states that there are, which marks model, is that of the origins of the marked states
  pub models_origins : (x : Nested A) (marks X : States) → Models x marks X → X ⊆ StateOf (whole x) → (p : State)
      → X p ↔ ((q : State) × Has x q × (origin x q ≡ p) × marks q)
  models_origins x marks X models states p = (
    λ m. let (q, has, stands) = origin_onto x p (states p m) in (q, has, stands, (models q has).1 (rw stands m)),
    λ (q, has, stands, m). rw stands at ((models q has).0 m),
  )

module _ {A : Type 0} (M : Meaning A) where
  -- transitions end in states that there are
  empty_state : {t : Tree A} {p q : State} → Empty M t p q → StateOf t q
  empty_state (Empty.leaf_past has) = tt
  empty_state Empty.catenation_in = tt
  empty_state Empty.catenation_over = tt
  empty_state Empty.catenation_out = tt
  empty_state Empty.union_in_left = tt
  empty_state Empty.union_in_right = tt
  empty_state Empty.union_out_left = tt
  empty_state Empty.union_out_right = tt
  empty_state Empty.star_in = tt
  empty_state Empty.star_past = tt
  empty_state Empty.star_out = tt
  empty_state Empty.star_back = tt
  empty_state (Empty.catenation_left e) = empty_state e
  empty_state (Empty.catenation_right e) = empty_state e
  empty_state (Empty.union_left e) = empty_state e
  empty_state (Empty.union_right e) = empty_state e
  empty_state (Empty.star_inside e) = empty_state e

  reads_state : {b : ℕ} {t : Tree A} {p q : State} → Reads M b t p q → StateOf t q
  reads_state (Reads.at_leaf takes) = tt
  reads_state (Reads.catenation_left e) = reads_state e
  reads_state (Reads.catenation_right e) = reads_state e
  reads_state (Reads.union_left e) = reads_state e
  reads_state (Reads.union_right e) = reads_state e
  reads_state (Reads.star_inside e) = reads_state e

  -- so the marks of the plain simulation are states that there are
  pub started_state : (t : Tree A) → Started M t ⊆ StateOf t
  started_state t = closed_least M t (λ p q e m. empty_state e) (λ p begins. rw begins tt)

  pub stepped_state : (t : Tree A) (b : ℕ) (X : States) → Stepped M t b X ⊆ StateOf t
  stepped_state t b X = closed_least M t (λ p q e m. empty_state e) (λ q (p, m, e). reads_state e)
