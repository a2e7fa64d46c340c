-- The marks after a text can be computed: sets of states as tests, closed by two walks over the tree.
use Rattle.std.specs.Prelude.{ℕ, ◌≡◌, refl, Bool, true, false, ◌&&◌, ◌||◌, ◌↔◌, ◌⊎◌, List, [], ◌∷◌}
use Rattle.std.proofs.Common.{ap, inl, inr, ⊎_elim}
use Rattle.std.proofs.lemmas.Bool.{false≢true}
use Rattle.std.proofs.Math.Logic.Iff
use Rattle.finder.specs.DecideExactly.{both, Exact}
use Rattle.language.specs.Meaning.{Meaning}
use Rattle.language.specs.Automaton.{State, start, accepting, left, right, States, Started, Stepped, After}
use Rattle.language.specs.Nested.{
  Nested,
  leaf,
  catenation,
  union,
  star,
  below,
  whole,
  Models,
  Reading,
  at_leaf,
  catenation_left,
  catenation_right,
  union_left,
  union_right,
  star_inside,
  in_child,
  Move,
  Sweep,
}
use Rattle.language.specs.StateWalk.{Entered, First, Second, Walked, walked_keeps, walked_more}
use Rattle.language.specs.TwoWalks.{two_walks_settle}
use Rattle.language.proofs.Visits.{sweep_walked, sweep_within}
use Rattle.language.proofs.Sweeps.{sweeps_start, sweeps_step}

-- a set of states that a test decides
abbrev pub Test : Type 0
Test = State → Bool

-- the states that pass
abbrev pub Passing : Test → States
Passing f q = f q ≡ true

-- the test decides the set
abbrev pub Decides : Test → States → Type 0
Decides f X = (q : State) → Passing f q ↔ X q

-- one of two tests passes
or_exactly : (a b : Bool) {P Q : Type 0} → (a ≡ true) ↔ P → (b ≡ true) ↔ Q → ((a || b) ≡ true) ↔ (P ⊎ Q)
or_exactly true b p q = (λ e. inl (p.0 refl), λ s. refl)
or_exactly false b p q = (λ e. inr (q.0 e), ⊎_elim (λ x. absurd (false≢true (p.1 x))) q.1)

-- both of two tests pass
and_exactly : (a b : Bool) {P Q : Type 0} → (a ≡ true) ↔ P → (b ≡ true) ↔ Q → ((a && b) ≡ true) ↔ (P × Q)
and_exactly true b p q = (λ e. (p.0 refl, q.0 e), λ (_, y). q.1 y)
and_exactly false b p q = (λ e. absurd (false≢true e), λ (x, _). absurd (false≢true (p.1 x)))

-- a test that fails decides what does not hold
never : {P : Type 0} → (P → ⊥) → (false ≡ true) ↔ P
never none = (λ e. absurd (false≢true e), λ p. absurd (none p))

-- what passes, and the start where p passes
abbrev entered_test : Test → Bool → Test
entered_test f p start = f start || p
entered_test f p accepting = f accepting
entered_test f p (left q) = f (left q)
entered_test f p (right q) = f (right q)

-- what a walk makes of a left or only child
abbrev first_test : (Test → Test) → Test → Test
first_test walk f = walk (entered_test (λ p. f (left p)) (f start))

-- what a walk makes of a right child, entered where p passes
abbrev second_test : (Test → Test) → Bool → Test → Test
second_test walk p f = walk (entered_test (λ q. f (right q)) p)

-- the start added to a test is the start added to the set that it decides
entered_exactly : {f : Test} {X : States} {p : Bool} {P : Type 0} → Decides f X → (p ≡ true) ↔ P
    → Decides (entered_test f p) (Entered X P)
entered_exactly {f = f} {p = p} d e start = or_exactly (f start) p (d start) e
entered_exactly d e accepting = d accepting
entered_exactly d e (left q) = d (left q)
entered_exactly d e (right q) = d (right q)

-- a function of tests decides what a function of sets gives
abbrev DecidesAfter : (Test → Test) → (States → States) → Type 1
DecidesAfter walk Walk = (f : Test) (X : States) → Decides f X → Decides (walk f) (Walk X)

-- so is a left child walked, and a right one
first_exactly : {walk : Test → Test} {Walk : States → States} → DecidesAfter walk Walk
    → DecidesAfter (first_test walk) (First Walk)
first_exactly follows f X d = follows _ _ (entered_exactly (λ p. d (left p)) (d start))

second_exactly : {walk : Test → Test} {Walk : States → States} → DecidesAfter walk Walk → {p : Bool} {P : Type 0}
    → (p ≡ true) ↔ P → DecidesAfter (second_test walk p) (Second Walk P)
second_exactly follows e f X d = follows _ _ (entered_exactly (λ p. d (right p)) e)

module _ {A : Type 0} (M : Meaning A) (exact : Exact M) where
  -- one walk over the states in their order
  unfoldable pub walked_test : Nested A → Test → Test
  walked_test (leaf a) f start = f start
  walked_test (leaf a) f accepting = f accepting || (exact.tests.has_empty a && f start)
  walked_test (leaf a) f (left q) = f (left q)
  walked_test (leaf a) f (right q) = f (right q)
  walked_test (catenation x y) f start = f start
  walked_test (catenation x y) f (left q) = first_test (walked_test x) f q
  walked_test (catenation x y) f (right q) = second_test (walked_test y) (first_test (walked_test x) f accepting) f q
  walked_test (catenation x y) f accepting = f accepting
      || second_test (walked_test y) (first_test (walked_test x) f accepting) f accepting
  walked_test (union x y) f start = f start
  walked_test (union x y) f (left q) = first_test (walked_test x) f q
  walked_test (union x y) f (right q) = second_test (walked_test y) (f start) f q
  walked_test (union x y) f accepting =
      f accepting || (first_test (walked_test x) f accepting || second_test (walked_test y) (f start) f accepting)
  walked_test (star x) f start = f start
  walked_test (star x) f (left q) = entered_test (first_test (walked_test x) f) (first_test (walked_test x) f accepting)
      q
  walked_test (star x) f (right q) = f (right q)
  walked_test (star x) f accepting = f accepting || (f start || first_test (walked_test x) f accepting)
  walked_test (below x) f start = f start
  walked_test (below x) f (left q) = first_test (walked_test x) f q
  walked_test (below x) f (right q) = f (right q)
  walked_test (below x) f accepting = f accepting || first_test (walked_test x) f accepting

  -- a walk over tests decides what a walk over sets marks
  walked_exactly : (x : Nested A) → DecidesAfter (walked_test x) (Walked M x)
  unfolding walked_test
  walked_exactly (leaf a) f X d start = d start
  walked_exactly (leaf a) f X d accepting =
      or_exactly _ _ (d accepting) (and_exactly _ _ (exact.empty_exactly a) (d start))
  walked_exactly (leaf a) f X d (left q) = d (left q)
  walked_exactly (leaf a) f X d (right q) = d (right q)
  walked_exactly (catenation x y) f X d start = d start
  walked_exactly (catenation x y) f X d (left q) = first_exactly (walked_exactly x) f X d q
  walked_exactly (catenation x y) f X d (right q) =
      second_exactly (walked_exactly y) (first_exactly (walked_exactly x) f X d accepting) f X d q
  walked_exactly (catenation x y) f X d accepting =
      or_exactly _ _ (d accepting) (second_exactly (walked_exactly y)
      (first_exactly (walked_exactly x) f X d accepting) f
      X d accepting)
  walked_exactly (union x y) f X d start = d start
  walked_exactly (union x y) f X d (left q) = first_exactly (walked_exactly x) f X d q
  walked_exactly (union x y) f X d (right q) = second_exactly (walked_exactly y) (d start) f X d q
  walked_exactly (union x y) f X d accepting =
      or_exactly _ _ (d accepting)
      (or_exactly _ _ (first_exactly (walked_exactly x) f X d accepting)
      (second_exactly (walked_exactly y) (d start) f X d accepting))
  walked_exactly (star x) f X d start = d start
  walked_exactly (star x) f X d (left q) =
      entered_exactly (first_exactly (walked_exactly x) f X d) (first_exactly (walked_exactly x) f X d accepting) q
  walked_exactly (star x) f X d (right q) = d (right q)
  walked_exactly (star x) f X d accepting =
      or_exactly _ _ (d accepting) (or_exactly _ _ (d start) (first_exactly (walked_exactly x) f X d accepting))
  walked_exactly (below x) f X d start = d start
  walked_exactly (below x) f X d (left q) = first_exactly (walked_exactly x) f X d q
  walked_exactly (below x) f X d (right q) = d (right q)
  walked_exactly (below x) f X d accepting =
      or_exactly _ _ (d accepting) (first_exactly (walked_exactly x) f X d accepting)

module _ {A : Type 0} (M : Meaning A) (exact : Exact M) (b : ℕ) where
  -- what passes after moving along the byte b
  unfoldable pub moved : Nested A → Test → Test
  moved (leaf a) f start = false
  moved (leaf a) f accepting = f start && exact.tests.takes a b
  moved (leaf a) f (left q) = false
  moved (leaf a) f (right q) = false
  moved (catenation x y) f start = false
  moved (catenation x y) f accepting = false
  moved (catenation x y) f (left q) = moved x (λ p. f (left p)) q
  moved (catenation x y) f (right q) = moved y (λ p. f (right p)) q
  moved (union x y) f start = false
  moved (union x y) f accepting = false
  moved (union x y) f (left q) = moved x (λ p. f (left p)) q
  moved (union x y) f (right q) = moved y (λ p. f (right p)) q
  moved (star x) f start = false
  moved (star x) f accepting = false
  moved (star x) f (left q) = moved x (λ p. f (left p)) q
  moved (star x) f (right q) = false
  moved (below x) f start = false
  moved (below x) f accepting = false
  moved (below x) f (left q) = moved x (λ p. f (left p)) q
  moved (below x) f (right q) = false

  -- a reading transition from a state of the set leads to one that passes
  moved_passes : {x : Nested A} {p q : State} → Reading M b x p q → (f : Test) → f p ≡ true
      → moved x f q ≡ true
  unfolding moved
  moved_passes (at_leaf {a = a} h) f e = rw (e, (exact.takes_exactly a b).1 h)
  moved_passes (catenation_left r) f e = moved_passes r (λ p. f (left p)) e
  moved_passes (catenation_right r) f e = moved_passes r (λ p. f (right p)) e
  moved_passes (union_left r) f e = moved_passes r (λ p. f (left p)) e
  moved_passes (union_right r) f e = moved_passes r (λ p. f (right p)) e
  moved_passes (star_inside r) f e = moved_passes r (λ p. f (left p)) e
  moved_passes (in_child r) f e = moved_passes r (λ p. f (left p)) e

  -- a move in a part is a move in the whole
  wider : {x z : Nested A} {X : States} {q : State} (into : State → State)
      → ((p : State) → Reading M b x p q → Reading M b z (into p) (into q)) → Move M b x (λ p. X (into p)) q
      → Move M b z X (into q)
  wider into reading m = (into m.0, m.1, reading m.0 m.2)

  -- what passes is reached by a reading transition from what passed
  moved_found : (x : Nested A) (f : Test) (q : State) → moved x f q ≡ true → Move M b x (Passing f) q
  unfolding moved
  moved_found (leaf a) f start e = absurd (false≢true e)
  moved_found (leaf a) f accepting e = let (p, q) =
      both (f start) (exact.tests.takes a b) e in (start, p, at_leaf ((exact.takes_exactly a b).0 q))
  moved_found (leaf a) f (left q) e = absurd (false≢true e)
  moved_found (leaf a) f (right q) e = absurd (false≢true e)
  moved_found (catenation x y) f start e = absurd (false≢true e)
  moved_found (catenation x y) f accepting e = absurd (false≢true e)
  moved_found (catenation x y) f (left q) e = wider left (λ p. catenation_left) (moved_found x (λ p. f (left p)) q e)
  moved_found (catenation x y) f (right q) e =
      wider right (λ p. catenation_right) (moved_found y (λ p. f (right p)) q e)
  moved_found (union x y) f start e = absurd (false≢true e)
  moved_found (union x y) f accepting e = absurd (false≢true e)
  moved_found (union x y) f (left q) e = wider left (λ p. union_left) (moved_found x (λ p. f (left p)) q e)
  moved_found (union x y) f (right q) e = wider right (λ p. union_right) (moved_found y (λ p. f (right p)) q e)
  moved_found (star x) f start e = absurd (false≢true e)
  moved_found (star x) f accepting e = absurd (false≢true e)
  moved_found (star x) f (left q) e = wider left (λ p. star_inside) (moved_found x (λ p. f (left p)) q e)
  moved_found (star x) f (right q) e = absurd (false≢true e)
  moved_found (below x) f start e = absurd (false≢true e)
  moved_found (below x) f accepting e = absurd (false≢true e)
  moved_found (below x) f (left q) e = wider left (λ p. in_child) (moved_found x (λ p. f (left p)) q e)
  moved_found (below x) f (right q) e = absurd (false≢true e)

  -- so the test decides the move
  moved_exactly : (x : Nested A) (f : Test) → Decides (moved x f) (Move M b x (Passing f))
  moved_exactly x f q = (moved_found x f q, λ m. moved_passes m.2 f m.1)

module _ {A : Type 0} (M : Meaning A) (exact : Exact M) (x : Nested A) where
  -- two walks mark what two sweeps mark
  walks_sweep : (X : States) (q : State) → Walked M x (Walked M x X) q ↔ Sweep M x (Sweep M x X) q
  walks_sweep X q = (
    λ m. sweep_walked M x (Sweep M x X) q (walked_more M x (Walked M x X) (Sweep M x X) (sweep_walked M x X) q m),
    sweep_within M x (Sweep M x X) _ (two_walks_settle M x X)
        (sweep_within M x X _ (two_walks_settle M x X) (λ p m. walked_keeps M x _ p (walked_keeps M x X p m))) q,
  )

  -- two walks over tests decide two sweeps
  swept_exactly : (f : Test) (X : States) → Decides f X
      → Decides (walked_test M exact x (walked_test M exact x f)) (Sweep M x (Sweep M x X))
  swept_exactly f X d q =
      let once = walked_exactly M exact x f X d in
      Iff.trans (walked_exactly M exact x (walked_test M exact x f) (Walked M x X) once q) (walks_sweep X q)

-- only the start
abbrev pub only_start : Test
only_start start = true
only_start accepting = false
only_start (left q) = false
only_start (right q) = false

-- that test decides the set of the start alone
only_start_exactly : Decides only_start (λ q. q ≡ start)
only_start_exactly start = (λ e. refl, λ e. refl)
only_start_exactly accepting = (λ e. absurd (false≢true e), ap only_start)
only_start_exactly (left q) = (λ e. absurd (false≢true e), ap only_start)
only_start_exactly (right q) = (λ e. absurd (false≢true e), ap only_start)

-- a test that decides what models a set models it too
decided_models : {A : Type 0} (x : Nested A) (X : States) {f : Test} {marks : States} → Decides f marks
    → Models x marks X → Models x (Passing f) X
decided_models x X d models q has = Iff.trans (d q) (models q has)

module _ {A : Type 0} (M : Meaning A) (exact : Exact M) (x : Nested A) where
  -- the marks to start with, as a test
  abbrev pub start_test : Test
  start_test = walked_test M exact x (walked_test M exact x only_start)

  -- one byte further: move along it, then two walks
  abbrev pub step_test : ℕ → Test → Test
  step_test b f = walked_test M exact x (walked_test M exact x (moved M exact b x f))

  -- after a text
  abbrev pub after_test : List ℕ → Test → Test
  after_test [] f = f
  after_test (b ∷ w) f = after_test w (step_test b f)

  -- byte by byte the test models the marks of the plain simulation
  after_models : (w : List ℕ) (f : Test) (X : States) → Models x (Passing f) X
      → Models x (Passing (after_test w f)) (After M (whole x) w X)
  after_models [] f X models = models
  after_models (b ∷ w) f X models =
      after_models w (step_test b f) (Stepped M (whole x) b X)
      (decided_models x (Stepped M (whole x) b X) (swept_exactly M exact x _ _ (moved_exactly M exact b x f))
      (sweeps_step M b x (Passing f) X models))

  -- the computed test is that of the plain simulation
  pub computed_models : (w : List ℕ)
      → Models x (Passing (after_test w start_test)) (After M (whole x) w (Started M (whole x)))
  computed_models w =
      after_models w start_test (Started M (whole x))
      (decided_models x (Started M (whole x)) (swept_exactly M exact x only_start _ only_start_exactly)
      (sweeps_start M x))
