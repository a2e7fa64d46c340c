-- The plain simulation as a function of its marks: more marks give more, and no mark gives none.
use Rattle.std.specs.Prelude.{ℕ}
use Rattle.language.specs.Tree.{Tree}
use Rattle.language.specs.Meaning.{Meaning}
use Rattle.language.specs.Automaton.{State, States, Empty, PathOf, here, step, Closed, Stepped}

-- each state of X is one of Y
infix 4 ◌⊆◌
abbrev pub ◌⊆◌ : States → States → Type 0
X ⊆ Y = (q : State) → X q → Y q

-- a set that no step of R leads out of
abbrev pub SettledBy : (State → State → Type 0) → States → Type 0
SettledBy R X = (p q : State) → R p q → X p → X q

-- a path follows its steps
pub along : {R : State → State → Type 0} {X : States} → SettledBy R X → (p q : State) → PathOf R p q → X p → X q
along settled p q here x = x
along settled p q (step {q = m} r rest) x = along settled m q rest (settled p m r x)

-- paths join
pub then : {R : State → State → Type 0} {p q r : State} → PathOf R p q → PathOf R q r → PathOf R p r
then here rest = rest
then (step r path) rest = step r (then path rest)

module _ {A : Type 0} (M : Meaning A) (t : Tree A) where
  -- closing loses no mark
  pub closed_keeps : (X : States) → X ⊆ Closed M t X
  closed_keeps X p x = (p, x, here)

  -- what is closed is settled: a path goes one step further
  pub closed_settled : (X : States) → SettledBy (Empty M t) (Closed M t X)
  closed_settled X p q e c = (c.0, c.1, then c.2 (step e here))

  -- closing is the least: it stays within each settled set
  pub closed_least : {X Y : States} → SettledBy (Empty M t) Y → X ⊆ Y → Closed M t X ⊆ Y
  closed_least settled within p c = along settled c.0 p c.2 (within c.0 c.1)

  -- more marks close to more
  pub closed_more : {X Y : States} → X ⊆ Y → Closed M t X ⊆ Closed M t Y
  closed_more more p c = (c.0, more c.0 c.1, c.2)

module _ {A : Type 0} (M : Meaning A) (t : Tree A) where
  -- more marks step to more
  pub stepped_more : (b : ℕ) {X Y : States} → X ⊆ Y → Stepped M t b X ⊆ Stepped M t b Y
  stepped_more b more = closed_more M t (λ p m. (m.0, more m.0 m.1, m.2))

  -- no mark stays no mark
  pub none_left : (b : ℕ) {X : States} → ((p : State) → X p → ⊥) → (p : State) → Stepped M t b X p → ⊥
  none_left b none p c = none c.1.0 c.1.1
