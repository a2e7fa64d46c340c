-- One walk over the states of the cut automaton in their order, each star's backward transition taken once, after its
-- operand.
use Rattle.std.specs.Prelude.{◌↔◌, ◌⊎◌}
use Rattle.std.proofs.Math.Logic.Iff
use Rattle.std.proofs.Math.Logic.{⊎_map}
use Rattle.std.proofs.Common.{inl, inr, ⊎_elim}
use Rattle.language.specs.Automaton.{State, start, accepting, left, right, States}
use Rattle.language.specs.Meaning.{Meaning}
use Rattle.language.specs.Nested.{Nested, leaf, catenation, union, star, below}
use Rattle.language.specs.Simulation.{◌⊆◌}

-- the marks X, and the start where P holds
abbrev pub Entered : States → Type 0 → States
Entered X P start = X start ⊎ P
Entered X P accepting = X accepting
Entered X P (left q) = X (left q)
Entered X P (right q) = X (right q)

-- what a walk makes of a left or only child, entered where the start above it is marked
abbrev pub First : (States → States) → States → States
First walk X = walk (Entered (λ p. X (left p)) (X start))

-- what a walk makes of a right child, entered where P holds
abbrev pub Second : (States → States) → Type 0 → States → States
Second walk P X = walk (Entered (λ p. X (right p)) P)

-- the marks stand among those with the start added
pub entered_keeps : (X : States) (P : Type 0) → X ⊆ Entered X P
entered_keeps X P start x = inl x
entered_keeps X P accepting x = x
entered_keeps X P (left q) x = x
entered_keeps X P (right q) x = x

-- no more is marked than in Z, where Z has the marks, and the start where P holds
pub entered_within : {X Z : States} {P : Type 0} → X ⊆ Z → (P → Z start) → Entered X P ⊆ Z
entered_within within enter start e = ⊎_elim (within start) enter e
entered_within within enter accepting e = within accepting e
entered_within within enter (left q) e = within (left q) e
entered_within within enter (right q) e = within (right q) e

-- more marks, and the start for more reasons, are more
pub entered_more : {X Y : States} {P Q : Type 0} → X ⊆ Y → (P → Q) → Entered X P ⊆ Entered Y Q
entered_more {Y} {Q} more enter = entered_within (λ q x. entered_keeps Y Q q (more q x)) (λ p. inr (enter p))

-- the start marked for P, and then for R or Q, is marked for any of the three
pub entered_both : (X : States) (P R Q : Type 0) (q : State) → Entered (Entered X P) (R ⊎ Q) q ↔ Entered X (R ⊎ P ⊎ Q) q
entered_both X P R Q start = (
  ⊎_elim (⊎_map (λ x. x) (λ p. inr (inl p))) (λ c. inr (⊎_map (λ r. r) inr c)),
  ⊎_elim (λ x. inl (inl x)) (⊎_elim (λ r. inr (inl r)) (⊎_elim (λ p. inl (inr p)) (λ q. inr (inr q)))),
)
entered_both X P R Q accepting = Iff.rfl
entered_both X P R Q (left q) = Iff.rfl
entered_both X P R Q (right q) = Iff.rfl

-- a function of marks that makes more of more
abbrev Growing : (States → States) → Type 1
Growing f = (X Y : States) → X ⊆ Y → f X ⊆ f Y

first_more : {walk : States → States} → Growing walk → Growing (First walk)
first_more growing X Y more = growing _ _ (entered_more (λ p. more (left p)) (more start))

second_more : {walk : States → States} → Growing walk → {P Q : Type 0} → (P → Q) → (X Y : States) → X ⊆ Y
    → Second walk P X ⊆ Second walk Q Y
second_more growing enter X Y more = growing _ _ (entered_more (λ p. more (right p)) enter)

module _ {A : Type 0} (M : Meaning A) where
  -- the marks after one walk
  abbrev pub Walked : Nested A → States → States
  Walked (leaf a) X start = X start
  Walked (leaf a) X accepting = X accepting ⊎ (M.HasEmpty a × X start)
  Walked (leaf a) X (left q) = X (left q)
  Walked (leaf a) X (right q) = X (right q)
  Walked (catenation x y) X start = X start
  Walked (catenation x y) X (left q) = First (Walked x) X q
  Walked (catenation x y) X (right q) = Second (Walked y) (First (Walked x) X accepting) X q
  Walked (catenation x y) X accepting = X accepting ⊎ Second (Walked y) (First (Walked x) X accepting) X accepting
  Walked (union x y) X start = X start
  Walked (union x y) X (left q) = First (Walked x) X q
  Walked (union x y) X (right q) = Second (Walked y) (X start) X q
  Walked (union x y) X accepting = X accepting ⊎ First (Walked x) X accepting ⊎ Second (Walked y) (X start) X accepting
  Walked (star x) X start = X start
  Walked (star x) X (left q) = Entered (First (Walked x) X) (First (Walked x) X accepting) q
  Walked (star x) X (right q) = X (right q)
  Walked (star x) X accepting = X accepting ⊎ X start ⊎ First (Walked x) X accepting
  Walked (below x) X start = X start
  Walked (below x) X (left q) = First (Walked x) X q
  Walked (below x) X (right q) = X (right q)
  Walked (below x) X accepting = X accepting ⊎ First (Walked x) X accepting

  -- a walk loses no mark
  pub walked_keeps : (x : Nested A) (X : States) → X ⊆ Walked x X
  walked_keeps (leaf a) X start m = m
  walked_keeps (leaf a) X accepting m = inl m
  walked_keeps (leaf a) X (left q) m = m
  walked_keeps (leaf a) X (right q) m = m
  walked_keeps (catenation x y) X start m = m
  walked_keeps (catenation x y) X accepting m = inl m
  walked_keeps (catenation x y) X (left q) m = walked_keeps x _ q (entered_keeps (λ p. X (left p)) (X start) q m)
  walked_keeps (catenation x y) X (right q) m = walked_keeps y _ q (entered_keeps (λ p. X (right p)) _ q m)
  walked_keeps (union x y) X start m = m
  walked_keeps (union x y) X accepting m = inl m
  walked_keeps (union x y) X (left q) m = walked_keeps x _ q (entered_keeps (λ p. X (left p)) (X start) q m)
  walked_keeps (union x y) X (right q) m = walked_keeps y _ q (entered_keeps (λ p. X (right p)) (X start) q m)
  walked_keeps (star x) X start m = m
  walked_keeps (star x) X accepting m = inl m
  walked_keeps (star x) X (left q) m =
      entered_keeps (First (Walked x) X) (First (Walked x) X accepting) q
      (walked_keeps x (Entered (λ p. X (left p)) (X start)) q (entered_keeps (λ p. X (left p)) (X start) q m))
  walked_keeps (star x) X (right q) m = m
  walked_keeps (below x) X start m = m
  walked_keeps (below x) X accepting m = inl m
  walked_keeps (below x) X (left q) m = walked_keeps x _ q (entered_keeps (λ p. X (left p)) (X start) q m)
  walked_keeps (below x) X (right q) m = m

  -- a walk makes more of more marks
  pub walked_more : (x : Nested A) → Growing (Walked x)
  walked_more (leaf a) X Y more start m = more start m
  walked_more (leaf a) X Y more accepting m = ⊎_map (more accepting) (λ (has, m). (has, more start m)) m
  walked_more (leaf a) X Y more (left q) m = more (left q) m
  walked_more (leaf a) X Y more (right q) m = more (right q) m
  walked_more (catenation x y) X Y more start m = more start m
  walked_more (catenation x y) X Y more accepting m =
      ⊎_map (more accepting) (second_more (walked_more y) (first_more (walked_more x) X Y more accepting) X Y more
      accepting) m
  walked_more (catenation x y) X Y more (left q) m = first_more (walked_more x) X Y more q m
  walked_more (catenation x y) X Y more (right q) m =
      second_more (walked_more y) (first_more (walked_more x) X Y more accepting) X Y more q m
  walked_more (union x y) X Y more start m = more start m
  walked_more (union x y) X Y more accepting m =
      ⊎_map (more accepting)
      (⊎_map (first_more (walked_more x) X Y more accepting)
      (second_more (walked_more y) (more start) X Y more accepting)) m
  walked_more (union x y) X Y more (left q) m = first_more (walked_more x) X Y more q m
  walked_more (union x y) X Y more (right q) m = second_more (walked_more y) (more start) X Y more q m
  walked_more (star x) X Y more start m = more start m
  walked_more (star x) X Y more accepting m =
      ⊎_map (more accepting) (⊎_map (more start) (first_more (walked_more x) X Y more accepting)) m
  walked_more (star x) X Y more (left q) m =
      entered_more (first_more (walked_more x) X Y more) (first_more (walked_more x) X Y more accepting) q m
  walked_more (star x) X Y more (right q) m = more (right q) m
  walked_more (below x) X Y more start m = more start m
  walked_more (below x) X Y more accepting m = ⊎_map (more accepting) (first_more (walked_more x) X Y more accepting) m
  walked_more (below x) X Y more (left q) m = first_more (walked_more x) X Y more q m
  walked_more (below x) X Y more (right q) m = more (right q) m
