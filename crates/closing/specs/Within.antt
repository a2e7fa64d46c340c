-- Closing looks only at states that there are, and no mark is lost by a sweep.
use Rattle.std.specs.Prelude.{◌≡◌, refl, ◌⊎◌}
use Rattle.std.proofs.Common.{subst, inl, inr, ⊎_elim}
use Rattle.language.specs.Automaton.{State, start, accepting, left, right, States, PathOf, here, step}
use Rattle.language.specs.Nested.{
  Nested,
  leaf,
  catenation,
  union,
  star,
  below,
  own,
  Has,
  Down,
  Up,
  Visit,
  Sweep,
  OwnEmpty,
  OwnClosed,
}
use Rattle.language.specs.Same.{MoreIn}
use Rattle.language.proofs.Same.{closed_more_in}
use Rattle.tree.specs.Leaf.{Leaf, byteless}
use Rattle.tables.specs.Words.{Own}
use Rattle.closing.specs.Passes.Transitions.{transition_own}

-- the top piece's own states are states
pub own_has : {A : Type 0} (x : Nested A) (q : State) → Own x q → Has x q
own_has x start h = tt
own_has (leaf a) accepting h = tt
own_has (catenation x y) accepting h = tt
own_has (union x y) accepting h = tt
own_has (star x) accepting h = tt
own_has (below x) accepting h = tt
own_has (leaf a) (left q) h = h
own_has (leaf a) (right q) h = h
own_has (catenation x y) (left q) h = own_has x q h
own_has (catenation x y) (right q) h = own_has y q h
own_has (union x y) (left q) h = own_has x q h
own_has (union x y) (right q) h = own_has y q h
own_has (star x) (left q) h = own_has x q h
own_has (star x) (right q) h = h
own_has (below x) (left q) h = absurd h
own_has (below x) (right q) h = h

-- a path of empty transitions of a piece's own tree goes nowhere, or from one of its own states to another
pub path_own : (x : Nested Leaf) {p q : State} → PathOf (OwnEmpty byteless x) p q → (p ≡ q) ⊎ (Own x p × Own x q)
path_own x here = inl refl
path_own x (step e rest) =
    inr (
      (transition_own x e).0,
      ⊎_elim (λ same. subst (Own x) same (transition_own x e).1) (λ both. both.1)
          (path_own x rest),
    )

-- an empty transition of a piece's own tree begins at a state that there is
pub begins : (x : Nested Leaf) (p q : State) → OwnEmpty byteless x p q → Has x p
begins x p q e = own_has x p (transition_own x e).0

-- more marks close to more, at the states that there are
pub closed_within : (x : Nested Leaf) (M N : States) → MoreIn (Has x) M N
    → MoreIn (Has x) (OwnClosed byteless x M) (OwnClosed byteless x N)
closed_within x M N = closed_more_in byteless (own x) (Has x) M N (begins x)

-- no mark is lost by a visit, where none is by closing
pub visit_extends : (x : Nested Leaf) (e : State → State) (close : States → States)
    → ((M : States) (q : State) → M q → close M q)
    → (M : States) (q : State) → M q → Visit byteless x e close M q
visit_extends (leaf a) e close extends M q m = m
visit_extends (catenation x y) e close extends M q m =
    visit_extends y (λ p. e (right p)) close extends (Visit byteless x (λ p. e (left p)) close M) q
    (visit_extends x (λ p. e (left p)) close extends M q m)
visit_extends (union x y) e close extends M q m =
    visit_extends y (λ p. e (right p)) close extends (Visit byteless x (λ p. e (left p)) close M) q
    (visit_extends x (λ p. e (left p)) close extends M q m)
visit_extends (star x) e close extends M q m = visit_extends x (λ p. e (left p)) close extends M q m
visit_extends (below x) e close extends M q m =
    extends (Up e (Visit byteless x (λ p. p) (OwnClosed byteless x) (OwnClosed byteless x (Down e M))) M) q (inl m)

-- no mark is lost by a sweep
pub sweep_extends : (x : Nested Leaf) (M : States) (q : State) → M q → Sweep byteless x M q
sweep_extends x M q m =
    visit_extends x (λ p. p) (OwnClosed byteless x) (λ N p n. (p, n, here)) (OwnClosed byteless x M) q (q, m, here)
