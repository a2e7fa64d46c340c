-- Marks matter only at the states that there are: moves and sweeps make marks that agree there of marks that agree
-- there.
use Rattle.std.specs.Prelude.{◌≡◌, ◌↔◌}
use Rattle.std.proofs.Math.Logic.Iff
use Rattle.std.proofs.Common.{inl, inr}
use Rattle.language.specs.Tree.{Tree}
use Rattle.language.specs.Meaning.{Meaning}
use Rattle.language.specs.Automaton.{State, start, accepting, left, right, States, Empty, here, step, Closed}
use Rattle.language.specs.Nested.{Nested, leaf, catenation, union, star, below, OwnLeaf, own, own_meaning, OwnEmpty, Has, Models, Down, Up, Visit, Sweep}
use Rattle.language.specs.Same.{MoreIn, Agree}

-- marks that agree model the same sets
pub models_same : {A : Type 0} (x : Nested A) (X : States) {Y Z : States} → Agree x Y Z → Models x Z X → Models x Y X
models_same x X same models q has = Iff.trans (same q has) (models q has)

-- passing down makes more of more
down_more_in : (e : State → State) (D Y Z : States) → MoreIn D (λ p. Y (e (left p))) (λ p. Z (e (left p)))
    → (Y (e start) → Z (e start)) → MoreIn D (Down e Y) (Down e Z)
down_more_in e D Y Z more above p d (inl m) = inl (more p d m)
down_more_in e D Y Z more above p d (inr (begins, m)) = inr (begins, above m)

-- passing up likewise
pub up_more_in : (e : State → State) (below-Y below-Z Y Z : States) (q : State) →
    (Y q → Z q) → MoreIn (λ p. q ≡ e (left p)) below-Y below-Z → (below-Y accepting → below-Z accepting)
    → Up e below-Y Y q → Up e below-Z Z q
up_more_in e below-Y below-Z Y Z q more child accepts (inl m) = inl (more m)
up_more_in e below-Y below-Z Y Z q more child accepts (inr (inl (p, stands, m))) =
    inr (inl (p, stands, child p stands m))
up_more_in e below-Y below-Z Y Z q more child accepts (inr (inr (stands, m))) = inr (inr (stands, accepts m))

module _ {A : Type 0} (M : Meaning A) where
  -- a transition of the top piece's own tree begins at a state that there is
  own_has : (x : Nested A) (p q : State) → OwnEmpty M x p q → Has x p
  own_has (leaf a) p q (Empty.leaf_past has) = tt
  own_has (catenation x y) p q Empty.catenation_in = tt
  own_has (catenation x y) p q Empty.catenation_over = tt
  own_has (catenation x y) p q Empty.catenation_out = tt
  own_has (catenation x y) (left p) (left q) (Empty.catenation_left e) = own_has x p q e
  own_has (catenation x y) (right p) (right q) (Empty.catenation_right e) = own_has y p q e
  own_has (union x y) p q Empty.union_in_left = tt
  own_has (union x y) p q Empty.union_in_right = tt
  own_has (union x y) p q Empty.union_out_left = tt
  own_has (union x y) p q Empty.union_out_right = tt
  own_has (union x y) (left p) (left q) (Empty.union_left e) = own_has x p q e
  own_has (union x y) (right p) (right q) (Empty.union_right e) = own_has y p q e
  own_has (star x) p q Empty.star_in = tt
  own_has (star x) p q Empty.star_past = tt
  own_has (star x) p q Empty.star_out = tt
  own_has (star x) p q Empty.star_back = tt
  own_has (star x) (left p) (left q) (Empty.star_inside e) = own_has x p q e
  own_has (below x) p q (Empty.leaf_past has) = tt

  -- more marks within D close to more within D, where each transition begins in D
  pub closed_more_in : (r : Tree (OwnLeaf A)) (D Y Z : States) → ((p q : State) → Empty (own_meaning M) r p q → D p)
      → MoreIn D Y Z
      → MoreIn D (Closed (own_meaning M) r Y) (Closed (own_meaning M) r Z)
  closed_more_in r D Y Z begins more q d (p, m, here) = (p, more p d m, here)
  closed_more_in r D Y Z begins more q d (p, m, step e path) = (p, more p (begins _ _ e) m, step e path)

  -- more marks within D come to more within D when the child pieces below x are gone through; x stands at e, where D
  -- has its states
  pub visit_more_in : (r : Tree (OwnLeaf A)) (x : Nested A) (e : State → State) (D Y Z : States)
      → ((p q : State) → Empty (own_meaning M) r p q → D p) → ((p : State) → D (e p) ↔ Has x p) →
      MoreIn D Y Z → MoreIn D (Visit M x e (Closed (own_meaning M) r) Y) (Visit M x e (Closed (own_meaning M) r) Z)
  visit_more_in r (leaf a) e D Y Z begins states more = more
  visit_more_in r (catenation x y) e D Y Z begins states more =
      visit_more_in r y _ D _ _ begins (λ p. states (right p))
      (visit_more_in r x _ D Y Z begins (λ p. states (left p)) more)
  visit_more_in r (union x y) e D Y Z begins states more =
      visit_more_in r y _ D _ _ begins (λ p. states (right p))
      (visit_more_in r x _ D Y Z begins (λ p. states (left p)) more)
  visit_more_in r (star x) e D Y Z begins states more = visit_more_in r x _ D Y Z begins (λ p. states (left p)) more
  visit_more_in r (below x) e D Y Z begins states more =
      let down : MoreIn (Has x) (Down e Y) (Down e Z) =
      down_more_in e (Has x) Y Z (λ p h. more _ ((states (left p)).1 h)) (more _ ((states start).1 tt)) in
      let child : MoreIn (Has x) (Sweep M x (Down e Y)) (Sweep M x (Down e Z)) =
      visit_more_in (own x) x (λ p. p) (Has x) _ _ (own_has x) (λ p. Iff.rfl)
      (closed_more_in (own x) (Has x) _ _ (own_has x) down) in
      closed_more_in r D _ _ begins
      (λ q d. up_more_in e _ _ Y Z q (more q d) (λ p stands. child p ((states (left p)).0 (rw stands at d)))
      (child accepting tt))

  -- a sweep makes more marks at the states that there are of more marks at these
  pub sweep_more : (x : Nested A) {Y Z : States} → MoreIn (Has x) Y Z → MoreIn (Has x) (Sweep M x Y) (Sweep M x Z)
  sweep_more x more = visit_more_in (own x) x (λ p. p) (Has x) _ _ (own_has x) (λ p. Iff.rfl)
      (closed_more_in (own x) (Has x) _ _ (own_has x) more)

  -- so marks that agree are swept to marks that agree
  pub sweep_same : (x : Nested A) {Y Z : States} → Agree x Y Z → Agree x (Sweep M x Y) (Sweep M x Z)
  sweep_same x same q has = (sweep_more x (λ p h. (same p h).0) q has, sweep_more x (λ p h. (same p h).1) q has)
