-- A sweep marks at least what one walk marks, and at most what any settled set with these marks has.
use Rattle.std.specs.Prelude.{refl}
use Rattle.std.proofs.Common.{inl, inr}
use Rattle.language.specs.Tree.{Tree}
use Rattle.language.specs.Meaning.{Meaning}
use Rattle.language.specs.Automaton.{State, start, accepting, left, right, States, Empty, Closed}
use Rattle.language.specs.Nested.{
  Nested,
  leaf,
  catenation,
  union,
  star,
  below,
  OwnLeaf,
  own,
  own_meaning,
  OwnEmpty,
  Down,
  Up,
  OwnClosed,
  Visit,
  Sweep,
}
use Rattle.language.specs.Simulation.{◌⊆◌, SettledBy, closed_keeps, closed_settled, closed_least}
use Rattle.language.specs.Settled.{Wire, Settled, settled_own}
use Rattle.language.specs.StateWalk.{entered_within, First, Second, Walked, walked_more}

-- passing down stays within a set that has the marks and passes down itself
down_within : (e : State → State) (X Z : States) → X ⊆ Z → (Z (e start) → Z (e (left start)))
    → Down e X ⊆ (λ p. Z (e (left p)))
down_within e X Z within down p (inl m) = within _ m
down_within e X Z within down p (inr (begins, m)) = rw begins (down (within _ m))

-- passing up likewise
up_within : (e : State → State) (child X Z : States) → X ⊆ Z → child ⊆ (λ p. Z (e (left p)))
    → (Z (e (left accepting)) → Z (e accepting)) → Up e child X ⊆ Z
up_within e child X Z within inside up q (inl m) = within q m
up_within e child X Z within inside up q (inr (inl (p, stands, m))) = rw stands (inside p m)
up_within e child X Z within inside up q (inr (inr (stands, m))) = rw stands (up (inside accepting m))

module _ {A : Type 0} (M : Meaning A) where
  -- x stands at e in a piece whose own tree is r: its own empty transitions are the piece's
  abbrev PartOfPiece : Tree (OwnLeaf A) → (State → State) → Nested A → Type 0
  PartOfPiece r e x = (p q : State) → OwnEmpty M x p q → Empty (own_meaning M) r (e p) (e q)

  -- going through the child pieces loses no mark
  visit_keeps : (r : Tree (OwnLeaf A)) (x : Nested A) (e : State → State) (X : States) → X
      ⊆ Visit M x e (Closed (own_meaning M) r) X
  visit_keeps r (leaf a) e X q m = m
  visit_keeps r (catenation x y) e X q m = visit_keeps r y _ _ q (visit_keeps r x _ X q m)
  visit_keeps r (union x y) e X q m = visit_keeps r y _ _ q (visit_keeps r x _ X q m)
  visit_keeps r (star x) e X q m = visit_keeps r x _ X q m
  visit_keeps r (below x) e X q m = closed_keeps (own_meaning M) r _ q (inl m)

  -- and leaves the piece closed
  visit_settled : (r : Tree (OwnLeaf A)) (x : Nested A) (e : State → State) (X : States)
      → SettledBy (Empty (own_meaning M) r) X
      → SettledBy (Empty (own_meaning M) r) (Visit M x e (Closed (own_meaning M) r) X)
  visit_settled r (leaf a) e X settled = settled
  visit_settled r (catenation x y) e X settled = visit_settled r y _ _ (visit_settled r x _ X settled)
  visit_settled r (union x y) e X settled = visit_settled r y _ _ (visit_settled r x _ X settled)
  visit_settled r (star x) e X settled = visit_settled r x _ X settled
  visit_settled r (below x) e X settled = closed_settled (own_meaning M) r _

  -- it marks what a walk marks, where the piece is closed before: then all that the walk adds at the piece's own states
  -- is there already, but for what child pieces lead to, and after each of them the piece is closed again
  abbrev Walks : Tree (OwnLeaf A) → Nested A → Type 1
  Walks r x = (e : State → State) (X : States) → PartOfPiece r e x → SettledBy (Empty (own_meaning M) r) X
      → Walked M x (λ p. X (e p)) ⊆ (λ q. Visit M x e (Closed (own_meaning M) r) X (e q))

  -- a leaf that has the empty text leads to its accepting state: the piece is closed
  leaf_walks : (r : Tree (OwnLeaf A)) (a : A) → Walks r (leaf a)
  leaf_walks r a e X stands settled start m = m
  leaf_walks r a e X stands settled accepting (inl m) = m
  leaf_walks r a e X stands settled accepting (inr (has, m)) = settled _ _ (stands _ _ (Empty.leaf_past has)) m
  leaf_walks r a e X stands settled (left q) m = m
  leaf_walks r a e X stands settled (right q) m = m

  -- a left or only child is entered from the start above it
  first_walks : (r : Tree (OwnLeaf A)) (x : Nested A) → Walks r x → (e : State → State) (X : States)
      → PartOfPiece r (λ p. e (left p)) x → SettledBy (Empty (own_meaning M) r) X →
      Empty (own_meaning M) r (e start) (e (left start))
      → First (Walked M x) (λ p. X (e p)) ⊆ (λ q. Visit M x (λ p. e (left p)) (Closed (own_meaning M) r) X (e (left q)))
  first_walks r x walks e X stands settled enter q m =
      walks _ X stands settled q (walked_more M x _ _ (entered_within (λ p m. m) (settled _ _ enter)) q m)

  -- a right child, visited when the marks X have grown to Y, is entered where that marked its start
  second_walks : (r : Tree (OwnLeaf A)) (y : Nested A) → Walks r y → (e : State → State) (X Y : States)
      → PartOfPiece r (λ p. e (right p)) y → SettledBy (Empty (own_meaning M) r) Y → X ⊆ Y →
      {P : Type 0} → (P → Y (e (right start)))
      → Second (Walked M y) P (λ p. X (e p)) ⊆
      (λ q. Visit M y (λ p. e (right p)) (Closed (own_meaning M) r) Y (e (right q)))
  second_walks r y walks e X Y stands settled more enter q m =
      walks _ Y stands settled q (walked_more M y _ _ (entered_within (λ p. more (e (right p))) enter) q m)

  -- a catenation's children are gone through one after the other; the walk enters the right one where the visit to the
  -- left one led over to it
  catenation_walks : (r : Tree (OwnLeaf A)) (x y : Nested A) → Walks r x → Walks r y → Walks r (catenation x y)
  catenation_walks r x y first second e X stands settled = go
    where
      closed : SettledBy (Empty (own_meaning M) r) (Visit M x (λ p. e (left p)) (Closed (own_meaning M) r) X)
      closed = visit_settled r x _ X settled

      on_left : First (Walked M x) (λ p. X (e p)) ⊆
          (λ q. Visit M x (λ p. e (left p)) (Closed (own_meaning M) r) X (e (left q)))
      on_left = first_walks r x first e X (λ p q f. stands _ _ (Empty.catenation_left f)) settled
          (stands _ _ Empty.catenation_in)

      on_right : Second (Walked M y) (First (Walked M x) (λ p. X (e p)) accepting) (λ p. X (e p)) ⊆
          (λ q. Visit M (catenation x y) e (Closed (own_meaning M) r) X (e (right q)))
      on_right = second_walks r y second e X _ (λ p q f. stands _ _ (Empty.catenation_right f)) closed
          (visit_keeps r x _ X) (λ m. closed _ _ (stands _ _ Empty.catenation_over) (on_left accepting m))

      go : Walked M (catenation x y) (λ p. X (e p)) ⊆
          (λ q. Visit M (catenation x y) e (Closed (own_meaning M) r) X (e q))
      go start m = visit_keeps r (catenation x y) e X _ m
      go accepting (inl m) = visit_keeps r (catenation x y) e X _ m
      go accepting (inr m) = visit_settled r (catenation x y) e X settled _ _ (stands _ _ Empty.catenation_out)
          (on_right accepting m)
      go (left q) m = visit_keeps r y _ _ _ (on_left q m)
      go (right q) m = on_right q m

  -- a union's right child is entered from the start above it
  union_walks : (r : Tree (OwnLeaf A)) (x y : Nested A) → Walks r x → Walks r y → Walks r (union x y)
  union_walks r x y first second e X stands settled = go
    where
      closed : SettledBy (Empty (own_meaning M) r) (Visit M (union x y) e (Closed (own_meaning M) r) X)
      closed = visit_settled r (union x y) e X settled

      on_left : First (Walked M x) (λ p. X (e p)) ⊆
          (λ q. Visit M (union x y) e (Closed (own_meaning M) r) X (e (left q)))
      on_left q m =
          visit_keeps r y _ _ _
          (first_walks r x first e X (λ p q f. stands _ _ (Empty.union_left f)) settled (stands _ _ Empty.union_in_left)
          q m)

      on_right : Second (Walked M y) (X (e start)) (λ p. X (e p))
          ⊆ (λ q. Visit M (union x y) e (Closed (own_meaning M) r) X (e (right q)))
      on_right =
          second_walks r y second e X _ (λ p q f. stands _ _ (Empty.union_right f)) (visit_settled r x _ X settled)
          (visit_keeps r x _ X) (λ m. visit_keeps r x _ X _ (settled _ _ (stands _ _ Empty.union_in_right) m))

      go : Walked M (union x y) (λ p. X (e p)) ⊆ (λ q. Visit M (union x y) e (Closed (own_meaning M) r) X (e q))
      go start m = visit_keeps r (union x y) e X _ m
      go accepting (inl m) = visit_keeps r (union x y) e X _ m
      go accepting (inr (inl m)) = closed _ _ (stands _ _ Empty.union_out_left) (on_left accepting m)
      go accepting (inr (inr m)) = closed _ _ (stands _ _ Empty.union_out_right) (on_right accepting m)
      go (left q) m = on_left q m
      go (right q) m = on_right q m

  -- the piece is closed under the backward transition too
  star_walks : (r : Tree (OwnLeaf A)) (x : Nested A) → Walks r x → Walks r (star x)
  star_walks r x first e X stands settled = go
    where
      closed : SettledBy (Empty (own_meaning M) r) (Visit M (star x) e (Closed (own_meaning M) r) X)
      closed = visit_settled r (star x) e X settled

      on_left : First (Walked M x) (λ p. X (e p)) ⊆ (λ q. Visit M (star x) e (Closed (own_meaning M) r) X (e (left q)))
      on_left = first_walks r x first e X (λ p q f. stands _ _ (Empty.star_inside f)) settled (stands _ _ Empty.star_in)

      go : Walked M (star x) (λ p. X (e p)) ⊆ (λ q. Visit M (star x) e (Closed (own_meaning M) r) X (e q))
      go start m = visit_keeps r (star x) e X _ m
      go accepting (inl m) = visit_keeps r (star x) e X _ m
      go accepting (inr (inl m)) = closed _ _ (stands _ _ Empty.star_past) (visit_keeps r (star x) e X _ m)
      go accepting (inr (inr m)) = closed _ _ (stands _ _ Empty.star_out) (on_left accepting m)
      go (left q) m = entered_within {Z = λ p. Visit M (star x) e (Closed (own_meaning M) r) X (e (left p))} on_left
          (λ m. closed _ _ (stands _ _ Empty.star_back) (on_left accepting m)) q m
      go (right q) m = visit_keeps r (star x) e X _ m

  -- a child piece is swept from the marks that passing down gives, which are those that a walk enters it with
  below_walks : (r : Tree (OwnLeaf A)) (x : Nested A) → Walks (own x) x → Walks r (below x)
  below_walks r x first e X stands settled = go
    where
      on_left : First (Walked M x) (λ p. X (e p)) ⊆ Sweep M x (Down e X)
      on_left q m =
          first (λ p. p) (OwnClosed M x (Down e X)) (λ p q f. f) (closed_settled (own_meaning M) (own x) _) q
          (walked_more M x _ _
          (entered_within (λ p m. closed_keeps (own_meaning M) (own x) (Down e X) p (inl m))
          (λ m. closed_keeps (own_meaning M) (own x) (Down e X) start (inr (refl, m)))) q m)

      go : Walked M (below x) (λ p. X (e p)) ⊆ (λ q. Visit M (below x) e (Closed (own_meaning M) r) X (e q))
      go start m = visit_keeps r (below x) e X _ m
      go accepting (inl m) = visit_keeps r (below x) e X _ m
      go accepting (inr m) = closed_keeps (own_meaning M) r _ _ (inr (inr (refl, on_left accepting m)))
      go (left q) m = closed_keeps (own_meaning M) r _ _ (inr (inl (q, refl, on_left q m)))
      go (right q) m = visit_keeps r (below x) e X _ m

  visit_walked : (r : Tree (OwnLeaf A)) (x : Nested A) → Walks r x
  visit_walked r (leaf a) = leaf_walks r a
  visit_walked r (catenation x y) = catenation_walks r x y (visit_walked r x) (visit_walked r y)
  visit_walked r (union x y) = union_walks r x y (visit_walked r x) (visit_walked r y)
  visit_walked r (star x) = star_walks r x (visit_walked r x)
  visit_walked r (below x) = below_walks r x (visit_walked (own x) x)

  -- it stays within each settled set that has the marks
  visit_within : (r : Tree (OwnLeaf A)) (x : Nested A) (e : State → State) (X Z : States)
      → SettledBy (Empty (own_meaning M) r) Z
      → Settled M x (λ p. Z (e p)) → X ⊆ Z → Visit M x e (Closed (own_meaning M) r) X ⊆ Z
  visit_within r (leaf a) e X Z closed settled within = within
  visit_within r (catenation x y) e X Z closed settled within =
      visit_within r y _ _ Z closed settled.2 (visit_within r x _ X Z closed settled.1 within)
  visit_within r (union x y) e X Z closed settled within =
      visit_within r y _ _ Z closed settled.2 (visit_within r x _ X Z closed settled.1 within)
  visit_within r (star x) e X Z closed settled within = visit_within r x _ X Z closed settled.1 within
  visit_within r (below x) e X Z closed settled within =
      let own_closed : SettledBy (OwnEmpty M x) (λ p. Z (e (left p))) = settled_own M x _ settled.1 in
      let down : Down e X ⊆ (λ p. Z (e (left p))) = down_within e X Z within (settled.0 _ _ Wire.pass_down) in
      let child : Sweep M x (Down e X) ⊆ (λ p. Z (e (left p))) =
      visit_within (own x) x (λ p. p) _ _ own_closed settled.1
      (closed_least (own_meaning M) (own x) own_closed down) in
      closed_least (own_meaning M) r closed
      (up_within e (Sweep M x (Down e X)) X Z within child (settled.0 _ _ Wire.pass_up))

  -- a sweep marks what a walk marks
  pub sweep_walked : (x : Nested A) (X : States) → Walked M x X ⊆ Sweep M x X
  sweep_walked x X q m = visit_walked (own x) x (λ p. p) _ (λ p q f. f) (closed_settled (own_meaning M) (own x) X) q
      (walked_more M x _ _ (closed_keeps (own_meaning M) (own x) X) q m)

  -- and stays within each settled set that has the marks
  pub sweep_within : (x : Nested A) (X Z : States) → Settled M x Z → X ⊆ Z → Sweep M x X ⊆ Z
  sweep_within x X Z settled within = visit_within (own x) x (λ p. p) _ Z (settled_own M x Z settled) settled
      (closed_least (own_meaning M) (own x) (settled_own M x Z settled) within)
