-- The sets of marks that the cut automaton adds nothing to: settled under each piece's empty transitions, passing down
-- and passing up.
use Rattle.std.specs.Prelude.{◌↔◌}
use Rattle.language.specs.Automaton.{State, start, accepting, left, right, States, Empty}
use Rattle.language.specs.Meaning.{Meaning}
use Rattle.language.specs.Nested.{Nested, leaf, catenation, union, star, below, OwnEmpty}
use Rattle.language.specs.Simulation.{SettledBy}

-- a set with the same marks as a settled one is settled by the same steps
settled_by_same : (R : State → State → Type 0) {Y Z : States} → ((q : State) → Y q ↔ Z q) → SettledBy R Y
    → SettledBy R Z
settled_by_same R same settled p q r z = (same q).0 (settled p q r ((same p).1 z))

module _ {A : Type 0} (M : Meaning A) where
  -- the empty transitions that the topmost node brings; a stand-in and the child piece below it are joined by passing
  -- down and passing up
  pub data Wire : Nested A → State → State → Type 0 where
    leaf_past : {a : A} → M.HasEmpty a → Wire (leaf a) start accepting
    catenation_in : {x y : Nested A} → Wire (catenation x y) start (left start)
    catenation_over : {x y : Nested A} → Wire (catenation x y) (left accepting) (right start)
    catenation_out : {x y : Nested A} → Wire (catenation x y) (right accepting) accepting
    union_in_left : {x y : Nested A} → Wire (union x y) start (left start)
    union_in_right : {x y : Nested A} → Wire (union x y) start (right start)
    union_out_left : {x y : Nested A} → Wire (union x y) (left accepting) accepting
    union_out_right : {x y : Nested A} → Wire (union x y) (right accepting) accepting
    star_in : {x : Nested A} → Wire (star x) start (left start)
    star_past : {x : Nested A} → Wire (star x) start accepting
    star_out : {x : Nested A} → Wire (star x) (left accepting) accepting
    star_back : {x : Nested A} → Wire (star x) (left accepting) (left start)
    pass_down : {x : Nested A} → Wire (below x) start (left start)
    pass_up : {x : Nested A} → Wire (below x) (left accepting) accepting

  -- Z is settled under every transition of the cut automaton
  abbrev pub Settled : Nested A → States → Type 0
  Settled (leaf a) Z = SettledBy (Wire (leaf a)) Z
  Settled (catenation x y) Z = SettledBy (Wire (catenation x y)) Z × Settled x (λ p. Z (left p))
      × Settled y (λ p. Z (right p))
  Settled (union x y) Z = SettledBy (Wire (union x y)) Z × Settled x (λ p. Z (left p)) × Settled y (λ p. Z (right p))
  Settled (star x) Z = SettledBy (Wire (star x)) Z × Settled x (λ p. Z (left p))
  Settled (below x) Z = SettledBy (Wire (below x)) Z × Settled x (λ p. Z (left p))

  -- a set with the same marks is settled too
  pub settled_same : (x : Nested A) {Y Z : States} → ((q : State) → Y q ↔ Z q) → Settled x Y → Settled x Z
  settled_same (leaf a) same s = settled_by_same (Wire (leaf a)) same s
  settled_same (catenation x y) same s = (
    settled_by_same (Wire (catenation x y)) same s.0,
    settled_same x (λ q. same (left q)) s.1,
    settled_same y (λ q. same (right q)) s.2,
  )
  settled_same (union x y) same s = (
    settled_by_same (Wire (union x y)) same s.0,
    settled_same x (λ q. same (left q)) s.1,
    settled_same y (λ q. same (right q)) s.2,
  )
  settled_same (star x) same s =
      (settled_by_same (Wire (star x)) same s.0, settled_same x (λ q. same (left q)) s.1)
  settled_same (below x) same s =
      (settled_by_same (Wire (below x)) same s.0, settled_same x (λ q. same (left q)) s.1)

  -- what is settled is settled under the top piece's own empty transitions
  pub settled_own : (x : Nested A) (Z : States) → Settled x Z → SettledBy (OwnEmpty M x) Z
  settled_own (leaf a) Z s p q (Empty.leaf_past has) = s p q (Wire.leaf_past has)
  settled_own (catenation x y) Z s p q Empty.catenation_in = s.0 p q Wire.catenation_in
  settled_own (catenation x y) Z s p q Empty.catenation_over = s.0 p q Wire.catenation_over
  settled_own (catenation x y) Z s p q Empty.catenation_out = s.0 p q Wire.catenation_out
  settled_own (catenation x y) Z s (left p) (left q) (Empty.catenation_left e) =
      settled_own x (λ p. Z (left p)) s.1 p q e
  settled_own (catenation x y) Z s (right p) (right q) (Empty.catenation_right e) =
      settled_own y (λ p. Z (right p)) s.2 p q e
  settled_own (union x y) Z s p q Empty.union_in_left = s.0 p q Wire.union_in_left
  settled_own (union x y) Z s p q Empty.union_in_right = s.0 p q Wire.union_in_right
  settled_own (union x y) Z s p q Empty.union_out_left = s.0 p q Wire.union_out_left
  settled_own (union x y) Z s p q Empty.union_out_right = s.0 p q Wire.union_out_right
  settled_own (union x y) Z s (left p) (left q) (Empty.union_left e) = settled_own x (λ p. Z (left p)) s.1 p q e
  settled_own (union x y) Z s (right p) (right q) (Empty.union_right e) = settled_own y (λ p. Z (right p)) s.2 p q e
  settled_own (star x) Z s p q Empty.star_in = s.0 p q Wire.star_in
  settled_own (star x) Z s p q Empty.star_past = s.0 p q Wire.star_past
  settled_own (star x) Z s p q Empty.star_out = s.0 p q Wire.star_out
  settled_own (star x) Z s p q Empty.star_back = s.0 p q Wire.star_back
  settled_own (star x) Z s (left p) (left q) (Empty.star_inside e) = settled_own x (λ p. Z (left p)) s.1 p q e
  settled_own (below x) Z s p q (Empty.leaf_past has) = absurd has
