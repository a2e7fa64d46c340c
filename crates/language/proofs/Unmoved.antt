-- What a sweep leaves as it is: marks that are settled, and no marks at all.
use Rattle.std.specs.Prelude.{◌↔◌}
use Rattle.language.specs.Automaton.{State, left, right, States}
use Rattle.language.specs.Meaning.{Meaning}
use Rattle.language.specs.Nested.{Nested, leaf, catenation, union, star, below, Has, Sweep}
use Rattle.language.specs.Settled.{Wire, Settled}
use Rattle.language.specs.StateWalk.{walked_keeps}
use Rattle.language.proofs.Visits.{sweep_walked, sweep_within}
use Rattle.language.specs.Same.{Agree}
use Rattle.language.proofs.Same.{sweep_more}

module _ {A : Type 0} (M : Meaning A) where
  -- a transition of the topmost node joins states that there are
  wire_has : {x : Nested A} {p q : State} → Wire M x p q → Has x p × Has x q
  wire_has (Wire.leaf_past has) = (tt, tt)
  wire_has Wire.catenation_in = (tt, tt)
  wire_has Wire.catenation_over = (tt, tt)
  wire_has Wire.catenation_out = (tt, tt)
  wire_has Wire.union_in_left = (tt, tt)
  wire_has Wire.union_in_right = (tt, tt)
  wire_has Wire.union_out_left = (tt, tt)
  wire_has Wire.union_out_right = (tt, tt)
  wire_has Wire.star_in = (tt, tt)
  wire_has Wire.star_past = (tt, tt)
  wire_has Wire.star_out = (tt, tt)
  wire_has Wire.star_back = (tt, tt)
  wire_has Wire.pass_down = (tt, tt)
  wire_has Wire.pass_up = (tt, tt)

  wires_agree : (x : Nested A) {Y Z : States} → Agree x Y Z → ((p q : State) → Wire M x p q → Y p → Y q) → (p q : State)
      → Wire M x p q → Z p → Z q
  wires_agree x same settled p q r z = (same q (wire_has r).1).0 (settled p q r ((same p (wire_has r).0).1 z))

  -- marks that agree with settled ones at the states that there are, are settled
  pub settled_agree : (x : Nested A) {Y Z : States} → Agree x Y Z → Settled M x Y → Settled M x Z
  settled_agree (leaf a) same s = wires_agree (leaf a) same s
  settled_agree (catenation x y) same s = (
    wires_agree (catenation x y) same s.0,
    settled_agree x (λ q. same (left q)) s.1,
    settled_agree y (λ q. same (right q)) s.2,
  )
  settled_agree (union x y) same s = (
    wires_agree (union x y) same s.0,
    settled_agree x (λ q. same (left q)) s.1,
    settled_agree y (λ q. same (right q)) s.2,
  )
  settled_agree (star x) same s = (wires_agree (star x) same s.0, settled_agree x (λ q. same (left q)) s.1)
  settled_agree (below x) same s = (wires_agree (below x) same s.0, settled_agree x (λ q. same (left q)) s.1)

  -- no marks are settled
  pub settled_none : (x : Nested A) → Settled M x (λ q. ⊥)
  settled_none (leaf a) = λ p q r m. m
  settled_none (catenation x y) = (λ p q r m. m, settled_none x, settled_none y)
  settled_none (union x y) = (λ p q r m. m, settled_none x, settled_none y)
  settled_none (star x) = (λ p q r m. m, settled_none x)
  settled_none (below x) = (λ p q r m. m, settled_none x)

  -- a sweep changes nothing where the marks are settled
  pub sweep_settled : (x : Nested A) (marks : States) → Settled M x marks → (q : State) → Sweep M x marks q ↔ marks q
  sweep_settled x marks settled q =
      (sweep_within M x marks marks settled (λ p m. m) q, λ m. sweep_walked M x marks q (walked_keeps M x marks q m))

  -- and makes no marks of none
  pub sweep_none : (x : Nested A) (marks : States) → ((q : State) → Has x q → marks q → ⊥) → (q : State) → Has x q
      → Sweep M x marks q
      → ⊥
  sweep_none x marks none q has m =
      sweep_within M x (λ p. ⊥) (λ p. ⊥) (settled_none x) (λ p n. n) q
      (sweep_more M x {Y = marks} {Z = λ p. ⊥} none q has m)
