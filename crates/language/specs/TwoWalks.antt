-- Two walks settle any marks: no transition of the cut automaton leads to a state that is not marked after them.
-- A walk takes every transition but the backward ones in their order, so a second one is needed only for what a
-- backward transition marked.
use Rattle.std.specs.Prelude.{◌↔◌, ◌⊎◌}
use Rattle.std.proofs.Common.{inl, inr, ⊎_elim}
use Rattle.std.proofs.Math.Logic.{⊎_map}
use Rattle.language.specs.Automaton.{left, right, State, start, accepting, States}
use Rattle.language.specs.Meaning.{Meaning}
use Rattle.language.specs.Nested.{Nested, leaf, catenation, union, star, below}
use Rattle.language.specs.Simulation.{SettledBy}
use Rattle.language.specs.Settled.{Wire, Settled, settled_same}
use Rattle.language.specs.StateWalk.{
  Entered,
  entered_keeps,
  entered_within,
  entered_more,
  entered_both,
  Walked,
  walked_keeps,
  walked_more,
}

module _ {A : Type 0} (M : Meaning A) where
  -- x leads with no byte from its start to its accepting state
  abbrev Nullable : Nested A → Type 0
  Nullable (leaf a) = M.HasEmpty a
  Nullable (catenation x y) = Nullable x × Nullable y
  Nullable (union x y) = Nullable x ⊎ Nullable y
  Nullable (star x) = Unit {0}
  Nullable (below x) = Nullable x

  -- which one walk finds
  nullable_walked : (x : Nested A) (X : States) → Nullable x → X start → Walked M x X accepting
  nullable_walked (leaf a) X n m = inr (n, m)
  nullable_walked (catenation x y) X n m = inr (nullable_walked y _ n.1 (inr (nullable_walked x _ n.0 (inr m))))
  nullable_walked (union x y) X (inl n) m = inr (inl (nullable_walked x _ n (inr m)))
  nullable_walked (union x y) X (inr n) m = inr (inr (nullable_walked y _ n (inr m)))
  nullable_walked (star x) X n m = inr (inl m)
  nullable_walked (below x) X n m = inr (nullable_walked x _ n (inr m))

  -- a second walk, before which the start is marked where Q holds, marks the accepting state anew only by leading there
  -- from that start:
  -- no way to the accepting state needs a backward transition, as where it begins one can leave the star as well
  abbrev SecondAccepts : Nested A → Type 1
  SecondAccepts x = (X : States) (Q : Type 0) → Walked M x (Entered (Walked M x X) Q) accepting
      → Walked M x X accepting ⊎ (Q × Nullable x)

  -- so for a child that the first walk entered where P held
  child_accepts : (x : Nested A) → SecondAccepts x → (X : States) (P Q : Type 0) →
      Walked M x (Entered (Walked M x (Entered X P)) (P ⊎ Q)) accepting → Walked M x (Entered X P) accepting
      ⊎ (Q × Nullable x)
  child_accepts x accepts X P Q m =
      ⊎_elim inl (λ (q, n). ⊎_elim (λ p. inl (nullable_walked x _ n (inr p))) (λ q. inr (q, n)) q)
      (accepts (Entered X P) (P ⊎ Q) m)

  -- a star's operand after the second walk: it was entered again where the first walk came to its accepting state
  abbrev Operand : Nested A → States → Type 0 → Type 0 → States
  Operand x X P Q = Walked M x (Entered (Entered (Walked M x (Entered X P)) (Walked M x (Entered X P) accepting))
      (P ⊎ Q))

  -- so for the operand
  operand_accepts : (x : Nested A) → SecondAccepts x → (X : States) (P Q : Type 0)
      → Operand x X P Q accepting → Walked M x (Entered X P) accepting ⊎ Q
  operand_accepts x accepts X P Q m =
      ⊎_elim inl (λ (c, n). c)
      (child_accepts x accepts X P _
      (walked_more M x _ _ (λ q. (entered_both (Walked M x (Entered X P)) (Walked M x (Entered X P) accepting) P Q q).0)
      accepting m))

  -- and so for every node, from its children
  second_accepts : (x : Nested A) → SecondAccepts x
  second_accepts (leaf a) X Q (inl m) = inl m
  second_accepts (leaf a) X Q (inr (has, m)) = ⊎_map (λ x. inr (has, x)) (λ q. (q, has)) m
  second_accepts (catenation x y) X Q (inl m) = inl m
  second_accepts (catenation x y) X Q (inr m) =
      ⊎_map inr (λ (c, n). (c.0, (c.1, n)))
      (child_accepts y (second_accepts y) (λ p. X (right p)) (Walked M x (Entered (λ p. X (left p)) (X start)) accepting) (Q × Nullable x)
      (walked_more M y _ _ (entered_more {X = (λ x'. Entered (Walked {A = A} M (catenation x y) X) Q (right x'))} (λ q m. m) (child_accepts x (second_accepts x) (λ p. X (left p)) (X start) Q)) accepting m))
  second_accepts (union x y) X Q (inl m) = inl m
  second_accepts (union x y) X Q (inr (inl m)) =
      ⊎_map (λ a. inr (inl a)) (λ (q, n). (q, inl n)) (child_accepts x (second_accepts x) (λ p. X (left p)) (X start) Q m)
  second_accepts (union x y) X Q (inr (inr m)) =
      ⊎_map (λ a. inr (inr a)) (λ (q, n). (q, inr n)) (child_accepts y (second_accepts y) (λ p. X (right p)) (X start) Q m)
  second_accepts (star x) X Q (inl m) = inl m
  second_accepts (star x) X Q (inr (inl (inl m))) = inl (inr (inl m))
  second_accepts (star x) X Q (inr (inl (inr q))) = inr (q, tt)
  second_accepts (star x) X Q (inr (inr m)) =
      ⊎_map (λ a. inr (inr a)) (λ q. (q, tt)) (operand_accepts x (second_accepts x) (λ p. X (left p)) (X start) Q m)
  second_accepts (below x) X Q (inl m) = inl m
  second_accepts (below x) X Q (inr m) = ⊎_map inr (λ c. c) (child_accepts x (second_accepts x) (λ p. X (left p)) (X start) Q m)

  -- after a second walk the topmost node's transitions lead to nothing new: each goes the walk's way, or is the
  -- backward one, taken last
  wires_settled : (x : Nested A) (X : States) (Q : Type 0)
      → SettledBy (Wire M x) (Walked M x (Entered (Walked M x X) Q))
  wires_settled (leaf a) X Q p q (Wire.leaf_past has) m = inr (has, m)
  wires_settled (catenation x y) X Q p q Wire.catenation_in m = walked_keeps M x _ start (inr m)
  wires_settled (catenation x y) X Q p q Wire.catenation_over m = walked_keeps M y _ start (inr m)
  wires_settled (catenation x y) X Q p q Wire.catenation_out m = inr m
  wires_settled (union x y) X Q p q Wire.union_in_left m = walked_keeps M x _ start (inr m)
  wires_settled (union x y) X Q p q Wire.union_in_right m = walked_keeps M y _ start (inr m)
  wires_settled (union x y) X Q p q Wire.union_out_left m = inr (inl m)
  wires_settled (union x y) X Q p q Wire.union_out_right m = inr (inr m)
  wires_settled (star x) X Q p q Wire.star_in m = inl (walked_keeps M x _ start (inr m))
  wires_settled (star x) X Q p q Wire.star_past m = inr (inl m)
  wires_settled (star x) X Q p q Wire.star_out m = inr (inr m)
  wires_settled (star x) X Q p q Wire.star_back m = inr m
  wires_settled (below x) X Q p q Wire.pass_down m = walked_keeps M x _ start (inr m)
  wires_settled (below x) X Q p q Wire.pass_up m = inr m

  -- the operand needs no entering once more: where it came to its accepting state, its start was marked
  operand_same : (x : Nested A) (X : States) (P Q : Type 0) (q : State) →
      Walked M x (Entered (Walked M x (Entered X P)) (P ⊎ Walked M x (Entered X P) accepting ⊎ Q)) q
      ↔ Entered (Operand x X P Q) (Operand x X P Q accepting) q
  operand_same x X P Q q = (
    λ m. entered_keeps (Operand x X P Q) (Operand x X P Q accepting) q (walked_more M x _ _ (λ q. (entered_both (Walked {A = A} M x (Entered X P)) (Walked {A = A} M x (Entered X P) accepting) P Q q).1) q m),
    entered_within (walked_more M x _ _ (λ q. (entered_both (Walked {A = A} M x (Entered X P)) (Walked {A = A} M x (Entered X P) accepting) P Q q).0))
        (λ a. walked_keeps M x _ start (inr (inr (operand_accepts x (second_accepts x) X P Q a)))) q,
  )

  -- two walks settle any marks, also where the start is marked besides before the second, as a child's is from above
  second_settled : (x : Nested A) (X : States) (Q : Type 0) → Settled M x (Walked M x (Entered (Walked M x X) Q))
  second_settled (leaf a) X Q = wires_settled (leaf a) X Q
  second_settled (catenation x y) X Q = (wires_settled (catenation x y) X Q, second_settled x _ _, second_settled y _ _)
  second_settled (union x y) X Q = (wires_settled (union x y) X Q, second_settled x _ _, second_settled y _ _)
  second_settled (star x) X Q =
      (wires_settled (star x) X Q, settled_same M x (operand_same x (λ x'. X (left x')) (X start) Q) (second_settled x _ _))
  second_settled (below x) X Q = (wires_settled (below x) X Q, second_settled x _ _)

  -- the result: two walks settle any marks
  pub two_walks_settle : (x : Nested A) (X : States) → Settled M x (Walked M x (Walked M x X))
  two_walks_settle x X =
      settled_same M x
      (λ q. (
        walked_more M x _ _ (entered_within (λ q m. m) (λ e. absurd e)) q,
        walked_more M x _ _
            (entered_keeps _ ⊥) q,
      ))
      (second_settled x X ⊥)
