-- Words are known from the marks they hold: every bit below a piece's number of states is the bit of some state, and no
-- other is set.
use Rattle.std.specs.Prelude.{ℕ, zero, suc, ◌+◌, ◌-◌, ◌≤◌, ◌<◌, ◌≡◌, ◌⊎◌, ◌↔◌, List, ◌∷◌, ◌++◌, length, get_or, take}
use Rattle.std.proofs.Math.Decide.{dec_lt}
use Rattle.std.proofs.Common.{arith, sym, ap, ◌∙◌, subst, inl, inr, ⊎_elim, ext_get_or, get_or-take, length-take-le}
use Rattle.language.specs.Automaton.{State, left, right}
use Rattle.language.specs.Nested.{Nested, leaf, catenation, union, star, below, Has}
use Rattle.tables.specs.Words.{Bit, width, run, Holds, Clean}
use Rattle.closing.specs.BitsOfWords.Zero.{AllZero}
use Rattle.closing.specs.BitsOfWords.AllZero.{zero_holds}
use Rattle.closing.specs.BitsOfWords.Bits.{bit_below, same_bits}
use Rattle.closing.specs.BitsOfWords.Numbers.{number_onto}
use Rattle.closing.specs.BitsOfWords.Spots.{
  Spot,
  own,
  under,
  shift,
  enter,
  spot,
  SetAt,
  holds_held,
  own_spot,
  widths,
  getD_left,
  getD_right,
  clean_words,
}
use Rattle.closing.specs.Within.{own_has}

-- bit b of word k of a run, as a spot
abbrev pub spot_at : ℕ → ℕ → Spot
spot_at zero b = own b
spot_at (suc o) b = under o b

-- some state has this spot
abbrev SomeState : {A : Type 0} → Nested A → Spot → Type 0
SomeState x s = (q : State) × Has x q × (spot x q ≡ s)

-- how the spot of a state of a node's first or only child is seen from the node
abbrev FromFirst : {A : Type 0} → Nested A → Spot → Type 0
FromFirst x s = (q : State) × Has x q × (shift 1 0 (spot x q) ≡ s)

-- and of one of its second child, where the first is x
abbrev FromSecond : {A : Type 0} → Nested A → Nested A → Spot → Type 0
FromSecond x y s = (q : State) × Has y q × (shift (1 + width x) (run x) (spot y q) ≡ s)

from_first : {A : Type 0} (x : Nested A) {o b : ℕ} → SomeState x (under o b) → FromFirst x (under o b)
from_first x {o} {b} (q, has, e) = (q, has, ap (shift 1 0) e ∙ ap (λ (n : ℕ). under n b) (omega arith))

-- a bit of a word below two nodes side by side is one below the first or one below the second
either_side : {A : Type 0} (x y : Nested A) (o b : ℕ) → (o < run x → b < get_or (widths x) o 0 → SomeState x (under o b))
    → ((n : ℕ) → n < run y → b < get_or (widths y) n 0 → SomeState y (under n b))
    → o < run x + run y → b < get_or (widths x ++ widths y) o 0 → FromFirst x (under o b) ⊎ FromSecond x y (under o b)
either_side x y o b first second h k = elim (dec_lt o (run x)) [
  | yes l ↦ inl (from_first x (first l (rw (getD_left x y o l) at k)))
  | no l ↦
      let n : ℕ = o - run x in
      let e : o ≡ run x + n = omega arith in
      let (q, has, f) =
      second n (omega arith)
      (rw (getD_right x y n) at (subst (λ (m : ℕ). b < get_or (widths x ++ widths y) m 0) e k)) in
      inr (q, has, ap (shift (1 + width x) (run x)) f ∙ ap (λ (m : ℕ). under m b) (sym e))
]

-- every bit below a child piece's number of states is some state's
under_onto : {A : Type 0} (x : Nested A) (o b : ℕ) → o < run x → b < get_or (widths x) o 0 → SomeState x (under o b)
under_onto (leaf a) o b h k = absurd (omega arith)
under_onto (catenation x y) o b h k =
    ⊎_elim (λ (q, has, e). (left q, has, e)) (λ (q, has, e). (right q, has, e))
    (either_side x y o b (under_onto x o b) (λ n. under_onto y n b) h k)
under_onto (union x y) o b h k =
    ⊎_elim (λ (q, has, e). (left q, has, e)) (λ (q, has, e). (right q, has, e))
    (either_side x y o b (under_onto x o b) (λ n. under_onto y n b) h k)
under_onto (star x) o b h k = let (q, has, e) = from_first x (under_onto x o b h k) in (left q, has, e)
under_onto (below x) zero b h k = let (q, o, e) =
    number_onto x b k in (left q, own_has x q o, ap enter (own_spot x q o) ∙ ap (under 0) e)
under_onto (below x) (suc o) b h k = let (q, has, e) = under_onto x o b (omega arith) k in (left q, has, ap enter e)

-- every bit of a run that is below its piece's number of states is some state's
pub spot_onto : {A : Type 0} (x : Nested A) (k b : ℕ) → k < 1 + run x → b < get_or (width x ∷ widths x) k 0
    → SomeState x (spot_at k b)
spot_onto x zero b h l = let (q, o, e) = number_onto x b l in (q, own_has x q o, own_spot x q o ∙ ap own e)
spot_onto x (suc o) b h l = under_onto x o b (omega arith) l

-- the bit of that spot
held_bit : (k b : ℕ) (words : List ℕ) → SetAt (spot_at k b) words ↔ Bit (get_or words k 0) b
held_bit zero b words = (λ h. h, λ h. h)
held_bit (suc o) b words = (λ h. h, λ h. h)

module _ {A : Type 0} (x : Nested A) where
  -- a bit that is set in the words of one set of marks is set in the words of a larger one
  bit_follows : (v w : List ℕ) → Clean x v → ((q : State) → Has x q → Holds x v q → Holds x w q) → (k b : ℕ)
      → k < 1 + run x → Bit (get_or v k 0) b → Bit (get_or w k 0) b
  bit_follows v w clean more k b h set =
      let (q, has, e) = spot_onto x k b h (bit_below ((clean_words x v).0 clean k h) set) in
      let held : Holds x v q = (holds_held x v q has).1 (rw e ((held_bit k b v).1 set)) in
      (held_bit k b w).0 (rw e at ((holds_held x w q has).0 (more q has held)))

  -- words with no bit past the last state that hold the same marks are the same, as far as there are pieces
  pub same_words : (v w : List ℕ) → Clean x v → Clean x w → ((q : State) → Has x q → Holds x v q ↔ Holds x w q)
      → 1 + run x ≤ length v → 1 + run x ≤ length w → take (1 + run x) v ≡ take (1 + run x) w
  same_words v w clean clean' same long long' =
      ext_get_or 0 (take (1 + run x) v) (take (1 + run x) w) (length-take-le (1 + run x) v long
      ∙ sym (length-take-le (1 + run x) w long'))
      (λ k h. alike k (rw (length-take-le (1 + run x) v long) at h))
    where
      alike : (k : ℕ) → k < 1 + run x → get_or (take (1 + run x) v) k 0 ≡ get_or (take (1 + run x) w) k 0
      alike k h =
          rw (get_or-take (1 + run x) v k 0 h, get_or-take (1 + run x) w k 0 h)
          (same_bits (get_or v k 0) (get_or w k 0)
          (λ b. (
            bit_follows v w clean (λ q has. (same q has).0) k b h,
            bit_follows w v clean' (λ q has. (same q has).1) k b h,
          )))

  -- so words that hold no mark are 0, where others are
  pub zero_alike : (v w : List ℕ) → Clean x v → Clean x w → ((q : State) → Has x q → Holds x v q → ⊥)
      → 1 + run x ≤ length v → 1 + run x ≤ length w → AllZero (1 + run x) w → AllZero (1 + run x) v
  zero_alike v w clean clean' none long long' zeros k h =
      sym (get_or-take (1 + run x) v k 0 h)
      ∙ ap (λ (l : List ℕ). get_or l k 0)
      (same_words v w clean clean'
      (λ q has. (λ held. absurd (none q has held), λ held. absurd (zero_holds x w zeros q has held))) long long')
      ∙ get_or-take (1 + run x) w k 0 h ∙ zeros k h
