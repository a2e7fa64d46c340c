-- The jumps of some states, taken one by one: which states they lead to.
use Rattle.std.specs.Prelude.{ℕ, ◌-◌, ◌^◌, ◌≡◌, refl, ◌↔◌, List}
use Rattle.std.proofs.Common.{sym, ap, ◌∙◌, subst, subst₂, inl, inr, ⊎_elim}
use Rattle.std.proofs.Math.Decide.{ℕ_discrete}
use Rattle.std.specs.Int.Bits.{bit_or, bit_and}
use Rattle.tables.specs.Words.{Bit}
use Rattle.tables.specs.Plan.{target_of}
use Rattle.closing.specs.BitsOfWords.Bits.{bit_zero, bit_with}
use Rattle.closing.specs.BitsOfWords.LowestBit.{Lowest}

-- r has the bits of the states that the jumps of the states in w lead to, but for those still in rest
pub record Jumped (rows : List ℕ) (piece w rest r : ℕ) : Type 0 where
  pub among : (i : ℕ) → Bit rest i → Bit w i
  pub exactly : (j : ℕ) → Bit r j ↔ ((i : ℕ) × Bit w i × (Bit rest i → ⊥) × (target_of rows piece i ≡ j))

-- at first no jump is taken
pub jumped_none : (rows : List ℕ) (piece w : ℕ) → Jumped rows piece w w 0
jumped_none rows piece w =
    record { among = λ i b. b; exactly = λ j. (λ b. absurd (bit_zero j b), λ (i, b, gone, _). absurd (gone b)) }

-- the jump of the lowest state that is left
pub jumped_more : {rows : List ℕ} {piece w rest rest' r r' s to : ℕ} → Jumped rows piece w rest r → Lowest rest s
    → to ≡ target_of rows piece s → r' ≡ bit_or r (2 ^ to) → rest' ≡ bit_and rest (rest - 1)
    → Jumped rows piece w rest' r'
jumped_more {rows} {piece} {w} {rest} {r = r} {s = s} {to = to} so_far lowest leads joins takes =
    subst₂ (λ (m v : ℕ). Jumped rows piece w m v) (sym takes) (sym joins) record {
      among = λ i b. so_far.among i ((lowest.left i).0 b).0;
      exactly = λ j. (
        λ c. ⊎_elim
            (λ d. let (i, b, gone, at) = (so_far.exactly j).0 d in (i, b, λ l. gone ((lowest.left i).0 l).0, at))
            (λ e. (s, so_far.among s lowest.is_set, λ l. ((lowest.left s).0 l).1 refl, sym leads ∙ sym e))
            ((bit_with r to j).0 c),
        λ (i, b, gone, at). (bit_with r to j).1 (elim (ℕ_discrete i s) [
          | yes e ↦ inr (sym at ∙ ap (target_of rows piece) e ∙ sym leads)
          | no other ↦ inl ((so_far.exactly j).1 (i, b, λ l. gone ((lowest.left i).1 (l, other)), at))
        ]),
      );
    }

-- told with no state left
pub jumped_all : {rows : List ℕ} {piece w rest r : ℕ} → rest ≡ 0 → Jumped rows piece w rest r
    → Jumped rows piece w 0 r
jumped_all {rows} {piece} {w} {r = r} e so_far = subst (λ (m : ℕ). Jumped rows piece w m r) e so_far
