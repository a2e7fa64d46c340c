-- Why closing one state alone closes a word that is closed but for what that state reaches.
use Rattle.std.specs.Prelude.{ℕ, ◌^◌, ◌≤◌, ◌<◌, ◌≡◌, refl, ◌↔◌, List}
use Rattle.std.proofs.Common.{sym, ap, subst, ◌∙◌, inl, inr, ⊎_elim, arith}
use Rattle.std.specs.Int.Bits.{bit_or}
use Rattle.language.specs.Automaton.{State, PathOf, here}
use Rattle.language.specs.Nested.{Nested, OwnEmpty}
use Rattle.tree.specs.Limits.{most_states}
use Rattle.tree.specs.Leaf.{Leaf, byteless}
use Rattle.tables.specs.Words.{Bit, width, Own, number}
use Rattle.tables.specs.Plan.{Closes}
use Rattle.closing.specs.BitsOfWords.Bits.{bit_zero, bit_of_or, bit_with, bit_below, below_of_bits}
use Rattle.closing.specs.Passes.Laid.{Lays}
use Rattle.closing.specs.BitsOfWords.Numbers.{number_below, number_onto, number_injective}
use Rattle.sweeping.specs.Swept.{passed, NearlyClosed}
use Rattle.sweeping.specs.Passing.{bit_passed}

-- r closes the word, for every tree in which it is closed but for what its state of that number reaches
pub record ClosesFrom (rows : List ℕ) (piece word state r : ℕ) : Type 0 where
  pub closes : (x : Nested Leaf) (s : State) → width x ≤ most_states → Lays rows x piece → word < 2 ^ width x
      → Own x s → number x s ≡ state → NearlyClosed x s word → Closes x word r

module _ {x : Nested Leaf} {s : State} {word : ℕ} (small : word < 2 ^ width x) (nearly : NearlyClosed x s word) where
  -- where the state is not marked, the word is closed
  unmarked_closed : (Bit word (number x s) → ⊥) → Closes x word word
  unmarked_closed none = record {
    exactly = λ q o. (
      λ b. (q, o, b, here),
      λ (p, o', b, way). ⊎_elim (λ c. c) (λ c. absurd (none c.0)) (nearly.reached p q o' o b way),
    );
    clean = small;
  }

  -- where it is marked, what it reaches is joined to it
  marked_closed : (alone row : ℕ) → ((i : ℕ) → Bit alone i ↔ (i ≡ number x s)) → Own x s → Bit word (number x s)
      → Closes x alone row → Closes x word (bit_or word row)
  marked_closed alone row one own-s marked closes = record {
    exactly = λ q o. (
      λ b. ⊎_elim (λ c. (q, o, c, here))
          (λ c. let (p, own-p, at, way) = (closes.exactly q o).0 c in (
            s,
            own-s,
            marked,
            subst (λ (t : State). PathOf (OwnEmpty byteless x) t q)
                (number_injective x p s own-p own-s ((one (number x p)).0 at)) way,
          ))
          ((bit_of_or word row (number x q)).0 b),
      λ (p, o', b, way). (bit_of_or word row (number x q)).1 (⊎_elim inl
          (λ c. inr ((closes.exactly q o).1 (s, own-s, (one (number x s)).1 refl, c.1)))
          (nearly.reached p q o' o b way)),
    );
    clean = below_of_bits (width x) (bit_or word row) (λ j b. ⊎_elim
        (λ c. bit_below small c) (λ c. bit_below closes.clean c) ((bit_of_or word row j).0 b));
  }

-- the two cases, for the state of a number
pub closes_unmarked : (rows : List ℕ) (k word state : ℕ) → (Bit word state → ⊥)
    → ClosesFrom rows k word state word
closes_unmarked rows k word state none = record {
  closes = λ x s narrow lays small own-s at nearly. unmarked_closed small nearly (λ b. none (subst (Bit word) at b));
}

pub closes_marked : (rows : List ℕ) (k word state alone row : ℕ) → Bit word state
    → alone ≡ bit_or 0 (2 ^ state)
    → ((x : Nested Leaf) → width x ≤ most_states → Lays rows x k → alone < 2 ^ width x → Closes x alone row)
    → ClosesFrom rows k word state (bit_or word row)
closes_marked rows k word state alone row marked e closes = record {
  closes = λ x s narrow lays small own-s at nearly.
      marked_closed small nearly alone row (only x s at) own-s (subst (Bit word) (sym at) marked)
      (closes x narrow lays (below_of_bits (width x) alone (λ j b.
      omega (arith, (only x s at j).0 b, number_below x s own-s))));
}
  where
    one : (x : Nested Leaf) (s : State) → number x s ≡ state → (i : ℕ) → Bit (bit_or 0 (2 ^ state)) i ↔ (i ≡ number x s)
    one x s at i = (
      λ b. ⊎_elim (λ c. absurd (bit_zero i c)) (λ f. f ∙ sym at) ((bit_with 0 state i).0 b),
      λ f. (bit_with 0 state i).1 (inr (f ∙ at)),
    )

    only : (x : Nested Leaf) (s : State) → number x s ≡ state → (i : ℕ) → Bit alone i ↔ (i ≡ number x s)
    only x s at i = subst (λ (v : ℕ). Bit v i ↔ (i ≡ number x s)) (sym e) (one x s at i)

-- a word with a mark, and whatever is joined to it, is not 0
pub marked_joined : (word row state : ℕ) → Bit word state → bit_or word row ≡ 0 → ⊥
marked_joined word row state b e =
    bit_zero state (subst (λ (v : ℕ). Bit v state) e ((bit_of_or word row state).1 (inl b)))

-- a closed word is closed but for nothing
pub closed_nearly : {x : Nested Leaf} {s : State} {w : ℕ} → Closes x w w → NearlyClosed x s w
closed_nearly closes = record { reached = λ p q o o' b way. inl ((closes.exactly q o').1 (p, o, b, way)) }

-- a closed word to which a state was passed is closed but for what that state reaches
pub passed_nearly : {x : Nested Leaf} {s : State} {w : ℕ} (other from : ℕ) → Own x s → Closes x w w
    → NearlyClosed x s (passed other from w (number x s))
passed_nearly {x} {s} {w} other from own-s closes = record {
  reached = λ p q o o' b way. ⊎_elim
      (λ c. inl ((bit_passed other from w (number x s) (number x q)).1 (inl ((closes.exactly q o').1 (p, o, c, way)))))
      (λ c. let same : p ≡ s = number_injective x p s o own-s c.0 in
      inr (
        subst (λ (i : ℕ). Bit (passed other from w (number x s)) i) (ap (number x) same) b,
        subst (λ (t : State). PathOf (OwnEmpty byteless x) t q) same way,
      ))
      ((bit_passed other from w (number x s) (number x p)).0 b);
}

-- closing loses no bit
pub closes_keeps : {x : Nested Leaf} {w r : ℕ} → Closes x w r → w < 2 ^ width x → (i : ℕ) → Bit w i → Bit r i
closes_keeps {x} {w} {r} closes small i b =
    let (p, o, at) = number_onto x i (bit_below small b) in
    subst (Bit r) at ((closes.exactly p o).1 (p, o, subst (Bit w) (sym at) b, here))
