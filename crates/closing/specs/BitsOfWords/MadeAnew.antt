-- A table of which some entries in a row were made anew and the others kept.
use Rattle.std.specs.Prelude.{ℕ, ◌+◌, ◌≤◌, ◌<◌, ◌≡◌, refl, ◌⊎◌, List, length, get_or, set}
use Rattle.std.proofs.Common.{sym, ◌∙◌, subst, inl, inr, ⊎_elim, arith, length-set, get_or-set_same, get_or-set_other}
use Rattle.std.proofs.Math.Decide.{ℕ_discrete}

-- the n entries from base on are as Row says, each by its number, and the others are as before
pub record MadeAnew (Row : ℕ → ℕ → Type 0) (before after : List ℕ) (base n : ℕ) : Type 0 where
  pub same_length : length after ≡ length before
  pub anew : (i : ℕ) → i < n → Row i (get_or after (base + i) 0)
  pub others : (k : ℕ) → (k < base) ⊎ (base + n ≤ k) → get_or after k 0 ≡ get_or before k 0

-- at first all are as before
pub anew_none : (Row : ℕ → ℕ → Type 0) (before : List ℕ) (base : ℕ) → MadeAnew Row before before base 0
anew_none Row before base = record { same_length = refl; anew = λ i h. absurd (omega arith); others = λ k _. refl }

module _ {Row : ℕ → ℕ → Type 0} {before after : List ℕ} {base n : ℕ} (so_far : MadeAnew Row before after base n) where
  -- one more, stored
  pub anew_set : (w : ℕ) → base + n < length before → Row n w
      → MadeAnew Row before (set after (base + n) w) base (n + 1)
  anew_set w l r = record {
    same_length = simp length-set so_far.same_length;
    anew = λ i h. elim (ℕ_discrete i n) [
      | yes e ↦ subst (λ (k : ℕ). Row k (get_or (set after (base + n) w) (base + k) 0)) (sym e)
          (subst (λ (v : ℕ). Row n v) (sym (get_or-set_same after (base + n) w 0 (omega (arith, so_far.same_length)))) r)
      | no m ↦ subst (λ (v : ℕ). Row i v) (sym (get_or-set_other after (base + n) (base + i) w 0 (omega arith)))
          (so_far.anew i (omega arith))
    ];
    others = λ k h. get_or-set_other after (base + n) k w 0 (⊎_elim (λ m. omega arith) (λ m. omega arith) h)
        ∙ so_far.others k (⊎_elim inl (λ m. inr (omega arith)) h);
  }

  -- one more, stored at a place that is the same
  pub anew_set_at : {k : ℕ} (w : ℕ) → k ≡ base + n → base + n < length before → Row n w
      → MadeAnew Row before (set after k w) base (n + 1)
  anew_set_at w e l r = subst (λ (i : ℕ). MadeAnew Row before (set after i w) base (n + 1)) (sym e) (anew_set w l r)
