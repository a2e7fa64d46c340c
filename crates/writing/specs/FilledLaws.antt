-- Laws of filling: one entry more, one row more, and an entry before.
use Rattle.std.specs.Prelude.{ℕ, zero, suc, ◌+◌, ◌*◌, ◌≤◌, ◌<◌, ◌≡◌, refl, List, length, get_or, set, replicate}
use Rattle.std.proofs.Common.{arith, mul-le-mul_right, sym, ap, ◌∙◌, inl, inr, ⊎_elim, length-set, get_or-set_same, get_or-set_other, ext_get_or}
use Rattle.std.proofs.Math.Decide.{dec_lt}
use Rattle.std.proofs.lemmas.List.{length-replicate, get_or-replicate}
use Rattle.writing.specs.Filled.{Filled, RowsFilled, after_zero}

-- no entry
pub filled_none : {from : ℕ} {value : ℕ → ℕ} {before : List ℕ} → Filled from 0 value before before
filled_none = record { inside = λ i none. absurd (omega arith); outside = λ p out. refl; same_length = refl }

-- one more
pub filled_next : {from n : ℕ} {value : ℕ → ℕ} {before after : List ℕ} (at v : ℕ)
    → Filled from n value before after → at ≡ from + n → at < length before → v ≡ value n
    → Filled from (n + 1) value before (set after at v)
filled_next {from} {n} {value} {before} {after} at v h place room is = record {
  inside = λ i some. elim (dec_lt i n) [
    | yes earlier ↦
        get_or-set_other after at (from + i) v 0 (λ e. omega arith) ∙ h.inside i earlier
    | no last ↦
        let same : i ≡ n = omega arith in
        rw same
        (ap (λ (p : ℕ). get_or (set after at v) p 0) (sym place)
        ∙ get_or-set_same after at v 0 (omega (arith, h.same_length)) ∙ is)
  ];
  outside = λ p out.
      get_or-set_other after at p v 0 (⊎_elim (λ l e. omega arith) (λ g e. omega arith) out)
      ∙ h.outside p (⊎_elim (λ l. inl l) (λ g. inr (omega arith)) out);
  same_length = length-set after at v ∙ h.same_length;
}

-- 0 before the others
pub filled_first : {from n : ℕ} {value : ℕ → ℕ} {before after : List ℕ} → Filled (from + 1) n value before after
    → from < length before → Filled from (1 + n) (after_zero value) before (set after from 0)
filled_first {from} {n} {value} {before} {after} h room = record {
  inside = within;
  outside = λ p out.
      get_or-set_other after from p 0 0 (⊎_elim (λ l e. omega arith) (λ g e. omega arith) out)
      ∙ h.outside p (⊎_elim (λ l. inl (omega arith)) (λ g. inr (omega arith)) out);
  same_length = length-set after from 0 ∙ h.same_length;
}
  where
    within : (i : ℕ) → i < 1 + n → get_or (set after from 0) (from + i) 0 ≡ after_zero value i
    within zero some =
        ap (λ (p : ℕ). get_or (set after from 0) p 0) (omega arith)
        ∙ get_or-set_same after from 0 0 (omega (arith, h.same_length))
    within (suc i) some =
        get_or-set_other after from (from + suc i) 0 0 (λ e. omega arith)
        ∙ ap (λ (p : ℕ). get_or after p 0) (omega arith) ∙ h.inside i (omega arith)

-- no row
pub rows_none : {from n : ℕ} {value : ℕ → ℕ → ℕ} {before : List ℕ} → RowsFilled from n 0 value before before
rows_none = record { inside = λ r i none some. absurd (omega arith); outside = λ p out. refl; same_length = refl }

-- one row more
pub rows_next : {from n many : ℕ} {value : ℕ → ℕ → ℕ} {before middle after : List ℕ}
    → RowsFilled from n many value before middle → Filled (from + many * n) n (value many) middle after
    → RowsFilled from n (many + 1) value before after
rows_next {from} {n} {many} {value} {before} {middle} {after} h more = record {
  inside = λ r i row some. elim (dec_lt r many) [
    | yes earlier ↦
        let up : (r + 1) * n ≤ many * n = mul-le-mul_right n (omega arith) in
        more.outside (from + r * n + i) (inl (omega arith)) ∙ h.inside r i earlier some
    | no last ↦
        let same : r ≡ many = omega arith in
        rw same (more.inside i some)
  ];
  outside = λ p out.
      more.outside p (⊎_elim (λ l. inl (omega arith)) (λ g. inr (omega arith)) out)
      ∙ h.outside p (⊎_elim (λ l. inl l) (λ g. inr (omega arith)) out);
  same_length = more.same_length ∙ h.same_length;
}

-- a list that was filled with 0 from end to end
pub all_cleared : {before after : List ℕ} (n : ℕ) → Filled 0 n (λ _. 0) before after → n ≡ length before
    → after ≡ replicate (length before) 0
all_cleared {before} {after} n h all =
    ext_get_or 0 after (replicate (length before) 0) (h.same_length ∙ sym (length-replicate (length before) 0))
    (λ i there.
    ap (λ (p : ℕ). get_or after p 0) (omega arith) ∙ h.inside i (omega (arith, h.same_length))
    ∙ sym (get_or-replicate (length before) i 0 0 (omega (arith, h.same_length))))
