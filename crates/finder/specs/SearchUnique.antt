-- Search has one right answer alone.
use Rattle.std.specs.Prelude.{ℕ, ◌≤◌, ◌≡◌, refl, List}
use Rattle.std.proofs.Common.{le_antisymm, arith}
use Rattle.std.proofs.Math.Decide.{dec_lt}
use Rattle.matching.specs.Found.{Found, SearchOutcome, at, nothing, Answers}

module _ (L : List ℕ → Type 0) (text : List ℕ) where
  -- of two that begin earliest the one does not begin later
  not_later : {s e i j : ℕ} → Found L text s e → Found L text i j → s ≤ i
  not_later {s} {e} {i} {j} f g = elim (dec_lt i s) [ yes h ↦ absurd (f.earliest i j h g.here) | no h ↦ omega arith ]

  -- of two that end latest the one does not end earlier
  not_shorter : {s e j : ℕ} → Found L text s e → Found L text s j → j ≤ e
  not_shorter {s} {e} {j} f g = elim (dec_lt e j) [ yes h ↦ absurd (f.latest j h g.here) | no h ↦ omega arith ]

  -- two right answers are the same: they begin at the same place, and so end at the same place
  pub search_unique : (a b : SearchOutcome) → Answers L text a → Answers L text b → a ≡ b
  search_unique (at s e) (at i j) f g =
      let begins : i ≡ s = le_antisymm (not_later g f) (not_later f g) in
      let g' : Found L text s j = rw begins at g in
      rw (begins, le_antisymm (not_shorter g' f) (not_shorter f g'))
  search_unique (at s e) nothing f g = absurd (g s e f.here)
  search_unique nothing (at i j) f g = absurd (f i j g.here)
  search_unique nothing nothing f g = refl
