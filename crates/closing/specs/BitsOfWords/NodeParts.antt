-- A list for a node: what belongs to its start, then the lists of its parts, then what belongs to its accepting state.
-- Where each stands in it, by number.
use Rattle.std.specs.Prelude.{ℕ, zero, suc, ◌+◌, ◌-◌, ◌<◌, ◌≡◌, refl, List, [], ◌∷◌, ◌++◌, length, get_or}
use Rattle.std.proofs.Common.{ap, ◌∙◌, arith, length-append, get_or-append-add}
use Rattle.std.proofs.Math.Decide.{dec_lt}
use Rattle.std.proofs.Math.ListN.{get_or-append}
use Rattle.std.proofs.Math.Seq.{get_or-append_seam}

-- a node of one part, of m states
module _ {A : Type 0} (s e : A) (a : List A) {m : ℕ} (hm : length a ≡ m) where
  pub one_length : length (s ∷ (a ++ (e ∷ []))) ≡ 1 + m + 1
  one_length = simp (length-append, hm) (omega arith)

  module _ (d : A) where
    -- past the start, the list is one place on
    shifted : (i k : ℕ) → 1 + i ≡ suc k → get_or (s ∷ (a ++ (e ∷ []))) (1 + i) d ≡ get_or (a ++ (e ∷ [])) k d
    shifted i k h = ap (λ (j : ℕ). get_or (s ∷ (a ++ (e ∷ []))) j d) h

    -- an entry of the part
    pub one_inside : (i : ℕ) → i < m → get_or (s ∷ (a ++ (e ∷ []))) (1 + i) d ≡ get_or a i d
    one_inside i h = shifted i i (omega arith) ∙ get_or-append a (e ∷ []) d i (omega arith)

    -- the accepting state's entry
    pub one_end : get_or (s ∷ (a ++ (e ∷ []))) (1 + m) d ≡ e
    one_end = shifted m (length a) (omega arith) ∙ get_or-append_seam a e [] d

-- a node of two parts, of m and n states
module _ {A : Type 0} (s e : A) (a b : List A) {m n : ℕ} (hm : length a ≡ m) (hn : length b ≡ n) where
  both : length (a ++ b) ≡ m + n
  both = simp (length-append, hm, hn)

  -- as many as both parts have, and two
  pub two_length : length (s ∷ (a ++ b ++ (e ∷ []))) ≡ 1 + m + n + 1
  two_length = one_length s e (a ++ b) both ∙ omega arith

  module _ (d : A) where
    -- an entry of the first part
    pub two_left : (i : ℕ) → i < m → get_or (s ∷ (a ++ b ++ (e ∷ []))) (1 + i) d ≡ get_or a i d
    two_left i h = one_inside s e (a ++ b) both d i (omega arith) ∙ get_or-append a b d i (omega arith)

    -- at an equal place stands the same
    moved : (j k : ℕ) → j ≡ k → get_or (s ∷ (a ++ b ++ (e ∷ []))) j d ≡ get_or (s ∷ (a ++ b ++ (e ∷ []))) k d
    moved j k = ap (λ (i : ℕ). get_or (s ∷ (a ++ b ++ (e ∷ []))) i d)

    -- an entry of the second part
    pub two_right : (i : ℕ) → i < n → get_or (s ∷ (a ++ b ++ (e ∷ []))) (1 + m + i) d ≡ get_or b i d
    two_right i h =
        moved (1 + m + i) (1 + (length a + i)) (omega arith)
        ∙ one_inside s e (a ++ b) both d (length a + i) (omega arith) ∙ get_or-append-add a b i d

    -- the accepting state's entry
    pub two_end : get_or (s ∷ (a ++ b ++ (e ∷ []))) (1 + m + n) d ≡ e
    two_end = moved (1 + m + n) (1 + (m + n)) (omega arith) ∙ one_end s e (a ++ b) both d

-- which part of a node of two parts the number i falls in
pub data FallsIn (m n i : ℕ) : Type 0 where
  at_start : i ≡ 0 → FallsIn m n i
  in_left : (j : ℕ) → j < m → 1 + j ≡ i → FallsIn m n i
  in_right : (j : ℕ) → j < n → 1 + m + j ≡ i → FallsIn m n i
  at_end : 1 + m + n ≡ i → FallsIn m n i

-- each number falls in one of them
pub place : (m n i : ℕ) → i < 1 + m + n + 1 → FallsIn m n i
place m n zero h = at_start refl
place m n (suc i) h = elim (dec_lt i m) [
  | yes l ↦ in_left i l (omega arith)
  | no l ↦ elim (dec_lt i (m + n)) [ yes k ↦ in_right (i - m) (omega arith) (omega arith) | no k ↦ at_end (omega arith) ]
]
