-- How the masks are noted, words compared under them, and numbers made; words that agree have one number.
use Rattle.std.specs.Prelude.{ℕ, zero, suc, ◌+◌, ◌^◌, ◌≤◌, ◌≡◌, refl, List, get_or, length, set}
use Rattle.std.proofs.Common.{sym, ap, ◌∙◌, subst, arith, add-one, get_or-set_same, get_or-set_other}
use Rattle.std.proofs.Math.Decide.{ℕ_discrete}
use Rattle.std.specs.Int.Bits.{bit_or, bit_and, bit_xor}
use Rattle.tables.specs.Plan.{leaves_mask, top_of}
use Rattle.closing.specs.BitsOfWords.MadeAnew.{MadeAnew}
use Rattle.exploring.specs.Keys.{Keys, SameUnder, spread, number_under}

-- the masks of the leaves, with the bit of the accepting state set in the first
pub keys_noted : {rows before masks : List ℕ} {count n first : ℕ} → 1 ≤ count → count ≤ length before
    → MadeAnew (λ k v. v ≡ leaves_mask rows k) before masks 0 n → count ≤ n
    → first ≡ bit_or (get_or masks 0 0) (2 ^ top_of rows 0)
    → Keys rows count (set masks 0 first)
keys_noted {rows} {before} {masks} {count} {n} {first} some room noted all put = record {
  first = get_or-set_same masks 0 first 0 (omega (arith, noted.same_length)) ∙ put
      ∙ ap (λ (m : ℕ). bit_or m (2 ^ top_of rows 0)) (noted.anew 0 (omega arith));
  others = λ k later inside. get_or-set_other masks 0 k first 0 (λ e. omega arith)
      ∙ ap (λ (j : ℕ). get_or masks j 0) (omega arith) ∙ noted.anew k (omega arith);
}

-- at first none is looked at
pub same_none : (masks u v : List ℕ) → SameUnder masks 0 u v
same_none masks u v = record { each = λ k inside. absurd (omega arith) }

-- one word more
pub same_next : {masks u v : List ℕ} {k : ℕ} → SameUnder masks k u v
    → bit_and (get_or u k 0) (get_or masks k 0) ≡ bit_and (get_or v k 0) (get_or masks k 0) → SameUnder masks (k + 1) u v
same_next {masks} {u} {v} {k} so_far here = record {
  each = λ j inside. elim (ℕ_discrete j k) [
    | yes e ↦ subst (λ (i : ℕ). bit_and (get_or u i 0) (get_or masks i 0) ≡ bit_and (get_or v i 0) (get_or masks i 0)) (sym e)
        here
    | no other ↦ so_far.each j (omega arith)
  ];
}

-- words that agree under the masks have one number
pub same_number : {masks : List ℕ} {count : ℕ} {u v : List ℕ} → SameUnder masks count u v
    → number_under masks u count ≡ number_under masks v count
unfolding number_under
same_number {masks} {count} {u} {v} same = up_to count (omega arith)
  where
    up_to : (k : ℕ) → k ≤ count → number_under masks u k ≡ number_under masks v k
    up_to zero inside = refl
    up_to (suc k) inside =
        ap (λ (n : ℕ). spread (bit_xor n (bit_and (get_or u k 0) (get_or masks k 0)))) (up_to k (omega arith))
        ∙ ap (λ (n : ℕ). spread (bit_xor (number_under masks v k) n)) (same.each k (omega arith))

-- of no words
pub number_none : (masks words : List ℕ) → number_under masks words 0 ≡ 0
unfolding number_under
number_none masks words = refl

-- of one word more
pub number_next : (masks words : List ℕ) (k : ℕ) {n : ℕ} → n ≡ number_under masks words k
    → spread (bit_xor n (bit_and (get_or words k 0) (get_or masks k 0))) ≡ number_under masks words (k + 1)
unfolding number_under
number_next masks words k so_far =
    ap (λ (m : ℕ). spread (bit_xor m (bit_and (get_or words k 0) (get_or masks k 0)))) so_far
    ∙ ap (number_under masks words) (sym (add-one k))
