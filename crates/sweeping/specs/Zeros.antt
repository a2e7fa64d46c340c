-- Whether no word of a run has a mark, gathered from what each closing and each child's sweep say.
use Rattle.std.specs.Prelude.{ℕ, zero, suc, ◌+◌, ◌-◌, ◌≤◌, ◌<◌, Bool, true, false, ◌&&◌, ◌≡◌, refl, ◌↔◌, List, ◌++◌, length, get_or, take, drop, set}
use Rattle.std.proofs.Common.{arith, sym, ap, ◌∙◌, subst, get_or-set_same, length-take-le}
use Rattle.std.proofs.Math.Decide.{dec_lt}
use Rattle.std.proofs.Math.Bool.{and-eq-true_iff}
use Rattle.std.proofs.Math.ListN.{get_or-append, get_or-eq_default}
use Rattle.tables.specs.Words.{Bit}
use Rattle.closing.specs.BitsOfWords.Bits.{Tells, bit_zero, same_bits}
use Rattle.closing.specs.BitsOfWords.Zero.{AllZero}

-- two answers tell of both
pub told_both : {P Q : Type 0} {a b : Bool} → Tells P a → Tells Q b → Tells (P × Q) (a && b)
told_both {P} {Q} {a} {b} p q = record {
  holds = λ e. let both = (and-eq-true_iff a b).0 e in (p.holds both.0, q.holds both.1);
  fails = λ e h. fallen a b e h.0 h.1 p q;
}
  where
    fallen : (a b : Bool) → (a && b) ≡ false → P → Q → Tells P a → Tells Q b → ⊥
    fallen false b e x y p q = p.fails refl x
    fallen true b e x y p q = q.fails e y

-- an answer tells also of what holds exactly then
pub told_same : {P Q : Type 0} {a : Bool} → P ↔ Q → Tells P a → Tells Q a
told_same same p = record { holds = λ e. same.0 (p.holds e); fails = λ e q. p.fails e (same.1 q) }

-- a word is 0 where one is that has all its bits
pub zero_within : (v w : ℕ) → ((i : ℕ) → Bit v i → Bit w i) → w ≡ 0 → v ≡ 0
zero_within v w kept e =
    same_bits v 0 (λ i. (λ b. subst (λ (n : ℕ). Bit n i) e (kept i b), λ b. absurd (bit_zero i b)))

-- once the own word is closed, what is known of it is known of the first word
pub begun_zero : (entry : List ℕ) (closed : ℕ) {zeroed : Bool} → 0 < length entry → Tells (closed ≡ 0) zeroed
    → Tells (AllZero 1 (set entry 0 closed)) zeroed
begun_zero entry closed some = told_same (
  λ e k l. ap (λ (i : ℕ). get_or (set entry 0 closed) i 0) (omega arith) ∙ own ∙ e,
  λ all. sym own ∙ all 0 (omega arith),
)
  where
    own : get_or (set entry 0 closed) 0 0 ≡ closed
    own = get_or-set_same entry 0 closed 0 (omega arith)

-- the words up to the next run are 0 exactly when those before the run were, those of the run are, and the own word is:
-- it has every bit that it had before
pub zeros_joined : (at next : ℕ) (words ys after : List ℕ) (closed : ℕ) → 0 < at → at ≤ next
    → get_or after 0 0 ≡ closed → (closed ≡ 0 → get_or words 0 0 ≡ 0)
    → ((o : ℕ) → 0 < o → o < at → get_or after o 0 ≡ get_or words o 0)
    → ((o : ℕ) → o < next - at → get_or after (at + o) 0 ≡ get_or ys o 0)
    → ((AllZero at words × AllZero (next - at) ys) × (closed ≡ 0)) ↔ AllZero next after
zeros_joined at next words ys after closed past before own kept behind lent = (joined, parted)
  where
    joined : (AllZero at words × AllZero (next - at) ys) × (closed ≡ 0) → AllZero next after
    joined (both, none) zero l = own ∙ none
    joined (both, none) (suc k) l = elim (dec_lt (suc k) at) [
      | yes h ↦ behind (suc k) (omega arith) h ∙ both.0 (suc k) h
      | no h ↦ ap (λ (i : ℕ). get_or after i 0) (omega arith) ∙ lent (suc k - at) (omega arith)
          ∙ both.1 (suc k - at) (omega arith)
    ]

    before_zero : AllZero next after → AllZero at words
    before_zero all zero l = kept (sym own ∙ all 0 (omega arith))
    before_zero all (suc k) l = sym (behind (suc k) (omega arith) l) ∙ all (suc k) (omega arith)

    parted : AllZero next after → (AllZero at words × AllZero (next - at) ys) × (closed ≡ 0)
    parted all = (
      (before_zero all, λ k l. sym (lent k l) ∙ all (at + k) (omega arith)),
      sym own ∙ all 0 (omega arith),
    )

-- more words are 0 exactly when so many are, where those between are
pub zeros_over : (at next : ℕ) (words : List ℕ) → at ≤ next
    → ((o : ℕ) → at ≤ o → o < next → get_or words o 0 ≡ 0) → AllZero at words ↔ AllZero next words
zeros_over at next words before none = (
  λ all k l. elim (dec_lt k at) [ yes h ↦ all k h | no h ↦ none k (omega arith) l ],
  λ all k l. all k (omega arith),
)

-- where those that are left are 0, what is known of so many words is known of all
pub all_zeros : (at many : ℕ) (words : List ℕ) {zeroed : Bool} → length words ≡ many
    → ((o : ℕ) → at ≤ o → o < length words → get_or words o 0 ≡ 0) → Tells (AllZero at words) zeroed
    → Tells (AllZero many words) zeroed
all_zeros at many words same none = told_same (
  λ all k l. elim (dec_lt k at) [ yes h ↦ all k h | no h ↦ none k (omega arith) (omega (arith, same)) ],
  λ all k l. elim (dec_lt k many) [ yes h ↦ all k h | no h ↦ get_or-eq_default words 0 (omega (arith, same)) ],
)

-- the words of the front are 0 exactly when the first words are
pub zeros_front : (count : ℕ) (words ys : List ℕ) → count ≤ length words → length ys ≡ length (take count words)
    → AllZero (length (take count words)) ys ↔ AllZero count (ys ++ drop count words)
zeros_front count words ys enough same = (
  λ all k l. at k (omega (arith, many)) ∙ all k (omega (arith, many)),
  λ all k l. sym (at k (omega (arith, many, same))) ∙ all k (omega (arith, many)),
)
  where
    many : length (take count words) ≡ count
    many = length-take-le count words enough

    at : (k : ℕ) → k < count → get_or (ys ++ drop count words) k 0 ≡ get_or ys k 0
    at k l = get_or-append ys (drop count words) 0 k (omega (arith, many, same))
