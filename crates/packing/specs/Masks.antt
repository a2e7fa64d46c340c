-- The masks of a piece while they are made: of the states gone through, the bits of those whose codes say so.
use Rattle.std.specs.Prelude.{ℕ, zero, suc, ◌+◌, ◌*◌, ◌%◌, ◌≤◌, ◌<◌, ◌≡◌, refl, Bool, true, false, ◌⊎◌, ◌↔◌, List, length, get_or, set}
use Rattle.std.proofs.Common.{sym, subst, inl, inr, ⊎_elim, arith}
use Rattle.std.proofs.Math.Decide.{ℕ_discrete}
use Rattle.tables.specs.Words.{Bit}
use Rattle.tables.specs.Plan.{row_words, LeadsOn, Jumps, IsLeaf, IsClass}
use Rattle.closing.specs.BitsOfWords.Bits.{Tells, bit_zero}
use Rattle.closing.specs.BitsOfWords.MadeAnew.{MadeAnew, anew_none, anew_set_at}

-- w has the bits of those of the first n states whose codes are as P says
pub record BitsOfCodes (P : ℕ → Type 0) (codes : List ℕ) (n w : ℕ) : Type 0 where
  pub exactly : (i : ℕ) → Bit w i ↔ ((i < n) × P (get_or codes i 0))

-- at first there are none
pub gathered_none : (P : ℕ → Type 0) (codes : List ℕ) → BitsOfCodes P codes 0 0
gathered_none P codes =
    record { exactly = λ i. (λ b. absurd (bit_zero i b), λ (h, _). absurd (omega arith)) }

-- a test that tells of what holds says yes
says_yes : {P : Type 0} (test : Bool) → Tells P test → P → test ≡ true
says_yes true told p = refl
says_yes false told p = absurd (told.fails refl p)

-- the bit of one state more
pub gathered_more : {P : ℕ → Type 0} {codes : List ℕ} {n w r : ℕ} {test : Bool} → BitsOfCodes P codes n w
    → Tells (P (get_or codes n 0)) test → ((j : ℕ) → Bit r j ↔ (Bit w j ⊎ ((j ≡ n) × (test ≡ true))))
    → BitsOfCodes P codes (n + 1) r
gathered_more {P} {codes} {n} {test = test} so_far told sets = record {
  exactly = λ i. (
    λ b. ⊎_elim
        (λ c. let (h, p) = (so_far.exactly i).0 c in (omega arith, p))
        (λ (e, yes'). (omega arith, subst (λ (k : ℕ). P (get_or codes k 0)) (sym e) (told.holds yes')))
        ((sets i).0 b),
    λ (h, p). (sets i).1 (elim (ℕ_discrete i n) [
      | yes e ↦ inr (e, says_yes test told (subst (λ (k : ℕ). P (get_or codes k 0)) e p))
      | no other ↦ inl ((so_far.exactly i).1 (omega arith, p))
    ]),
  );
}

-- told with another form of the count
pub gathered_all : {P : ℕ → Type 0} {codes : List ℕ} {n m w : ℕ} → m ≡ n → BitsOfCodes P codes m w
    → BitsOfCodes P codes n w
gathered_all {P} {codes} {w = w} e so_far = subst (λ (k : ℕ). BitsOfCodes P codes k w) e so_far

-- the code of a class's start has 4 in its three lowest bits
pub class_code : (code : ℕ) → code % 8 ≡ 4 → IsClass code
class_code code four = ((omega arith, λ none. omega arith), omega arith)

pub class_lowest : (code : ℕ) → IsClass code → code % 8 ≡ 4
class_lowest code class = omega (arith, class.0.0, class.1)

-- which codes the states of a mask have, by the mask's word in the row
abbrev pub Mask : ℕ → ℕ → Type 0
Mask zero = LeadsOn
Mask (suc zero) = Jumps
Mask (suc (suc zero)) = IsLeaf
Mask (suc (suc (suc j))) = IsClass

-- the word j of a row is a mask of the first n states
unfoldable pub MaskWord : List ℕ → (n j w : ℕ) → Type 0
MaskWord codes n j w = BitsOfCodes (Mask j) codes n w

-- the masks of the piece, of n states, are made, and the other words are as before
abbrev pub MasksNoted : (codes before after : List ℕ) (piece n : ℕ) → Type 0
MasksNoted codes before after piece n = MadeAnew (MaskWord codes n) before after (row_words * piece) 4

-- the four masks are stored one after another
pub masks_noted : (codes before : List ℕ) (piece n : ℕ) {on jumping leaves classes : ℕ}
    → row_words * piece + row_words ≤ length before
    → BitsOfCodes LeadsOn codes n on → BitsOfCodes Jumps codes n jumping → BitsOfCodes IsLeaf codes n leaves
    → BitsOfCodes IsClass codes n classes
    → MasksNoted codes before
    (set (set (set (set before (row_words * piece) on) (row_words * piece + 1) jumping) (row_words * piece + 2) leaves)
    (row_words * piece + 3) classes) piece n
unfolding MaskWord
masks_noted codes before piece n room a b c d =
    anew_set_at (anew_set_at (anew_set_at (anew_set_at (anew_none (MaskWord codes n) before (row_words * piece)) _
    (omega arith) (omega arith) a) _ refl (omega arith) b) _ refl (omega arith) c) _ refl (omega arith) d
