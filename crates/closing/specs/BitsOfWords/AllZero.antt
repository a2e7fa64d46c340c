-- Words of 0 hold no mark.
use Rattle.std.specs.Prelude.{ℕ, suc, ◌+◌, List}
use Rattle.std.proofs.Common.{arith, subst}
use Rattle.language.specs.Automaton.{State}
use Rattle.language.specs.Nested.{Nested, Has}
use Rattle.tables.specs.Words.{Bit, width, run, Holds}
use Rattle.closing.specs.BitsOfWords.Zero.{AllZero}
use Rattle.closing.specs.BitsOfWords.Bits.{bit_zero}
use Rattle.closing.specs.BitsOfWords.Spots.{Spot, own, under, spot, SetAt, holds_held, SpotWithin, spot_within}

-- no bit is set in words that are 0
unlit : (s : Spot) (k m : ℕ) (words : List ℕ) → AllZero (1 + m) words → SpotWithin k m s → SetAt s words → ⊥
unlit (own b) k m words zeros within held = bit_zero b (subst (λ (n : ℕ). Bit n b) (zeros 0 (omega arith)) held)
unlit (under o b) k m words zeros within held =
    bit_zero b (subst (λ (n : ℕ). Bit n b) (zeros (suc o) (omega arith)) held)

-- words that are 0 hold no mark
pub zero_holds : {A : Type 0} (x : Nested A) (words : List ℕ) → AllZero (1 + run x) words → (q : State) → Has x q
    → Holds x words q → ⊥
zero_holds x words zeros q has held = unlit (spot x q) (width x) (run x) words zeros (spot_within x q has)
    ((holds_held x words q has).0 held)
