-- The rest of a sweep where nothing can happen any more: the own word has no mark, and no mark is ahead.
use Rattle.std.specs.Prelude.{ℕ, zero, suc, ◌+◌, ◌^◌, ◌≤◌, ◌<◌, Bool, ◌≡◌, List, length, get_or}
use Rattle.std.proofs.Common.{arith, subst}
use Rattle.std.proofs.Math.Decide.{dec_lt}
use Rattle.std.specs.Int.Bits.{bit_or}
use Rattle.language.specs.Nested.{Nested}
use Rattle.tree.specs.Leaf.{Leaf}
use Rattle.tables.specs.Words.{Bit, run}
use Rattle.closing.specs.BitsOfWords.Bits.{bit_zero}
use Rattle.sweeping.specs.Swept.{Sweepable}
use Rattle.sweeping.specs.Passing.{missed_with}
use Rattle.sweeping.specs.RunOfChildren.{UnderWay, waiting_child}
use Rattle.sweeping.specs.GoneThrough.{further, gone, visited_at_rest, settled_at_rest}

module _ (rows : List ℕ) (x : Nested Leaf) (begun : List ℕ)
    (sweepable : Sweepable rows x begun)
    (words : List ℕ) (settled : Bool) (same : length words ≡ length begun) (unmarked : get_or words 0 0 ≡ 0) where
  -- a sweep under way that has come to its end
  pub record Ended : Type 0 where
    pub at : ℕ
    pub waiting : ℕ
    pub past : length words ≤ at
    pub way : UnderWay rows x begun words at waiting settled

  -- each child piece that is left is passed over
  finish : (m at waiting : ℕ) → length words ≤ at + m → ((o : ℕ) → at ≤ o → o < length words → get_or words o 0 ≡ 0)
      → UnderWay rows x begun words at waiting settled → Ended
  finish zero at waiting h none way = record { at = at; waiting = waiting; past = omega arith; way = way }
  finish (suc m) at waiting h none way = elim (dec_lt at (length words)) [
    | no l ↦ record { at = at; waiting = waiting; past = omega arith; way = way }
    | yes l ↦
        let w = waiting_child rows x begun sweepable words at waiting settled same way l in
        let c = w.child in
        let rest : Bit (get_or words 0 0) c.stand
        → ⊥ = λ b. bit_zero c.stand (subst (λ (v : ℕ). Bit v c.stand) unmarked b) in
        let zeros : (o : ℕ) → o < 1 + run c.tree → get_or words (at + o) 0 ≡ 0 =
        λ o g. none (at + o) (omega arith) (omega (arith, w.visitable.room)) in
        let seen = visited_at_rest w.visitable rest zeros in
        let waiting' = bit_or waiting (2 ^ c.stand) in
        let missed = missed_with (get_or words 0 0) c.stand waiting in
        finish m (at + (1 + run c.tree)) waiting' (omega arith) (λ o g. none o (omega arith))
        (w.goes_on words waiting' settled seen
        (further w.visitable words seen waiting waiting' missed settled settled (λ e. e))
        (gone w.visitable words seen waiting waiting' missed settled settled
        (λ _. settled_at_rest w.visitable rest zeros)))
  ]

  pub finished : (at waiting : ℕ) → ((o : ℕ) → at ≤ o → o < length words → get_or words o 0 ≡ 0)
      → UnderWay rows x begun words at waiting settled → Ended
  finished at waiting none way = finish (length words) at waiting (omega arith) none way
