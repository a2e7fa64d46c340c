-- A child piece once it was gone through: swept, or passed over because it was at rest.
use Rattle.std.specs.Prelude.{ℕ, zero, suc, ◌+◌, ◌-◌, ◌^◌, ◌<◌, Bool, true, ◌≡◌, refl, List, get_or}
use Rattle.std.proofs.Common.{arith, sym, ap, ◌∙◌, subst, inl, inr, ⊎_elim}
use Rattle.language.specs.Automaton.{start}
use Rattle.language.specs.Nested.{Nested}
use Rattle.language.specs.Settled.{Settled}
use Rattle.language.proofs.Unmoved.{settled_agree, settled_none, sweep_none}
use Rattle.tree.specs.Leaf.{Leaf, byteless}
use Rattle.tables.specs.Words.{Bit, width, run, Holds}
use Rattle.tables.specs.Plan.{Closes}
use Rattle.closing.specs.BitsOfWords.Bits.{dec_bit, bit_zero, same_bits}
use Rattle.sweeping.specs.Swept.{passed, Missed, ChildPiece, child_run, started, Visited}
use Rattle.sweeping.specs.Passing.{bit_passed, passed_below}
use Rattle.closing.specs.BitsOfWords.AllZero.{zero_holds}
use Rattle.closing.specs.Within.{sweep_extends}
use Rattle.sweeping.specs.Visiting.{own_holds, part_at, started_own, started_below}
use Rattle.sweeping.specs.ClosedFromState.{closes_keeps}
use Rattle.sweeping.specs.RunOfChildren.{Gone, Further, Visitable}

module _ {rows : List ℕ} {x : Nested Leaf} {c : ChildPiece} {at : ℕ} {words : List ℕ}
    (can : Visitable rows x c at words) where
  -- the own word with the accepting state passed up has no bit past the last state
  raised_small : (after : List ℕ)
      → passed (get_or after c.from 0) (width c.tree - 1) (get_or words 0 0) (c.stand + 1) < 2 ^ width x
  raised_small after = passed_below (get_or after c.from 0) (width c.tree - 1) (get_or words 0 0) (c.stand + 1)
      (width x) can.own_clean can.inside

  module _ (after : List ℕ) (visited : Visited x c words after) (waiting waiting' : ℕ)
      (missed : Missed (get_or words 0 0) c.stand waiting waiting')
      (settled settled' : Bool) where
    -- what was gone through before stays as it was
    pub further : (settled' ≡ true → settled ≡ true) → Further words after waiting waiting' settled settled' at
    further rest = record {
      wait = missed.all;
      rest = rest;
      own_kept = λ i b. closes_keeps visited.closed (raised_small after) i
          ((bit_passed (get_or after c.from 0) (width c.tree - 1) (get_or words 0 0) (c.stand + 1) i).1 (inl b));
      as_long = visited.same_length;
      behind_kept = λ o l h. visited.others o l (inl (omega (arith, can.here)));
    }

    -- its first word is that of its run
    first : get_or (child_run c after) 0 0 ≡ get_or after c.from 0
    first = part_at c after 0 (omega arith) ∙ ap (λ (o : ℕ). get_or after o 0) (omega arith)

    -- a marked start was passed down
    started_down : Bit (get_or words 0 0) c.stand → Bit (get_or after c.from 0) 0
    started_down b =
        let begun : Bit (get_or (started c words) 0 0) 0 =
        subst (λ (w : ℕ). Bit w 0) (sym (started_own c words (omega (arith, can.here, can.room))))
        ((bit_passed (get_or words 0 0) c.stand (get_or (child_run c words) 0 0) 0 0).1 (inr (refl, b)))
        in
        let kept : Holds c.tree (child_run c after) start =
        (visited.swept.marks start tt).1
        (sweep_extends c.tree (Holds c.tree (started c words)) start
        ((own_holds c.tree (started c words) start tt tt).1 begun))
        in
        subst (λ (w : ℕ). Bit w 0) first ((own_holds c.tree (child_run c after) start tt tt).0 kept)

    -- and the child piece stands as one that was gone through
    pub gone : (settled' ≡ true → Settled byteless c.tree (Holds c.tree (child_run c after)))
        → Gone after waiting' settled' (at + (1 + run c.tree)) c
    gone rests = record {
      behind = omega (arith, can.here);
      after_own = omega (arith, can.here, can.after_own);
      started = elim (dec_bit (get_or words 0 0) c.stand) [
        | yes b ↦ inl (started_down b)
        | no b
            ↦ inr (missed.one b)
      ];
      raised = λ b. closes_keeps visited.closed (raised_small after) (c.stand + 1)
          ((bit_passed (get_or after c.from 0) (width c.tree - 1) (get_or words 0 0) (c.stand + 1) (c.stand + 1)).1
          (inr (refl, b)));
      closed = visited.swept.each_closed;
      at_rest = rests;
    }

module _ {rows : List ℕ} {x : Nested Leaf} {c : ChildPiece} {at : ℕ} {words : List ℕ}
    (can : Visitable rows x c at words)
    (unmarked : Bit (get_or words 0 0) c.stand → ⊥) (none : (o : ℕ) → o < 1 + run c.tree
    → get_or words (at + o) 0 ≡ 0) where
  zero_part : (o : ℕ) → o < 1 + run c.tree → get_or (child_run c words) o 0 ≡ 0
  zero_part o l = part_at c words o l ∙ ap (λ (a : ℕ). get_or words (a + o) 0) can.here ∙ none o l

  zero_first : get_or words c.from 0 ≡ 0
  zero_first = ap (λ (a : ℕ). get_or words a 0) (omega (arith, can.here)) ∙ none 0 (omega arith)

  -- no bit is passed down
  start_same : get_or (started c words) 0 0 ≡ 0
  start_same = same_bits (get_or (started c words) 0 0) 0 (λ i. (
    λ b. absurd (⊎_elim (λ m. bit_zero i (subst (λ (w : ℕ). Bit w i) (zero_part 0 (omega arith)) m))
        (λ m. unmarked m.1)
        ((bit_passed (get_or words 0 0) c.stand (get_or (child_run c words) 0 0) 0 i).0
        (subst (λ (w : ℕ). Bit w i) (started_own c words (omega (arith, can.here, can.room))) b))),
    λ b. absurd (bit_zero i b),
  ))

  zero_started : (o : ℕ) → o < 1 + run c.tree → get_or (started c words) o 0 ≡ 0
  zero_started zero l = start_same
  zero_started (suc o) l = started_below c words o l ∙ zero_part (suc o) l

  -- nor up
  own_same : passed (get_or words c.from 0) (width c.tree - 1) (get_or words 0 0) (c.stand + 1) ≡ get_or words 0 0
  own_same = same_bits _ (get_or words 0 0) (λ i. (
    λ b. ⊎_elim (λ m. m)
        (λ m. absurd
        (bit_zero (width c.tree - 1) (subst (λ (w : ℕ). Bit w (width c.tree - 1)) zero_first m.1)))
        ((bit_passed (get_or words c.from 0) (width c.tree - 1) (get_or words 0 0) (c.stand + 1) i).0 b),
    λ b. (bit_passed (get_or words c.from 0) (width c.tree - 1) (get_or words 0 0) (c.stand + 1) i).1 (inl b),
  ))

  -- to pass over a child piece at rest is to visit it
  pub visited_at_rest : Visited x c words words
  visited_at_rest = record {
    swept = record {
      marks = λ q h. (
        λ m. absurd (zero_holds c.tree (child_run c words) zero_part q h m),
        λ m. absurd (sweep_none byteless c.tree (Holds c.tree (started c words))
            (zero_holds c.tree (started c words) zero_started) q h m),
      );
      clean = can.child_clean;
      each_closed = can.child_closed;
    };
    closed = subst (λ (w : ℕ). Closes x w (get_or words 0 0)) (sym own_same) can.own_closed;
    same_length = refl;
    others = λ o l out. refl;
  }

  -- and it is settled
  pub settled_at_rest : Settled byteless c.tree (Holds c.tree (child_run c words))
  settled_at_rest = settled_agree byteless c.tree
      (λ q h. (λ m. absurd m, zero_holds c.tree (child_run c words) zero_part q h))
      (settled_none byteless c.tree)
