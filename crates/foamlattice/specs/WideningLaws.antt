-- Turning an old list into one of today: what it answers fits its number, is given back by unpacking, and is the only
-- answer.
use Rattle.std.specs.Prelude.{ℕ, ◌≤◌, ◌≡◌, List, Result, Ok, Err}
use Rattle.std.proofs.Common.{arith, ap, sym, ◌∙◌}
use Rattle.tree.specs.Limits.{most_records}
use Rattle.tree.specs.Pieces.{good_small}
use Rattle.tree.specs.RefusalNumbers.{list_not_good}
use Rattle.tree.specs.Refusing.{refusal_number}
use Rattle.tree.specs.declared.refusal.Refusal.{Refusal}
use Rattle.widen.specs.Promise.{RefusesToWiden, not_good, too_long, Widens, widen_refusal}
use Rattle.widen.specs.OldLayout.{widened}
use Rattle.widen.specs.PromiseLaws.{widened_unique}
use Rattle.one_number.specs.Packed.{Unpacks}
use Rattle.foamlattice.specs.PackedBounds.{unpacks}
use Rattle.foamlattice.specs.Promise.{widen_count, widen_packed, Widening}

-- there are at most 1,920 records
pub widen_count_small : (old before after : List ℕ) (answer : Result ℕ Refusal) → Widens old before after answer
    → widen_count answer ≤ most_records
widen_count_small old before after (Ok records) right =
    let written = right.fits in
    omega (arith, written.records_are, good_small (widened old) written.tree written.good.wide)
widen_count_small old before after (Err refusal) right = omega arith

-- the refusal's number is small
number_small : {old before after : List ℕ} {refusal : Refusal} → RefusesToWiden old before after refusal
    → refusal_number refusal ≤ list_not_good
number_small (not_good why) = omega arith
number_small (too_long why) = omega arith

refusal_small : (old before after : List ℕ) (answer : Result ℕ Refusal) → Widens old before after answer
    → widen_refusal answer ≤ list_not_good
refusal_small old before after (Ok records) right = omega arith
refusal_small old before after (Err refusal) right = number_small right.fits

-- so the number gives its parts back
pub widening_unpacks : (old before after : List ℕ) (r : ℕ) (m : Widening old before after r)
    → Unpacks r (widen_refusal m.answer) 0 (widen_count m.answer) 0
widening_unpacks old before after r m =
    unpacks r (widen_refusal m.answer) 0 (widen_count m.answer) 0
    (record {
      number_small = omega (arith, refusal_small old before after m.answer m.right);
      flag_small = omega arith;
      x_small = omega (arith, widen_count_small old before after m.answer m.right);
      y_small = omega arith;
    }) m.as_number

-- two results that both fit the promise are equal
pub widening_unique : (old before after after' : List ℕ) (r s : ℕ) → Widening old before after r
    → Widening old before after' s → (r ≡ s) × (after ≡ after')
widening_unique old before after after' r s m n =
    let same = widened_unique old before after after' m.answer n.answer m.right n.right in
    (m.as_number ∙ ap widen_packed same.answers ∙ sym n.as_number, same.buffers)
