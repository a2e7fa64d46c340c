-- What `pick` promises leaves no choice: its answer and every byte of the buffer are determined.
use Rattle.std.specs.Prelude.{◌≡◌, Result, Ok, Err, ℕ, List, ◌++◌, drop}
use Rattle.std.proofs.Common.{sym, ap, ◌∙◌, arith}
use Rattle.tree.specs.declared.refusal.Refusal.{Refusal}
use Rattle.reporting.specs.Print.{picked}
use Rattle.picker.specs.Promise.{Picks}

-- two answers with two buffers that both fit the promise are the same
pub picks_unique : (input before after after' : List ℕ) (r r' : Result ℕ Refusal) → Picks input before after r
    → Picks input before after' r' → (r ≡ r') × (after ≡ after')
picks_unique input before after after' (Ok size) (Ok size') p q =
    let same : size ≡ size' = p.sized ∙ sym q.sized in
    (ap Ok same, p.whole ∙ ap (λ (n : ℕ). picked input ++ drop n before) same ∙ sym q.whole)
picks_unique input before after after' (Err refusal) (Err refusal') p q =
    (ap Err (p.0 ∙ sym q.0), p.1.kept ∙ sym q.1.kept)
picks_unique input before after after' (Ok size) (Err refusal) p q = absurd (omega (arith, p.room, q.1.short))
picks_unique input before after after' (Err refusal) (Ok size) p q = absurd (omega (arith, q.room, p.1.short))
