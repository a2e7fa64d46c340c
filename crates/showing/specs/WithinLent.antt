-- What was written lies within the lent buffer.
use Rattle.std.specs.Prelude.{ℕ, ◌≤◌, List, length}
use Rattle.std.proofs.Common.{arith}
use Rattle.printing.specs.Printing.{Prints}

-- the length that is answered is at most the buffer's
pub refusal_within : {before bytes after : List ℕ} {size : ℕ} → Prints before 0 bytes after size → size ≤ length before
refusal_within p = omega (arith, p.within, p.next_place)
