-- `writing::write_column` meets its contract: the values of the first texts are written, at last the 0 before them.
use Rattle.std.proofs.Common.{ℕ, ◌≡◌, ◌+◌, ◌<◌}
use Rattle.writing.specs.Filled.{Filled}
use Rattle.writing.proofs.write_column.Given as goal

abbrev pub invariant-loop-text : goal.invariant-loop-text
invariant-loop-text g l =
    (v : ℕ → ℕ) → ((i r : ℕ) → i < l.texts → goal.F-post g l.value i r → r ≡ v i)
    → Filled (l.at + 1) l.text v l.initial.table l.table
