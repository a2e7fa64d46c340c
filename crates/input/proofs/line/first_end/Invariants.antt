-- `input::line::first_end` meets its contract: no byte passed begins an end.
use Rattle.std.proofs.Common.{◌<◌, ◌≡◌, ℕ, drop}
use Rattle.input.specs.Ends.{end_size}
use Rattle.input.proofs.line.first_end.Given as goal

abbrev pub invariant-loop-end : goal.invariant-loop-end
invariant-loop-end l = (i : ℕ) → i < l.end → end_size (drop i l.text) ≡ 0
