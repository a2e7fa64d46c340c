-- `running::run::runs` meets its contract: before a byte the rest of the text leads from `state`, which is not 0, to
-- where the whole text leads from the start.
use Rattle.std.proofs.Common.{◌≡◌, ◌≤◌, length, drop}
use Rattle.running.specs.Runs.{led}
use Rattle.running.proofs.run.runs.Given as goal

abbrev pub invariant-loop-byte : goal.invariant-loop-byte
invariant-loop-byte l =
    (l.byte-index ≤ length l.text) × (1 ≤ l.state)
    × (led l.table (drop l.byte-index l.text) l.state ≡ led l.table l.text 1)
