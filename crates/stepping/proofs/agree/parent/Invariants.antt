-- `stepping::agree::parent`, its loop: no piece from `at` on has a run that reaches past the child.
use Rattle.std.proofs.Common.{ℕ, ◌+◌, ◌≤◌, ◌<◌}
use Rattle.tables.specs.Plan.{run_of}
use Rattle.stepping.proofs.agree.parent.Given as goal

abbrev pub invariant-loop-at : goal.invariant-loop-at
invariant-loop-at l = (m : ℕ) → l.at ≤ m → m < l.child → m + run_of l.rows m ≤ l.child
