-- `widen::write_wide` meets its contract. The loop's invariant: the first `j` bytes are those of the wide list, the
-- rest is as it was.
use Rattle.std.proofs.Common.{◌≡◌, ◌++◌, drop}
use Rattle.widen.specs.OldLayout.{wide_bytes}
use Rattle.widen.proofs.write_wide.Given as goal

abbrev pub invariant-loop-j : goal.invariant-loop-j
invariant-loop-j l = l.out ≡ wide_bytes l.old l.j ++ drop l.j l.initial.out
