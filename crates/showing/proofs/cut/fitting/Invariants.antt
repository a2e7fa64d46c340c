-- `showing::cut::fitting` meets its contract: what is passed and what still fits are all that fits.
use Rattle.std.proofs.Common.{◌≡◌, ◌+◌, drop}
use Rattle.showing.specs.CutShort.{fitting}
use Rattle.showing.proofs.cut.fitting.Given as goal

abbrev pub invariant-loop-i : goal.invariant-loop-i
invariant-loop-i l = l.i + fitting l.left (drop l.i l.bytes) ≡ fitting l.initial.left l.bytes
