-- `showing::cut::part_start` meets its contract: the part that still fits begins where the whole one does.
use Rattle.std.proofs.Common.{◌≡◌}
use Rattle.showing.specs.CutShort.{cut_begins}
use Rattle.showing.proofs.cut.part_start.Given as goal

abbrev pub invariant-loop-before : goal.invariant-loop-before
invariant-loop-before l = cut_begins l.bytes l.left l.before ≡ cut_begins l.bytes l.initial.left l.place
