-- `counts::count::number` meets its contract. The loop's invariant: the digits from `at` up to `next` are `value`.
use Rattle.std.proofs.Common.{◌-◌, length}
use Rattle.counts.specs.CountReading.{NumberSoFar}
use Rattle.counts.proofs.count.number.Given as goal

abbrev pub invariant-loop-more : goal.invariant-loop-more
invariant-loop-more l =
    NumberSoFar l.expr l.at l.value l.next

abbrev pub decreases-loop-more : goal.decreases-loop-more
decreases-loop-more l =
    length l.expr - l.next
