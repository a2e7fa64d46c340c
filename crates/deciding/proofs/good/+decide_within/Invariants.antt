-- `decide_within` calls itself with more slots. The measure is how many records too many there are.
use Rattle.std.proofs.Common.{◌/◌, length, ◌+◌, ◌-◌}
use Rattle.tree.specs.Layout.{record_size}
use Rattle.deciding.proofs.good.+decide_within.Given as goal

abbrev pub decreases-decide_within : goal.decreases-decide_within
decreases-decide_within l = length l.list.now / record_size + 1 - l.slots
