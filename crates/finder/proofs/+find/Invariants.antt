-- Where the slots are not enough it calls itself with more. The measure is how many records too many there are.
use Rattle.std.proofs.Common.{◌+◌, ◌-◌, ◌/◌, length}
use Rattle.tree.specs.Layout.{record_size}
use Rattle.finder.proofs.+find.Given as goal

abbrev pub decreases-find : goal.decreases-find
decreases-find l = length l.list.now / record_size + 1 - l.slots
