-- Where the slots are not enough it calls itself with more. The measure is how many records too many there are.
use Rattle.std.proofs.Common.{◌+◌, ◌-◌, ◌/◌, length}
use Rattle.tree.specs.Layout.{record_size}
use Rattle.preparing.proofs.+prepare_list.Given as goal

abbrev pub decreases-prepare_list : goal.decreases-prepare_list
decreases-prepare_list l = length l.list.now / record_size + 1 - l.slots
