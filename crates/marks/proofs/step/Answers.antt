-- `marks::step` meets its contract: it is `mark`'s for steps, along a single byte.
use Rattle.marks.proofs.AlongLaws.{each_single}
use Rattle.marks.proofs.step.Goals as goal

pub returns : goal.returns
returns c = each_single c.mark.ensures
