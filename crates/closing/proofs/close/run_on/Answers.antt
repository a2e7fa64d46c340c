-- `closing::close::run_on` meets its contract: both terms of the sum are below 2 ^ 63, and the addition carries the
-- marks on.
use Rattle.closing.specs.Passes.RunOn.{ran_on}
use Rattle.closing.proofs.close.run_on.Goals as goal

pub returns : goal.returns
returns c =
    ran_on _ _
