-- `stepping::inner::copy` meets its contract: one word more is copied in each turn.
use Rattle.std.proofs.Common.{arith}
use Rattle.stepping.specs.Inner.{copying_none, copying_next, copying_done}
use Rattle.stepping.proofs.inner.copy.Goals as goal

pub loop-i-init : goal.loop-i-init
loop-i-init c = copying_none c.requires.0 c.requires.1

pub loop-i-preserved : goal.loop-i-preserved
loop-i-preserved c = copying_next c.loop-i.invariant (omega arith)

pub returns : goal.returns
returns c = copying_done c.loop-i.invariant (omega arith)
