-- `moving::moves::widened` meets its contract: each way through it is a case of the definition.
use Rattle.std.proofs.Common.{rules}
use Rattle.moving.specs.Spans.{stays, grows}
use Rattle.moving.proofs.moves.widened.Goals as goal

pub returns-then-closed : goal.returns-then-closed
returns-then-closed c = stays (c.requires.told.holds c.if-closed.true)

pub returns : goal.returns
returns c = grows (c.requires.told.fails c.if-closed.false) (search rules)
