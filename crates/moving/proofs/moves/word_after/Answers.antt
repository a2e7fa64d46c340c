-- `moving::moves::word_after` meets its contract: 0 stays 0, and any other word is moved and closed.
use Rattle.moving.specs.WordsMovedClosed.{none_after}
use Rattle.moving.proofs.moves.word_after.Goals as goal

pub returns-then-word-eq0-clause-word_after : goal.returns-then-word-eq0-clause-word_after
returns-then-word-eq0-clause-word_after c = none_after _ _ _ _ _ c.if-word-eq0.true
