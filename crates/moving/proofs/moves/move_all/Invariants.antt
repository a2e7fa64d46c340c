-- `moving::moves::move_all`, its loop: the words passed are moved and closed, and their marks are in the span.
use Rattle.moving.specs.WordsMovedClosed.{MovingClosing}
use Rattle.moving.specs.Spans.{SpansOf}
use Rattle.moving.proofs.moves.move_all.Given as goal

abbrev pub invariant-loop-piece : goal.invariant-loop-piece
invariant-loop-piece l =
    MovingClosing l.rows l.classes l.initial.words l.words l.byte l.piece × SpansOf l.words l.piece l.span
