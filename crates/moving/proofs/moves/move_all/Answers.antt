-- `moving::moves::move_all` meets its contract: one word more is moved and closed, and the span widened by it.
use Rattle.std.proofs.Common.{ℕ, ◌<◌, List, length, arith}
use Rattle.moving.specs.WordsMovedClosed.{MovingClosing, moving_more, moving_all}
use Rattle.moving.specs.Spans.{spans_gathered}
use Rattle.moving.proofs.moves.move_all.Goals as goal

-- a piece stands in the words as they are so far
inside_words : {rows classes before after : List ℕ} {byte piece : ℕ}
    → MovingClosing rows classes before after byte piece → piece < length before → piece < length after
inside_words moving inside = omega (arith, moving.moves.same_length, moving.closes.same_length)

pub loop-piece-preserved : goal.loop-piece-preserved
loop-piece-preserved c =
    let loop = c.loop-piece in
    let invariant = loop.invariant in
    let inside = inside_words invariant.0 (omega arith) in (
      moving_more (omega arith) invariant.0 c.word_after-after.ensures.word_after,
      spans_gathered loop.words loop.piece loop.span _ invariant.1 inside
          c.widened-span.ensures,
    )

pub returns-clause-moved_closed : goal.returns-clause-moved_closed
returns-clause-moved_closed c = moving_all (omega arith) c.loop-piece.invariant.0
