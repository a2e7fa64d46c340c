-- `stepping::inner::close_moved` meets its contract: a single piece was closed by the move, and has a mark; otherwise
-- two sweeps close the words, and say whether nothing is marked.
use native.Mathlib.Omega.{arith}
use Rattle.closing.specs.BitsOfWords.Bits.{told_no}
use Rattle.stepping.specs.Inner.{closed_moved, moved_alone, some_left}
use Rattle.stepping.proofs.inner.close_moved.Goals as goal

pub returns-then-count-eq1 : goal.returns-then-count-eq1
returns-then-count-eq1 c =
    record { closed_moved = moved_alone {count = c.args.count} (omega (arith, c.if-count-eq1.true)); tells = told_no (some_left c.requires.spans.0 c.requires.spans.1) }

pub returns : goal.returns
returns c =
    record { closed_moved = closed_moved c.close_twice.ensures.closed_twice; tells = c.close_twice.ensures.tells }
