-- `sweeping::sweep::close_from` meets its contract: a marked state brings what it reaches, another nothing. A word with
-- a mark is not zero.
use Rattle.closing.specs.BitsOfWords.Bits.{told_no}
use Rattle.sweeping.specs.ClosedFromState.{closes_marked, closes_unmarked, marked_joined}
use Rattle.sweeping.proofs.sweep.close_from.Goals as goal

pub returns-then-has_bit : goal.returns-then-has_bit
returns-then-has_bit c =
    let bit = c.has_bit.ensures.holds c.if-has_bit.true in record {
      closes_from = closes_marked _ _ _ _ _ _ bit c.with_bit.ensures c.close.ensures.closes;
      tells = told_no (marked_joined _ _ _ bit);
    }

pub returns-else-has_bit : goal.returns-else-has_bit
returns-else-has_bit c = record {
  closes_from = closes_unmarked _ _ _ _ (c.has_bit.ensures.fails c.if-has_bit.false);
  tells = c.none_marked.ensures;
}
