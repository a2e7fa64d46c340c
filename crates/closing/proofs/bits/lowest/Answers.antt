-- `closing::bits::lowest` meets its contract: the trailing zeros stand below the lowest bit that is set.
use Rattle.tables.specs.Words.{word_bits}
use Rattle.closing.specs.BitsOfWords.LowestBit.{lowest_bit, lowest_below}
use Rattle.closing.proofs.bits.lowest.Goals as goal

pub returns : goal.returns
returns c =
    let lowest = lowest_bit word_bits c.args.word c.requires c.ranges.word.fits in
    (lowest, lowest_below lowest c.ranges.word.fits)
