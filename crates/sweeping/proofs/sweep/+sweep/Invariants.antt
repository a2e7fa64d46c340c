-- What is lent to a child's sweep leaves out the own word, so the number of words falls.
use Rattle.std.proofs.Common.{◌-◌, length}
use Rattle.closing.specs.BitsOfWords.Bits.{Tells}
use Rattle.closing.specs.BitsOfWords.Zero.{AllZero}
use Rattle.sweeping.specs.Sweeping.{Sweeping}
use Rattle.sweeping.proofs.sweep.+sweep.Given as goal

abbrev pub decreases-sweep : goal.decreases-sweep
decreases-sweep l = length l.words.now

abbrev pub invariant-loop-at : goal.invariant-loop-at
invariant-loop-at l =
    Sweeping l.rows l.initial.words l.words l.at l.waiting l.settled × Tells (AllZero l.at l.words) l.zero

abbrev pub decreases-loop-at : goal.decreases-loop-at
decreases-loop-at l = length l.words - l.at
