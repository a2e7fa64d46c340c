-- `measuring::measure::measure` meets its contract. The loop's invariant: the records below `i` are measured. A turn
-- reads the children's slots, which the invariant speaks of, and the laws of the specs gather the record's own numbers
-- from theirs; that a tree has these labels bounds them all.
use Rattle.std.proofs.Common.{length}
use Rattle.cutting.specs.Measured.{RoomToMeasure, Measured}
use Rattle.measuring.proofs.measure.measure.Given as goal

abbrev pub invariant-loop-i : goal.invariant-loop-i
invariant-loop-i l =
    RoomToMeasure (length l.labels) l.sizes l.opens l.cuts × Measured l.labels l.sizes l.opens l.cuts l.i
