-- `columns::parting::part` meets its contract. The loop's invariant: the bytes before this one have come to their
-- places, and each has the first of its place.
use Rattle.columns.specs.Parting.{Parting}
use Rattle.columns.proofs.parting.part.Given as goal

abbrev pub invariant-loop-byte : goal.invariant-loop-byte
invariant-loop-byte l =
    Parting l.classes l.number l.initial.least l.least l.firsts l.byte
