-- `columns::parting::part` meets its contract. The loop's invariant: the bytes before this one have come to their
-- places, and each has the first of its place.
use Rattle.std.proofs.Common.{refl, arith}
use Rattle.std.proofs.lemmas.List.{get_or-replicate}
use Rattle.columns.specs.Parting.{place_count, none}
use Rattle.columns.specs.PartingLaws.{parting_none, parting_next, place_by}
use Rattle.columns.proofs.parting.part.Goals as goal

pub loop-byte-init : goal.loop-byte-init
loop-byte-init c =
    parting_none _ _ _ _ c.requires refl (λ p h. get_or-replicate place_count p none 0 h)

pub loop-byte-preserved : goal.loop-byte-preserved
loop-byte-preserved c =
    let so_far = c.loop-byte.invariant in
    parting_next so_far c.loop-byte-test.true c.place_of-place.ensures.2
    (place_by c.takes_byte-takes.ensures (so_far.rest _ (omega arith))
    c.place_of-place.ensures.0 c.place_of-place.ensures.1) c.first_at.ensures
