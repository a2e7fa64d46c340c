-- `columns::columns::columns_of` meets its contract. The loop's invariant: each byte has the least that the leaves
-- before this entry take alike, and only their numbers are noted.
use Rattle.std.proofs.Common.{arith}
use Rattle.columns.specs.Parting.{known_count}
use Rattle.columns.specs.PartingLaws.{looking_none, looking_as, looking_past, looking_next, looking_all}
use Rattle.columns.specs.ColumnNumberingLaws.{least_grouped, columned}
use Rattle.columns.proofs.columns.columns_of.Goals as goal
use Rattle.columns.proofs.columns.columns_of.Goals.{then-has_bit, else-has_bit}

pub loop-entry-init : goal.loop-entry-init
loop-entry-init c =
    (omega arith, looking_none _ _ known_count)

pub loop-entry-preserved : goal.loop-entry-preserved
loop-entry-preserved c =
    let so_far = c.loop-entry.invariant in
    let told = rw c.word.ensures at c.has_bit.ensures in (
      omega (arith, c.loop-entry-test.true),
      elim c.if-has_bit.branch [
        | then-has_bit w ↦
            looking_as w.known-is w.least-is
            (looking_next so_far.1 (told.holds w.if-has_bit.true) w.start_code_at-number.ensures
            w.look_at.ensures.noted_too w.look_at.ensures.looked_at)
        | else-has_bit w ↦
            looking_as w.known-is w.least-is (looking_past so_far.1 (told.fails w.if-has_bit.false))
      ],
    )

pub number_groups-requires : goal.number_groups-requires
number_groups-requires c =
    let asked = c.requires in
    (least_grouped c.loop-entry.invariant.1.parts, asked.1, asked.2)

pub returns-clause-columned : goal.returns-clause-columned
returns-clause-columned c = λ t prepared.
    columned prepared (looking_all c.loop-entry.invariant.1 (omega arith)) c.number_groups.ensures
