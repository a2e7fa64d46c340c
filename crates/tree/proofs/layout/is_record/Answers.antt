-- `tree::layout::is_record` meets its contract: where its place is not too large, the numbers compared are those of the
-- record that the label asks for.
use native.Mathlib.Omega.{arith}
use Rattle.tree.specs.Comparing.{says_record}
use Rattle.tree.proofs.layout.is_record.Goals as goal

pub returns-then-place_at-le-MOST_PLACE : goal.returns-then-place_at-le-MOST_PLACE
returns-then-place_at-le-MOST_PLACE c =
    rw c.labelled.ensures
    at (says_record c.args.list.now c.args.i _ _ _ _ c.requires
    (omega (arith, c.if-place_at-le-MOST_PLACE.true, c.place_at.ensures)) c.holds_numbers.ensures)
