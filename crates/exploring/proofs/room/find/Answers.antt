-- `exploring::room::find` meets its contract: none of the first i states has the number and agrees.
use Rattle.exploring.specs.RoomLaws.{sought_none}
use Rattle.exploring.proofs.room.find.Goals as goal

pub returns : goal.returns
returns c =
    sought_none c.loop-i.invariant.2 c.loop-i-test.false c.loop-i.invariant.1
