-- `exploring::room::find` meets its contract: none of the first i states has the number and agrees.
use Prim.Native.Nat.{◌≤◌}
use mathlib.Core.Path.{◌≡◌}
use Rattle.exploring.specs.Keys.{number_under}
use Rattle.exploring.specs.Room.{Passed}
use Rattle.exploring.proofs.room.find.Given as goal

abbrev pub invariant-loop-i : goal.invariant-loop-i
invariant-loop-i l =
    (l.i ≤ l.states) × (l.number ≡ number_under l.layout.masks l.words l.layout.count) × Passed l.layout.masks l.layout.count l.layout.most l.number l.room l.words l.i
