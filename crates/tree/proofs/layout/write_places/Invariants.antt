-- The loop's invariant: with the places from `i` on put in, all are.
use mathlib.Core.Path.{◌≡◌}
use lib.ListN.{drop}
use Rattle.tree.specs.Places.{placed_from, with_places}
use Rattle.tree.proofs.layout.write_places.Given as goal

abbrev pub invariant-loop-i : goal.invariant-loop-i
invariant-loop-i l =
    placed_from l.i (drop l.i l.places) l.out ≡ with_places l.places l.initial.out
