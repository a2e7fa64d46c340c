-- `matching::part::first_part` meets its contract: no part starts before the place at hand.
use Rattle.std.proofs.Common.{rules}
use Rattle.tree.specs.Leaf.{Matches}
use Rattle.moving.specs.Remembered.{remembers_none}
use Rattle.stepping.specs.Inner.{answered_first}
use Rattle.matching.specs.Progress.{none_before_first, settled_found}
use Rattle.matching.proofs.part.first_part.Goals as goal

pub loop-start-init : goal.loop-start-init
loop-start-init c = record {
  ready = search rules;
  none_before = λ t prepared. none_before_first (Matches _ t) _;
  first_wide = search rules;
  answered = λ t prepared. answered_first (c.begin_in-empty.ensures _ t prepared);
  wide = search rules;
  remembers = remembers_none _ _;
}

pub returns-in-Some : goal.returns-in-Some
returns-in-Some c =
    λ t prepared.
    settled_found (Matches _ t) _ _ _ (c.loop-start.invariant.none_before t prepared)
    (c.in-Some.ensures.furthest t prepared)
