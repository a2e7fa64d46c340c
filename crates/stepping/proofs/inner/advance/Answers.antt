-- `stepping::inner::advance` meets its contract: the words are moved along the byte; where no mark is left they are
-- closed as they are, else they are closed, which is a step of the plain simulation.
use Rattle.std.proofs.Common.{refl, arith}
use Rattle.stepping.specs.Inner.{moved_closable, first_row, top_low, advanced_none, advanced}
use Rattle.stepping.proofs.inner.advance.Goals as goal

pub returns-in_default : goal.returns-in_default
returns-in_default c = λ t prepared marks.
    advanced_none prepared marks c.move_all.ensures.moved_closed c.in_default.ensures.spans refl

pub close_moved-nothing-requires : goal.close_moved-nothing-requires
close_moved-nothing-requires c = record {
  closable = moved_closable c.requires c.move_all.ensures.moved_closed c.in-Some.ensures.spans.0;
  spans = c.in-Some.ensures.spans;
}

pub invariant_of-root : goal.invariant_of-root
invariant_of-root c = record { inside = first_row c.requires.ready }

pub has_bit-requires : goal.has_bit-requires
has_bit-requires c =
    omega (
      arith,
      c.top.ensures,
      top_low c.requires.ready.of_tree.1,
    )

pub returns : goal.returns
returns c =
    λ t prepared marks.
    advanced prepared _ _ _ _ _ _ marks c.move_all.ensures.moved_closed c.close_moved-nothing.ensures.closed_moved
    c.close_moved-nothing.auto.words _ c.top.ensures c.has_bit.ensures
    c.close_moved-nothing.ensures.tells
