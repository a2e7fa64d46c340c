-- `marks::along::advance_along` meets its contract: one more byte is one more step.
use Rattle.std.proofs.Common.{arith}
use Rattle.marks.proofs.AlongLaws.{walkable_runs, walkable_next, went_none, went_further, went_rest, went_all}
use Rattle.marks.proofs.along.advance_along.Goals as goal

pub told_of-told-requires : goal.told_of-told-requires
told_of-told-requires c = walkable_runs c.requires

pub loop-byte-init : goal.loop-byte-init
loop-byte-init c = (
  c.requires,
  λ list t prepared able. went_none able (c.told_of-told.ensures t prepared able.marks),
)

pub returns-then-told : goal.returns-then-told
returns-then-told c = λ list t prepared able.
    went_rest _ c.loop-byte.byte-index (c.loop-byte.invariant.1 list t prepared able) c.if-told.true

pub advance-told-requires : goal.advance-told-requires
advance-told-requires c = walkable_runs c.loop-byte.invariant.0

pub loop-byte-preserved : goal.loop-byte-preserved
loop-byte-preserved c =
    let at = c.loop-byte.invariant in
    let walk = at.0 in (
      walkable_next walk (c.advance-told.ensures walk.ready.of_tree.0 walk.ready.of_tree.1 walk.marks),
      λ list t prepared able.
          let so_far = at.1 list t prepared able in
          went_further _ c.loop-byte.byte-index so_far (omega arith)
          (c.advance-told.ensures t prepared so_far.able.marks),
    )

pub returns : goal.returns
returns c = λ list t prepared able.
    went_all _ c.loop-byte.byte-index (c.loop-byte.invariant.1 list t prepared able) (omega arith)
