-- `classes::class::item` meets its contract: a byte, and where a `-` follows it a range.
use Prim.Native.Nat.{ℕ, ◌+◌, ◌<◌}
use mathlib.Core.Path.{◌≡◌}
use mathlib.Core.List.{List}
use lib.ListN.{length, get_or}
use Rattle.std.specs.Prelude.{Option, Some, None}
use Rattle.classes.specs.ClassReading.{
  ByteHere,
  ItemAnswer,
  RangeAnswer,
  item_single,
  item_range,
  bad_range_item,
  bad_byte_item,
}
use Rattle.classes.specs.declared.part.ClassItem.{ClassItem}
use Rattle.classes.proofs.class.item.Goals as goal

-- what the reader of the range answers, the reader of the item does
of_range : (bytes : List ℕ) (at first between : ℕ) (r : Option ClassItem) → ByteHere bytes at first between
    → between < length bytes → get_or bytes between 0 ≡ 45 → RangeAnswer bytes first (between + 1) r
    → ItemAnswer bytes at r
of_range bytes at first between (Some item) byte h e a = item_range byte h e a
of_range bytes at first between None byte h e a = bad_range_item byte h e a

pub returns-in_err-byte : goal.returns-in_err-byte
returns-in_err-byte c =
    rw c.from_residual.ensures (bad_byte_item c.requires.within c.requires.other c.in_err-byte.ensures)

pub returns-then-stands_at : goal.returns-then-stands_at
returns-then-stands_at c =
    let dash = c.stands_at.ensures.if_so c.if-stands_at.true in
    of_range c.args.expr.now c.args.at _ _ c.range.result c.in_ok-byte.ensures dash.0 dash.1 c.range.ensures

pub returns : goal.returns
returns c =
    item_single c.in_ok-byte.ensures (c.stands_at.ensures.if_not c.if-stands_at.false)
