-- The records of a tree, told by its pieces: what the layer above sees of a list is the cut tree alone.
use Rattle.std.specs.Prelude.{ℕ, ◌+◌, List}
use Rattle.language.specs.Nested.{
  Nested,
  below,
  whole,
  leaf as nested-leaf,
  catenation as nested-catenation,
  union as nested-union,
  star as nested-star,
}
use Rattle.tree.specs.Leaf.{Leaf}
use Rattle.tree.specs.Numbering.{NodeNumbers, alone, above_one, above_two}
use Rattle.tree.specs.Records.{records}
use Rattle.tree.specs.Parts.{pieces_below}

-- the piece of each node of x's tree: x's top piece is `piece`, and the pieces below it are numbered from `new`, a
-- piece before those below it
abbrev pub piece_numbers : {A : Type 0} → Nested A → (piece new : ℕ) → NodeNumbers
piece_numbers (nested-leaf a) piece new = alone piece
piece_numbers (nested-catenation x y) piece new =
    above_two piece (piece_numbers x piece new) (piece_numbers y piece (new + pieces_below x))
piece_numbers (nested-union x y) piece new =
    above_two piece (piece_numbers x piece new) (piece_numbers y piece (new + pieces_below x))
piece_numbers (nested-star x) piece new = above_one piece (piece_numbers x piece new)
piece_numbers (below x) piece new = piece_numbers x new (new + 1)

-- the records of x's tree; the first has the number `first`
abbrev pub stored : Nested Leaf → (first piece new : ℕ) → List ℕ
stored x first piece new = records (whole x) (piece_numbers x piece new) first
