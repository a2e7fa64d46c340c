-- `moving::moves::moved` meets its contract: of the marked leaves the characters are picked by their bytes, the classes
-- by their records.
use Rattle.std.proofs.Common.{rules}
use Rattle.moving.specs.WordMoved.{moves_by_masks}
use Rattle.moving.specs.Picking.{picked_by}
use Rattle.moving.proofs.moves.moved.Goals as goal

pub returns : goal.returns
returns c =
    moves_by_masks c.word.ensures c.word-2.ensures (picked_by _ c.picked-characters.ensures (λ i test b says. search rules)) (picked_by _ c.picked-taken.ensures (λ i test b says. search rules))
