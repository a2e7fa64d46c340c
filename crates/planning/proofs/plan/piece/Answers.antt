-- `planning::plan::piece` meets its contract: it walks the piece, and packs what the walk and the decision on the list
-- tell.
use Rattle.std.proofs.Common.{◌+◌, get_or, arith}
use Rattle.tables.specs.Walking.{SiteVisited}
use Rattle.planning.specs.Making.{Storable, piece_ready, piece_packable, piece_made, piece_storable}
use Rattle.planning.proofs.plan.piece.Goals as goal
use Rattle.planning.proofs.plan.piece.Goals.{After-fill-last}

-- what the walk has visited, from the root's record of the piece on
visited : (c : After-fill-last) → let start = c.args in
    SiteVisited start.list.now (get_or start.tables.now.roots start.k 0) start.k 0 start.tables.now
    c.fill-last.new.self c.fill-last.result
visited c = rw c.from-node.ensures at c.fill-last.ensures.visited

-- the numbers that are stored are small
storable : (c : After-fill-last) → let start = c.args in let node = get_or start.tables.now.roots start.k 0 in
    Storable start.k c.fill-last.result node (get_or start.cuts.now (node + 1) 0) c.fill-last.new.self.codes
    c.fill-last.new.self.stands start.rows.now start.cuts.now
storable c = piece_storable c.requires.making c.requires.piece_number (visited c) c.fill-last.ensures.same_lengths

pub fill-last-requires : goal.fill-last-requires
fill-last-requires c = rw c.from-node.ensures (piece_ready c.requires.making c.requires.piece_number)

pub overflow_sub-tables : goal.overflow_sub-tables
overflow_sub-tables c = let small = storable (goal.at.overflow_sub-tables c).After-fill-last in omega arith

pub offset_bounds-tables-last : goal.offset_bounds-tables-last
offset_bounds-tables-last c = let small = storable (goal.at.offset_bounds-tables-last c).After-fill-last in omega arith

pub bounds-tables-last : goal.bounds-tables-last
bounds-tables-last c = let small = storable (goal.at.bounds-tables-last c).After-fill-last in omega arith

pub bounds-cuts-node : goal.bounds-cuts-node
bounds-cuts-node c = let small = storable (goal.at.bounds-cuts-node c).After-fill-last in omega arith

pub pack-requires-clause-packable : goal.pack-requires-clause-packable
pack-requires-clause-packable c =
    piece_packable c.requires.making c.requires.piece_number
    (visited (goal.at.pack-requires-clause-packable c).After-fill-last) c.fill-last.ensures.same_lengths
    (λ j. omega (arith, c.type_inv.list j))

pub pack-requires-clause-row_words_in_bounds : goal.pack-requires-clause-row_words_in_bounds
pack-requires-clause-row_words_in_bounds c =
    let small = storable (goal.at.pack-requires-clause-row_words_in_bounds c).After-fill-last in
    let run = rw c.from-node.ensures at c.from-run.ensures in
    (small.rows_within, omega (arith, run), omega (arith, c.from.type_inv))

pub returns-clause-made : goal.returns-clause-made
returns-clause-made c =
    let run = rw c.from-node.ensures at c.from-run.ensures in
    piece_made c.requires.making c.requires.piece_number
    (visited (goal.at.returns-clause-made c).After-fill-last) c.fill-last.ensures.same_lengths
    (rw (run, c.from.ensures) at c.pack.ensures)
