-- `reader::store::place_records` meets its contract: the expression is read again, and its places are put in.
use Rattle.std.proofs.Common.{List, ℕ, ◌∙◌, ap}
use Rattle.tree.specs.Places.{with_places}
use Rattle.reader.specs.Placing.{due_few, placed_again}
use Rattle.reader.proofs.store.place_records.Goals as goal

pub first-requires : goal.first-requires
first-requires c = due_few c.requires.due

pub returns : goal.returns
returns c =
    c.write_places.ensures
    ∙ ap (λ (places : List ℕ). with_places places c.args.records.now)
    (c.first.ensures ∙ placed_again _ _ _ c.requires.due _ c.expression.result c.expression.ensures.answer)
