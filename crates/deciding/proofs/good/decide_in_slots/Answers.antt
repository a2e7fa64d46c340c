-- `deciding::good::decide_in_slots` meets its contract: each return has its reason, by what the calls before it promise
-- of the labels that were taken off the list.
use Rattle.std.proofs.Common.{ℕ, ◌/◌, List, ◌++◌, length, take, drop, replicate, subst, Bool, None, arith}
use Rattle.std.proofs.lemmas.List.{length-replicate}
use Rattle.tree.specs.Layout.{record_size}
use Rattle.lists.specs.Readback.{LabelsOf}
use Rattle.deciding.specs.Judged.{Judged}
use Rattle.deciding.specs.LabelsTaken.{Compared}
use Rattle.deciding.specs.DecideLaws.{
  front_labels,
  front_classes,
  not_by_labels,
  not_by_pieces,
  not_by_records,
  good_by_records,
  counts_below,
  counts_nothing,
}
use Rattle.deciding.proofs.good.decide_in_slots.Given.{Over}
use Rattle.deciding.proofs.good.decide_in_slots.Goals as goal
use Rattle.deciding.proofs.good.decide_in_slots.Goals.{After-take_labels-classes}

-- the labels of the list's records, in the front of the array
abbrev front : (g : Over) → After-take_labels-classes g → List ℕ
front g c =
    let n = length c.args.list.now / record_size in
    take n (c.take_labels-classes.new.labels ++ drop n (replicate g.row.SLOTS 0))

-- each is the one that its record shows
shown : (g : Over) (c : After-take_labels-classes g) → LabelsOf c.args.list.now (front g c)
shown g c =
    front_labels c.args.list.now (replicate g.row.SLOTS 0) c.take_labels-classes.new.labels c.requires.record_size_len.0
    (simp length-replicate (omega arith)) c.take_labels-classes.auto.labels c.take_labels-classes.ensures.taken

pub returns-then-not-one_tree : goal.returns-then-not-one_tree
returns-then-not-one_tree g c =
    let judged : Judged c.args.list.now None =
    not_by_labels c.args.list.now _ (shown g (goal.at.returns-then-not-one_tree g c).After-take_labels-classes)
    (c.one_tree.ensures.if_not c.if-not-one_tree.true) in
    record { judged = judged; counts_below = counts_nothing c.args.list.now c.args.cuts.now judged }

pub returns-then-count-gt-MOST_PIECES : goal.returns-then-count-gt-MOST_PIECES
returns-then-count-gt-MOST_PIECES g c =
    let judged : Judged c.args.list.now None =
    not_by_pieces c.args.list.now _ (shown g (goal.at.returns-then-count-gt-MOST_PIECES g c).After-take_labels-classes)
    c.piece_count-count.result c.piece_count-count.ensures.counts_pieces (omega arith) in
    record { judged = judged; counts_below = counts_nothing c.args.list.now c.piece_count-count.new.cuts judged }

pub returns-then-not-compare : goal.returns-then-not-compare
returns-then-not-compare g c =
    let at = (goal.at.returns-then-not-compare g c).After-take_labels-classes in record {
      judged = not_by_records c.args.list.now (front g at) (shown g at)
          (subst (λ (b : Bool). Compared (front g at) c.args.list.now b) c.if-not-compare.true c.compare.ensures);
      counts_below = counts_below c.args.list.now (front g at) c.piece_count-count.new.sizes
          c.piece_count-count.new.opens c.piece_count-count.new.cuts (shown g at) c.piece_count-count.ensures.measured;
    }

pub returns : goal.returns
returns g c =
    let at = (goal.at.returns g c).After-take_labels-classes in record {
      judged = good_by_records c.args.list.now (front g at) (shown g at) c.piece_count-count.result
          c.take_labels-classes.result (c.one_tree.ensures.if_so c.if-not-one_tree.false)
          c.piece_count-count.ensures.counts_pieces (omega (arith, c.if-count-gt-MOST_PIECES.false))
          (front_classes c.args.list.now (replicate g.row.SLOTS 0) (front g at) c.take_labels-classes.result
          c.requires.record_size_len.0 (simp length-replicate (omega arith)) (shown g at)
          c.take_labels-classes.ensures.value)
          (subst (λ (b : Bool). Compared (front g at) c.args.list.now b) c.if-not-compare.false c.compare.ensures);
      counts_below = counts_below c.args.list.now (front g at) c.piece_count-count.new.sizes
          c.piece_count-count.new.opens c.piece_count-count.new.cuts (shown g at) c.piece_count-count.ensures.measured;
    }
