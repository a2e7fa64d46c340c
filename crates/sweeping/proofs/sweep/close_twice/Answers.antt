-- `sweeping::sweep::close_twice` meets its contract: each of the two sweeps is lent the first words, which come back
-- swept; where the first settles them a second would change nothing. The last sweep says whether nothing is marked.
use mathlib.Core.Path.{sym}
use mathlib.Core.List.{◌++◌}
use lib.ListN.{drop}
use lib.Seq.{length-take-le}
use Rattle.sweeping.specs.Twice.{Closable, run_ready, closable_again, closed_once, closed_twice}
use Rattle.sweeping.specs.Zeros.{told_same, zeros_front}
use Rattle.sweeping.proofs.sweep.close_twice.Goals as goal
use Rattle.sweeping.proofs.sweep.close_twice.Goals.{After-sweep-once}

-- after the first sweep the words can be closed still
again : (c : After-sweep-once) → Closable c.args.rows.now c.args.count 0 c.args.count
    (c.sweep-once.new.words ++ drop c.args.count c.args.words.now)
again c = closable_again _ _ _ _ _ _ c.requires c.sweep-once.auto.words c.sweep-once.ensures.swept

pub slice_bounds-sweep-end-2 : goal.slice_bounds-sweep-end-2
slice_bounds-sweep-end-2 c =
    sym (length-take-le _ _ c.requires.enough)

pub sweep-once-requires : goal.sweep-once-requires
sweep-once-requires c =
    run_ready _ _ _ _ _ c.requires

pub returns-then-once : goal.returns-then-once
returns-then-once c =
    record {
      closed_twice = closed_once _ _ _ _ _ _ c.requires c.sweep-once.auto.words c.sweep-once.ensures.swept
          (λ x can. c.sweep-once.ensures.settled x can c.if-once.true);
      tells = told_same (zeros_front c.args.count c.args.words.now c.sweep-once.new.words c.requires.enough
          c.sweep-once.auto.words) c.sweep-once.ensures.tells;
    }

pub slice_bounds-sweep-end-4 : goal.slice_bounds-sweep-end-4
slice_bounds-sweep-end-4 c =
    sym (length-take-le _ _ (again (goal.at.slice_bounds-sweep-end-4 c).After-sweep-once).enough)

pub sweep-requires : goal.sweep-requires
sweep-requires c =
    run_ready _ _ _ _ _ (again (goal.at.sweep-requires c).After-sweep-once)

pub returns : goal.returns
returns c =
    record {
      closed_twice = closed_twice _ _ _ _ _ _ c.requires c.sweep-once.auto.words c.sweep-once.ensures.swept _
          c.sweep.auto.words c.sweep.ensures.swept;
      tells = told_same
          (zeros_front c.args.count (c.sweep-once.new.words ++ drop c.args.count c.args.words.now)
          c.sweep.new.words (again (goal.at.returns c).After-sweep-once).enough c.sweep.auto.words)
          c.sweep.ensures.tells;
    }
