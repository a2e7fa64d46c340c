-- `marks::mark_in_rows` meets its contract: what making the rows refuses is refused, and else they are those of the
-- list's tree, for which there are class records enough.
use Rattle.std.proofs.Common.{arith}
use Rattle.std.proofs.lemmas.Result.{err_from_is_err_and}
use Rattle.preparing.specs.MadeFor.{told_tree, told_classed, told_prepared, told_refused}
use Rattle.marks.proofs.WorksLaws.{works_refused}
use Rattle.marks.proofs.mark_in_rows.Goals as goal

pub whole_as_slice-prepare_for : goal.whole_as_slice-prepare_for
whole_as_slice-prepare_for g c = omega (arith, c.requires.words_few)

pub returns-in_err-counts : goal.returns-in_err-counts
returns-in_err-counts g c =
    let p = err_from_is_err_and c.from_residual.result c.from_residual.ensures.1 in
    rw (p.1, p.2) (works_refused _ c.args.work (told_refused c.in_err-counts.ensures))

pub shared_whole_as_slice-mark_by : goal.shared_whole_as_slice-mark_by
shared_whole_as_slice-mark_by g c = omega (arith, c.requires.words_few)

pub returns : goal.returns
returns g c =
    let made = c.in_ok-counts.ensures in
    let known = told_tree made in
    c.mark_by.ensures c.args.list.now known.tree (told_prepared made known.tree known.is_good) known.is_good
    (told_classed made known.tree known.is_good)
