-- `making::make_table` meets its contract: the rows that are made are those of the list's tree, and the answer is that of
-- this tree.
use Rattle.std.proofs.Common.{refl}
use Rattle.std.proofs.lemmas.Result.{err_from_is_err_and}
use Rattle.preparing.specs.MadeFor.{told_tree, told_classed, told_prepared}
use Rattle.making.specs.Promise.{refused}
use Rattle.making.proofs.Told.{told_refused, told_answer}
use Rattle.making.proofs.make_table.Goals as goal

pub returns-in_err-counts : goal.returns-in_err-counts
returns-in_err-counts c =
    let p = err_from_is_err_and c.from_residual.result c.from_residual.ensures.1 in
    rw (p.1, p.2) (refused (told_refused c.in_err-counts.ensures.fits) refl refl)

pub returns : goal.returns
returns c =
    let known = told_tree c.in_ok-counts.ensures in
    told_answer c.tabulate.result (record {
      t = known.tree;
      good = known.is_good;
      classed = told_classed c.in_ok-counts.ensures known.tree known.is_good;
      holds = c.tabulate.ensures known.tree (told_prepared c.in_ok-counts.ensures known.tree known.is_good);
    })
