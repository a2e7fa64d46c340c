-- `finder::find_in_rows` meets its contract: what making the rows refuses is refused, then a text that is too long, and
-- else the rows are those of the list's tree.
use Rattle.std.proofs.Common.{arith}
use Rattle.std.proofs.lemmas.Result.{err_from_is_err_and}
use Rattle.preparing.specs.MadeFor.{told_refused}
use Rattle.tree.specs.declared.refusal.Refusal.TheVariants.{TextTooLong}
use Rattle.finder.specs.Finds.{refused_for, refused_long, find_refused, find_found}
use Rattle.finder.proofs.find_in_rows.Goals as goal

pub whole_as_slice-prepare_for : goal.whole_as_slice-prepare_for
whole_as_slice-prepare_for g c = omega (arith, c.requires.words_few)

pub returns-in_err-counts : goal.returns-in_err-counts
returns-in_err-counts g c =
    let p = err_from_is_err_and c.from_residual.result c.from_residual.ensures.1 in
    rw (p.1, p.2) (find_refused _ c.args.sought _ (refused_for _ (told_refused c.in_err-counts.ensures)))

pub returns-then-text-gt-LONGEST_TEXT : goal.returns-then-text-gt-LONGEST_TEXT
returns-then-text-gt-LONGEST_TEXT g c =
    find_refused _ c.args.sought TextTooLong
    (refused_long _ c.in_ok-counts.ensures.fits c.if-text-gt-LONGEST_TEXT.true)

pub shared_whole_as_slice-find_part : goal.shared_whole_as_slice-find_part
shared_whole_as_slice-find_part g c = omega (arith, c.requires.words_few)

pub returns : goal.returns
returns g c =
    find_found _ c.args.sought c.find_part.result c.in_ok-counts.ensures.fits c.if-text-gt-LONGEST_TEXT.false
    c.find_part.ensures
