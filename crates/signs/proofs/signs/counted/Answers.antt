-- `signs::signs::counted` meets its contract: the count that is found makes an operand of what was read, and where
-- none is found the refusal is at its `{`.
use Rattle.std.proofs.Common.{sym}
use Rattle.std.proofs.lemmas.Result.{err_from_is_err_and}
use Rattle.counts.specs.CountReading.{CountAnswer}
use Rattle.signs.specs.OneSign.{bad_count, count_sign}
use Rattle.signs.proofs.Asked.{found_so, none_so}
use Rattle.signs.proofs.signs.counted.Goals as goal

pub returns-in_err-found-clause-answer : goal.returns-in_err-found-clause-answer
returns-in_err-found-clause-answer c =
    let p = err_from_is_err_and c.from_residual.result c.from_residual.ensures.1 in
    let lost = none_so (CountAnswer c.args.expr.now c.args.at) c.count.result (sym c.in_err-found.ensures.value)
    c.count.ensures in
    rw (p.1, p.2, lost.1) (bad_count c.requires.within c.requires.brace lost.0.fails)

pub returns-clause-answer : goal.returns-clause-answer
returns-clause-answer c =
    count_sign c.requires.within c.requires.brace
    (found_so (CountAnswer c.args.expr.now c.args.at) c.count.result _ (sym c.in_ok-found.ensures.value) c.count.ensures)
    c.times.ensures.turned
