-- `reader::read` meets its contract: it reads by the first syntax.
use Rattle.std.proofs.Common.{◌∙◌}
use Rattle.std.proofs.lemmas.Result.{err_from_is_err_and}
use Rattle.reader.specs.LabelsStored.{read_refused, read_stored}
use Rattle.reader.proofs.read.Goals as goal

pub returns-in_err-counts : goal.returns-in_err-counts
returns-in_err-counts c =
    let p = err_from_is_err_and c.from_residual.result c.from_residual.ensures.1 in
    let a = c.in_err-counts.ensures in
    let r = read_refused c.in_err-counts.field-0.0 a.0 in
    record { answer = rw (p.1, p.2) r.answer; buffer = a.1 ∙ r.buffer }

pub returns : goal.returns
returns c =
    let s = c.in_ok-counts.ensures in
    let r = read_stored s.read s.few s.fits s.stored s.put in
    record { answer = r.answer; buffer = r.buffer }
