-- `reader::read_second` meets its contract: it reads by the second syntax.
use Rattle.reader.proofs.LabelsStored.{second_answered_by}
use Rattle.reader.proofs.read_second.Goals as goal

pub returns : goal.returns
returns c =
    let r = second_answered_by c.read_by.result c.read_by.ensures in
    record { answer = r.answer; record_buffer = r.record_buffer; class_buffer = r.class_buffer }
