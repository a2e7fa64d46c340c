-- What storing the tree of some labels does: it refuses by 8, 9 or 15, or writes the records and the class records; and
-- what the readers then answer.
use Rattle.std.specs.Prelude.{ℕ, ◌≤◌, refl, List, length, take, Result, Ok, Err}
use Rattle.std.proofs.Common.{length-take-le, ◌∙◌}
use Rattle.tree.specs.Limits.{most_labels}
use Rattle.operands.specs.Bytes.{second}
use Rattle.scanner.specs.Expression.{LabelsRead}
use Rattle.checker.specs.Counted.{read_counted}
use Rattle.tree.specs.declared.refusal.Refused.{Refused}
use Rattle.tree.specs.declared.counted.Counts.{Counts}
use Rattle.reader.specs.Store.{SecondAnswer, second_short, second_few, refused_second}
use Rattle.reader.specs.LabelsStored.{NotStored, counted_of, no_class_room, many_pieces, no_room, ReadRefused, by_reading, by_storing, ReaderAnswer, second_stored}

module _ {bytes later : List ℕ} {total : ℕ} (w : LabelsRead second bytes later total) (few : total ≤ most_labels)
    (fits : total ≤ length later) {records classes : List ℕ} where
  -- what `read_second` answers where nothing is stored
  pub second_not_stored : (fault : Refused) → NotStored (take total later) records classes fault
      → SecondAnswer bytes records classes records classes (Err fault)
  second_not_stored fault (many_pieces c) =
      refused_second fault (read_counted (Err fault) w few (take total later) refl (length-take-le total later fits) c)
  second_not_stored fault (no_room c h e) = rw e (second_short (counted_of w few fits c) records classes h)
  second_not_stored fault (no_class_room c r h e) = rw e (second_few (counted_of w few fits c) records classes r h)

-- and where the reading or the storing refuses
pub second_refused : {bytes records classes : List ℕ} (fault : Refused) → ReadRefused second bytes records classes fault
    → SecondAnswer bytes records classes records classes (Err fault)
second_refused fault (by_reading r) = refused_second fault r
second_refused fault (by_storing w few fits n) = second_not_stored w few fits fault n

-- what `read_second` answers is what the reader of its syntax answers
pub second_answered_by : {bytes records classes records' classes' : List ℕ} (r : Result Counts Refused)
    → ReaderAnswer second bytes records classes records' classes' r
    → SecondAnswer bytes records classes records' classes' r
second_answered_by (Ok counts) s = second_stored s.read s.few s.fits s.stored s.put
second_answered_by (Err fault) (refused, same, class_same) =
    let r = second_refused fault refused in
    record {
      answer = r.answer;
      record_buffer = same ∙ r.record_buffer;
      class_buffer = class_same ∙ r.class_buffer;
    }
