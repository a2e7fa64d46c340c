-- The check and the write agree: what is written answers as the check does, or 9, or 15 after it, and that exactly
-- where the check refuses nothing and a buffer is short.
use Rattle.std.specs.Prelude.{ℕ, ◌*◌, ◌≡◌, cond, eqb, ltb}
use Rattle.tree.specs.RefusalNumbers.{buffer_too_short, class_buffer_too_short}
use Rattle.tree.specs.Layout.{record_size, class_record_size}
use Rattle.reader.specs.Answer.{ReadNumbers, refusing_read}
use Rattle.checker.specs.Checked.{CountedNumbers, refusing_counts}

-- the numbers of the first reader's answer: a check's, but for the classes, of which it has none
abbrev pub without_classes : CountedNumbers → ReadNumbers
without_classes n =
    record { refusal = n.refusal; place = n.place; records = n.records; pieces = n.pieces }

-- what storing makes of a check's answer: a refusal stays, else 9 where the records do not fit
abbrev pub after_check : CountedNumbers → (room : ℕ) → ReadNumbers
after_check n room =
    cond (eqb n.refusal 0)
    (cond (ltb room (record_size * n.records)) (refusing_read buffer_too_short 0) (without_classes n))
    (without_classes n)

-- and for the second reader 15 after it, where the class records do not fit
abbrev pub after_second_check : CountedNumbers → (room class_room : ℕ) → CountedNumbers
after_second_check n room class_room =
    cond (eqb n.refusal 0)
    (cond (ltb room (record_size * n.records)) (refusing_counts buffer_too_short 0)
    (cond (ltb class_room (class_record_size * n.classes)) (refusing_counts class_buffer_too_short 0) n))
    n

-- no check gives 9 or 15
pub record Bufferless (number : ℕ) : Type 0 where
  pub no_nine : number ≡ buffer_too_short → ⊥
  pub no_fifteen : number ≡ class_buffer_too_short → ⊥
