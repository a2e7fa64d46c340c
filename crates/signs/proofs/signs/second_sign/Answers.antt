-- `signs::signs::second_sign` meets its contract: a `+` or a `?` makes an operand of what was read.
use Rattle.signs.specs.OneSign.{plus_sign, question_sign}
use Rattle.signs.proofs.signs.second_sign.Goals as goal
use Rattle.signs.proofs.signs.second_sign.Goals.{in-43, in-63}

pub returns-clause-answer : goal.returns-clause-answer
returns-clause-answer c =
    elim c.match-expr-at.branch [
      | in-43 w ↦ rw w.notes-is (plus_sign c.requires.within w.in-43.is w.more.ensures.turned)
      | in-63 w ↦ rw w.notes-is (question_sign c.requires.within w.in-63.is w.perhaps.ensures.turned)
    ]
