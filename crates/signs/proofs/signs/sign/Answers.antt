-- `signs::signs::sign` meets its contract: a `*` in both syntaxes, and the second syntax has its own signs.
use Rattle.signs.specs.OneSign.{star_sign}
use Rattle.signs.proofs.signs.sign.Goals as goal

pub returns-then-expr-at-eq42-clause-answer : goal.returns-then-expr-at-eq42-clause-answer
returns-then-expr-at-eq42-clause-answer c =
    star_sign c.requires.within c.if-expr-at-eq42.true c.args.notes.now.few c.put_note.ensures.written
