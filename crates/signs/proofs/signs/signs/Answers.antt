-- `signs::signs::signs` meets its contract.
use Rattle.std.proofs.Common.{◌∙◌, arith}
use Rattle.std.proofs.lemmas.Result.{err_from_is_err_and}
use Rattle.operands.specs.Bytes.{syntax_of}
use Rattle.operands.specs.Reading.{OneSign}
use Rattle.signs.specs.OneSign.{breaks_there, all_read, none_noted, one_more, found}
use Rattle.signs.proofs.signs.signs.Goals as goal
use Rattle.signs.proofs.signs.signs.Goals.{In_ok-next}

-- what the reader of one sign found at the loop's place
one_read : (c : In_ok-next)
    → OneSign (syntax_of c.args.syntax) c.args.notes.now.places c.args.expr.now c.args.begin c.loop-place.place
    c.loop-place.notes.count c.loop-place.notes.numbers.now c.in_ok-next.next c.sign.new.notes.count
    c.sign.new.notes.numbers.now
one_read c = rw (← c.loop-place.invariant.2) c.in_ok-next.ensures.answer

pub returns-in_err-next-clause-answer : goal.returns-in_err-next-clause-answer
returns-in_err-next-clause-answer c =
    let p = err_from_is_err_and c.from_residual.result c.from_residual.ensures.1 in
    rw (p.1, p.2)
    (breaks_there c.loop-place.invariant.3 (rw c.loop-place.invariant.2 at c.in_err-next.ensures.answer))

pub loop-place-smaller : goal.loop-place-smaller
loop-place-smaller c =
    let f = found (one_read (goal.at.loop-place-smaller c).In_ok-next) c.if-next-place.false in
    omega (arith, f.further, f.within)

pub loop-place-preserved : goal.loop-place-preserved
loop-place-preserved c =
    let o = one_read (goal.at.loop-place-preserved c).In_ok-next in
    let f = found o c.if-next-place.false in (
      f.within,
      omega (arith, c.loop-place.invariant.1, f.grown),
      c.sign.ensures.kind ∙ c.loop-place.invariant.2,
      one_more c.loop-place.invariant.3 o c.if-next-place.false,
      c.sign.ensures.same_buffer ∙ c.loop-place.invariant.4,
      c.sign.ensures.same_length ∙ c.loop-place.invariant.5,
    )

pub returns-then-next-place-clause-answer : goal.returns-then-next-place-clause-answer
returns-then-next-place-clause-answer c =
    let none = one_read (goal.at.returns-then-next-place-clause-answer c).In_ok-next in
    rw (none_noted none c.if-next-place.true) (all_read c.loop-place.invariant.3 none c.if-next-place.true)
