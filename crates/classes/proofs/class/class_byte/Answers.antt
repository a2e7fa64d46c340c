-- `classes::class::class_byte` meets its contract: the byte, or the one after a `\`, is read as the grammar has it.
use mathlib.Core.Path.{sym, ◌∙◌}
use native.Mathlib.Omega.{arith}
use borrow.Author.Tests.{not-true, not-false}
use Rattle.classes.specs.ClassReading.{
  found_bare,
  found_slashed,
  bad_end,
  bad_bare,
  bad_last,
  bad_slash,
  byte_answer,
}
use Rattle.classes.proofs.class.class_byte.Goals as goal

pub returns-in_err-byte : goal.returns-in_err-byte
returns-in_err-byte c =
    rw c.from_residual.ensures (bad_end c.args.expr.now c.args.at c.requires c.in_err-byte.ensures.lookup.3)

pub returns-in_err-escaped : goal.returns-in_err-escaped
returns-in_err-escaped c =
    rw c.from_residual-in_err-escaped.ensures
    (bad_last c.args.expr.now c.args.at c.in_ok-byte.ensures.lookup.3 (omega (arith, c.if-byte-eq92.true))
    c.in_err-escaped.ensures.lookup.3)

pub returns-then-byte-eq92 : goal.returns-then-byte-eq92
returns-then-byte-eq92 c =
    let slash = c.in_ok-byte.ensures.lookup.3 in
    let escaped = c.in_ok-escaped.ensures.lookup.3 in
    rw c.then_some.ensures
    (byte_answer c.must_be_escaped.result _
    (λ e. found_slashed c.args.expr.now c.args.at slash (omega (arith, c.if-byte-eq92.true)) escaped
    (sym c.must_be_escaped.ensures ∙ e))
    (λ e. bad_slash c.args.expr.now c.args.at slash (omega (arith, c.if-byte-eq92.true)) escaped
    (sym c.must_be_escaped.ensures ∙ e)))

pub returns : goal.returns
returns c =
    let byte = c.in_ok-byte.ensures.lookup.3 in
    rw c.then_some-2.ensures
    (byte_answer _ _
    (λ e. found_bare c.args.expr.now c.args.at byte (sym c.must_be_escaped-2.ensures ∙ not-true _ e))
    (λ e. bad_bare c.args.expr.now c.args.at byte c.if-byte-eq92.false
    (sym c.must_be_escaped-2.ensures ∙ not-false _ e)))
