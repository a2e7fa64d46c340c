-- `closing::close::close_after` meets its contract: at the end the word is compared with 0.
use Rattle.std.proofs.Common.{ℕ, ◌*◌, ◌%◌, ◌^◌, ◌∙◌, ap, get_or, add-zero}
use Rattle.tables.specs.Plan.{row_words}
use Rattle.closing.specs.Passes.Closing.{passing_none, passing_more, fewer_left, closed_by_passes}
use Rattle.closing.proofs.close.close_after.Goals as goal

pub loop-closed-init : goal.loop-closed-init
loop-closed-init c = passing_none c.run_on-closed.ensures

pub loop-closed-smaller : goal.loop-closed-smaller
loop-closed-smaller c = let loop = c.loop-closed in fewer_left loop.left loop.closed c.loop-closed-test.true

pub loop-closed-preserved : goal.loop-closed-preserved
loop-closed-preserved c =
    passing_more c.loop-closed.invariant c.targets.ensures c.run_on-closed-in-loop-closed.ensures

pub returns-clause-closes_after : goal.returns-clause-closes_after
returns-clause-closes_after c =
    let row = c.args.row in
    let on_read = c.word-on.ensures ∙ ap (λ (n : ℕ). get_or row.rows.now n 0) (add-zero (row_words * row.piece)) in
    closed_by_passes _ _ _ _ _ _ _ _ (ap (λ (n : ℕ). n % 2 ^ 63) on_read) c.word-jumps.ensures
    c.loop-closed.invariant c.loop-closed-test.false
