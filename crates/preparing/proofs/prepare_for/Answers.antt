-- `preparing::prepare_for` meets its contract: each of its answers fits what deciding on the list has told.
use Rattle.std.proofs.Common.{subst, Option, Some, arith}
use Rattle.std.proofs.lemmas.Result.{err_from_is_err_and}
use Rattle.tree.specs.declared.counted.Counts.{Counts}
use Rattle.preparing.specs.Made.{PreparedList}
use Rattle.preparing.specs.MadeFor.{ready_for, few_for, not_good_for}
use Rattle.preparing.proofs.prepare_for.Goals as goal
use Rattle.preparing.proofs.prepare_for.Goals.{In_ok-counts}

-- what was decided of the list and made in the rows, where it is good
made : (c : In_ok-counts) → PreparedList c.args.list.now (Some c.in_ok-counts.counts) c.prepare_list.new.rows
made c =
    subst (λ (answer : Option Counts). PreparedList c.args.list.now answer c.prepare_list.new.rows)
    c.in_ok-counts.ensures.ok_part c.prepare_list.ensures

pub returns-in_err-counts : goal.returns-in_err-counts
returns-in_err-counts c =
    let p = err_from_is_err_and c.from_residual.result c.from_residual.ensures.1 in
    rw (p.1, p.2) (not_good_for c.prepare_list.result c.prepare_list.ensures c.in_err-counts.ensures.value)

pub returns-then-classes-counts : goal.returns-then-classes-counts
returns-then-classes-counts c = record {
  fits = few_for c.in_ok-counts.counts (made (goal.at.returns-then-classes-counts c).In_ok-counts)
      (omega (arith, c.if-classes-counts.true));
}

pub returns : goal.returns
returns c =
    ready_for c.in_ok-counts.counts (made (goal.at.returns c).In_ok-counts) (omega (arith, c.if-classes-counts.false))
