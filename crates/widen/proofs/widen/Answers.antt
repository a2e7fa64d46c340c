-- `widen::widen` meets its contract: each refusal has its reason, and nothing is written before the last of them.
use Rattle.std.proofs.Common.{ℕ, ◌*◌, ◌≡◌, ◌++◌, refl, sym, ◌∙◌, subst, drop, Option, Some, arith}
use Rattle.std.proofs.lemmas.Result.{err_from_is_err_and}
use Rattle.tree.specs.Layout.{record_size}
use Rattle.tree.specs.Pieces.{good_small}
use Rattle.tree.specs.declared.counted.Counts.{Counts}
use Rattle.tree.specs.declared.refusal.Refusal.{Refusal}
use Rattle.deciding.specs.Judged.{Judged}
use Rattle.deciding.specs.DecideLaws.{none_refused}
use Rattle.widen.specs.OldLayout.{widened, GoodOld}
use Rattle.widen.specs.OldLayoutLaws.{old_nodes}
use Rattle.widen.specs.Promise.{RefusesToWiden, not_good, too_long}
use Rattle.widen.proofs.widen.Goals as goal
use Rattle.widen.proofs.widen.Goals.{In_ok-counts}

-- what was decided of the wide list, where it is good
decided : (c : In_ok-counts) → Judged (widened c.args.old.now) (Some c.in_ok-counts.counts)
decided c =
    subst (λ (answer : Option Counts). Judged (widened c.args.old.now) answer) c.in_ok-counts.ensures.ok_part
    c.decide_old.ensures

-- its tree is the old list's
good_old : (c : In_ok-counts) → GoodOld c.args.old.now (decided c).fits.tree
good_old c = record { whole = omega (arith, c.if-old-ne0.false); wide = (decided c).fits.is_good }

pub returns-then-old-ne0 : goal.returns-then-old-ne0
returns-then-old-ne0 c =
    record { fits = not_good (record { no_tree = λ t g. omega (arith, g.whole, c.if-old-ne0.true); kept = refl }) }

pub returns-then-old-gt-MOST_RECORDS : goal.returns-then-old-gt-MOST_RECORDS
returns-then-old-gt-MOST_RECORDS c =
    let old = c.args.old.now in
    record {
      fits = not_good (record {
        no_tree = λ t g. omega (arith, old_nodes old t g, good_small (widened old) t g.wide, c.if-old-gt-MOST_RECORDS.true);
        kept = refl;
      });
    }

pub returns-in_err-counts : goal.returns-in_err-counts
returns-in_err-counts c =
    let p = err_from_is_err_and c.from_residual.result c.from_residual.ensures.1 in
    let none = none_refused c.decide_old.result c.decide_old.ensures c.in_err-counts.ensures.value in
    let old = c.args.old.now in
    let before = c.args.records.now in
    rw (p.1, p.2) (record {
      fits = subst (λ (r : Refusal). RefusesToWiden old before before r) none.0
          (not_good (record { no_tree = λ t g. none.1 t g.wide; kept = refl }));
    })

pub overflow_mul-counts : goal.overflow_mul-counts
overflow_mul-counts c =
    let told = (decided (goal.at.overflow_mul-counts c).In_ok-counts).fits in
    omega (arith, told.records_are, good_small _ told.tree told.is_good)

pub returns-then-records-counts : goal.returns-then-records-counts
returns-then-records-counts c =
    let at = (goal.at.returns-then-records-counts c).In_ok-counts in
    let told = (decided at).fits in
    record {
      fits = too_long (record {
        tree = told.tree;
        good = good_old at;
        short = omega (arith, told.records_are, c.if-records-counts.true);
        kept = refl;
      });
    }

pub write_wide-requires : goal.write_wide-requires
write_wide-requires c =
    let at = (goal.at.write_wide-requires c).In_ok-counts in
    let told = (decided at).fits in
    omega (arith, told.records_are, old_nodes _ told.tree (good_old at), c.if-records-counts.false)

pub returns : goal.returns
returns c =
    let at = (goal.at.returns c).In_ok-counts in
    let told = (decided at).fits in
    let same = old_nodes _ told.tree (good_old at) ∙ sym told.records_are in
    let old = c.args.old.now in
    let before = c.args.records.now in
    record {
      fits = record {
        tree = told.tree;
        good = good_old at;
        records_are = told.records_are;
        room = omega (arith, c.if-records-counts.false);
        stored = subst (λ (n : ℕ). c.write_wide.new.out ≡ widened old ++ drop (record_size * n) before) same
            c.write_wide.ensures;
      };
    }
