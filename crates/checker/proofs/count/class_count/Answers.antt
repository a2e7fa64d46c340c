-- `checker::count::class_count` meets its contract.
use Rattle.std.proofs.Common.{◌≡◌, [], ◌∷◌, get_or, rules}
use Rattle.checker.specs.Relabelled.{class_labels}
use Rattle.checker.specs.ClassStore.{next_label_counted}
use Rattle.checker.proofs.count.class_count.Goals as goal

pub loop-label-preserved : goal.loop-label-preserved
loop-label-preserved c =
    let l = c.loop-label in
    let one : c.from-count.result ≡ class_labels (get_or c.args.labels.now l.label-index 0 ∷ []) = search rules in
    next_label_counted l.invariant c.loop-label-test.true one
