-- The loop's invariant: the class labels before the one at hand are counted.
use Rattle.checker.specs.ClassStore.{ClassLabelsCounted}
use Rattle.checker.proofs.count.class_count.Given as goal

abbrev pub invariant-loop-label : goal.invariant-loop-label
invariant-loop-label l = ClassLabelsCounted l.labels l.label-index l.count
