-- The loop's invariant: the class records of the labels before the one at hand are stored.
use Rattle.checker.specs.ClassStore.{ClassesStored}
use Rattle.storing.proofs.class_records.store_classes.Given as goal

abbrev pub invariant-loop-label : goal.invariant-loop-label
invariant-loop-label l =
    ClassesStored l.expr l.labels l.initial.classes l.classes l.label-index l.k
