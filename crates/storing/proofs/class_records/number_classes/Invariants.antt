-- The loop's invariant: the labels before the one at hand are numbered.
use Rattle.checker.specs.ClassStore.{LabelsNumbered}
use Rattle.storing.proofs.class_records.number_classes.Given as goal

abbrev pub invariant-loop-label : goal.invariant-loop-label
invariant-loop-label l =
    LabelsNumbered l.initial.labels l.labels l.label-index l.k
