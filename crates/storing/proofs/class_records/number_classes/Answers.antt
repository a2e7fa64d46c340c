-- `storing::class_records::number_classes` meets its contract: a class label gets the number, another label stays.
use native.Mathlib.Omega.{arith}
use Rattle.std.proofs.lemmas.List.{set-get_or}
use Rattle.checker.specs.ClassStore.{next_numbered, class_label_numbered, other_label_numbered, number_le}
use Rattle.storing.proofs.class_records.number_classes.Goals as goal
use Rattle.storing.proofs.class_records.number_classes.Goals.{then-label-eq-CLASS_LABEL, else-label-eq-CLASS_LABEL}

pub class_label-requires : goal.class_label-requires
class_label-requires c =
    omega (arith, number_le c.loop-label.invariant (omega arith), c.requires)

pub loop-label-preserved : goal.loop-label-preserved
loop-label-preserved c =
    let l = c.loop-label in
    let h = c.loop-label-test.true in
    elim c.if-label-eq-CLASS_LABEL.branch [
      | then-label-eq-CLASS_LABEL w ↦ rw (w.labels-is, w.k-is, w.class_label.ensures)
          (next_numbered l.invariant h
          (class_label_numbered (omega (arith, w.if-label-eq-CLASS_LABEL.true))))
      | else-label-eq-CLASS_LABEL w ↦ rw (w.labels-is, w.k-is, set-get_or)
          (next_numbered l.invariant h
          (other_label_numbered (λ e. w.if-label-eq-CLASS_LABEL.false (omega (arith, e)))))
    ]
