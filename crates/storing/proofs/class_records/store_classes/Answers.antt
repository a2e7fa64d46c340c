-- `storing::class_records::store_classes` meets its contract: a class label's record is stored, of another label none.
use mathlib.Core.Path.{refl}
use native.Mathlib.Omega.{arith}
use Rattle.checker.specs.ClassStore.{next_stored, class_label_stored, other_label_stored, class_placed, class_room, stored_few}
use Rattle.storing.proofs.class_records.store_classes.Goals as goal
use Rattle.storing.proofs.class_records.store_classes.Goals.{then-label-eq-CLASS_LABEL, else-label-eq-CLASS_LABEL}

pub store_class-requires-clause-here : goal.store_class-requires-clause-here
store_class-requires-clause-here c =
    rw c.from.ensures
    (class_placed c.args.expr.now c.args.labels.now c.loop-label.label-index c.requires.placed c.loop-label-test.true
    (omega (arith, c.if-label-eq-CLASS_LABEL.true)))

pub store_class-requires-clause-room : goal.store_class-requires-clause-room
store_class-requires-clause-room c =
    let l = c.loop-label in
    omega (
      arith,
      l.auto.classes,
      class_room l.invariant c.loop-label-test.true _ refl c.requires.room
          (omega (arith, c.if-label-eq-CLASS_LABEL.true)),
    )

pub overflow_add-k : goal.overflow_add-k
overflow_add-k c =
    omega (arith, stored_few c.loop-label.invariant c.loop-label-test.true, c.requires.few)

pub loop-label-preserved : goal.loop-label-preserved
loop-label-preserved c =
    let l = c.loop-label in
    let h = c.loop-label-test.true in
    elim c.if-label-eq-CLASS_LABEL.branch [
      | then-label-eq-CLASS_LABEL w ↦ rw (w.classes-is, w.k-is)
          (next_stored l.invariant h
          (class_label_stored (omega (arith, w.if-label-eq-CLASS_LABEL.true))
          (rw w.from.ensures at w.store_class.ensures)))
      | else-label-eq-CLASS_LABEL w ↦ rw (w.classes-is, w.k-is)
          (next_stored l.invariant h (other_label_stored (λ e. w.if-label-eq-CLASS_LABEL.false (omega (arith, e)))))
    ]
