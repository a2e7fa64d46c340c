-- `reader::store::store` meets its contract: the tree is measured and counted; 8, then 9, then 15; else the class
-- records are written by the places, the labels are numbered, and the records are written by what was measured.
use Rattle.std.proofs.Common.{refl, arith}
use Rattle.checker.specs.ClassStore.{labels_placed}
use Rattle.checker.specs.Relabelled.{class_labels_le}
use Rattle.reader.specs.LabelsStored.{no_room, no_class_room, postorder_numbered, measured_again}
use Rattle.reader.proofs.store.store.Goals as goal

pub returns-then-records-counts : goal.returns-then-records-counts
returns-then-records-counts c =
    (no_room c.in_ok-counts.ensures.counted c.if-records-counts.true refl, refl, refl)

pub overflow_mul-counts-2 : goal.overflow_mul-counts-2
overflow_mul-counts-2 c =
    omega (arith, c.in_ok-counts.ensures.sizes, class_labels_le c.args.labels.now, c.requires.few)

pub returns-then-classes-counts : goal.returns-then-classes-counts
returns-then-classes-counts c = (
  no_class_room c.in_ok-counts.ensures.counted c.if-records-counts.false c.if-classes-counts.true refl,
  refl,
  refl,
)

pub store_classes-requires-clause-placed : goal.store_classes-requires-clause-placed
store_classes-requires-clause-placed c =
    rw c.requires.same (labels_placed c.args.expr.now c.requires.read c.requires.placed)

pub write_records-requires-clause-postorder : goal.write_records-requires-clause-postorder
write_records-requires-clause-postorder c = postorder_numbered c.requires c.number_classes.ensures

pub write_records-requires-clause-measured : goal.write_records-requires-clause-measured
write_records-requires-clause-measured c =
    measured_again c.requires c.number_classes.ensures c.number_classes.auto.labels
    c.in_ok-counts.ensures.measured
