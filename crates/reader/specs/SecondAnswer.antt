-- What `read_second` answers and what it leaves in the two buffers, by the table of refusals.
use Rattle.std.specs.Prelude.{ℕ, ◌*◌, Bool, cond, List, ◌++◌, length, drop, ltb}
use Rattle.language.specs.Tree.{Tree, nodes}
use Rattle.tree.specs.RefusalNumbers.{too_many_pieces, buffer_too_short, class_buffer_too_short}
use Rattle.tree.specs.Layout.{record_size, class_record_size}
use Rattle.tree.specs.Records.{encode}
use Rattle.tree.specs.Places.{with_places}
use Rattle.operands.specs.Bytes.{second}
use Rattle.operands.specs.Scanner.{Atom, Outcome, tree, refused}
use Rattle.checker.specs.Expanded.{expanded}
use Rattle.checker.specs.Drawn.{classes_of, classes_in, recorded}
use Rattle.reader.specs.PlacesIn.{places_in}
use Rattle.classes.specs.ClassRecord.{encode_classes}
use Rattle.checker.specs.Checked.{CountedNumbers, refusing_counts, counting, too_many}

-- the record buffer is shorter than the records, the class buffer than the class records
abbrev pub too_short : Tree Atom → (room : ℕ) → Bool
too_short t room = ltb room (record_size * nodes (recorded t))

abbrev pub too_few_classes : Tree Atom → (class_room : ℕ) → Bool
too_few_classes t class_room = ltb class_room (class_record_size * classes_in t)

-- of these two the first where nothing of 8, 9 and 15 stands against writing, in this order; else by the number
abbrev pub pick_stored : {A : Type 0} → (many short few : Bool) → (refuses : ℕ → A) → A → A
pick_stored many short few refuses done =
    cond many (refuses too_many_pieces)
    (cond short (refuses buffer_too_short)
    (cond few (refuses class_buffer_too_short) done))

-- what is answered for an expression's outcome, with a record buffer of `room` bytes and a class buffer of
-- `class_room`: 8 where the cut has more than 128 pieces, then 9 where the records do not fit, then 15 where the class
-- records do not
abbrev pub second_answer_for : Outcome (Tree Atom) → (room class_room : ℕ) → CountedNumbers
second_answer_for (refused number place) room class_room = refusing_counts number place
second_answer_for (tree t) room class_room =
    pick_stored (too_many t) (too_short t room) (too_few_classes t class_room) (λ number. refusing_counts number 0)
    (counting t)

-- what the record buffer holds afterwards: the records with these places, and past them what it held; the same as
-- before on a refusal
abbrev pub second_records_for : (places : List ℕ) → Outcome (Tree Atom) → (records classes : List ℕ) → List ℕ
second_records_for places (refused number place) records classes = records
second_records_for places (tree t) records classes =
    pick_stored (too_many t) (too_short t (length records)) (too_few_classes t (length classes)) (λ number. records)
    (with_places places (encode (recorded t)) ++ drop (record_size * nodes (recorded t)) records)

-- what the class buffer holds afterwards: the class records, and past them what it held; the same as before on a
-- refusal
abbrev pub second_classes_for : Outcome (Tree Atom) → (records classes : List ℕ) → List ℕ
second_classes_for (refused number place) records classes = classes
second_classes_for (tree t) records classes =
    pick_stored (too_many t) (too_short t (length records)) (too_few_classes t (length classes)) (λ number. classes)
    (encode_classes (classes_of t) ++ drop (class_record_size * classes_in t) classes)

-- what `read_second` answers for these bytes and buffers of these lengths
abbrev pub second_answered : List ℕ → (room class_room : ℕ) → CountedNumbers
second_answered bytes room class_room = second_answer_for (expanded second bytes) room class_room

-- what `read_second` leaves in the record buffer
abbrev pub second_records_after : List ℕ → (records classes : List ℕ) → List ℕ
second_records_after bytes records classes =
    second_records_for (places_in second bytes) (expanded second bytes) records classes

-- what `read_second` leaves in the class buffer
abbrev pub second_classes_after : List ℕ → (records classes : List ℕ) → List ℕ
second_classes_after bytes records classes = second_classes_for (expanded second bytes) records classes
