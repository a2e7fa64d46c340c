-- The parts of every right answer are in range, so unpacking its number gives them back.
use Rattle.std.specs.Prelude.{ℕ, ◌+◌, ◌*◌, ◌/◌, ◌%◌, ◌≤◌, ◌≡◌, refl, Bool, true, false, cond, List, [], ltb, Result, Ok, Err}
use Rattle.std.proofs.Common.{arith, ap, length-append, ltb-false}
use Rattle.language.specs.Tree.{Tree, leaf, catenation, union, star, nodes}
use Rattle.language.specs.Automaton.{States}
use Rattle.tree.specs.RefusalNumbers.{too_many_pieces, buffer_too_short, class_buffer_too_short, too_many_nodes}
use Rattle.tree.specs.declared.refusal.Refusal.{Refusal}
use Rattle.tree.specs.Leaf.{Leaf}
use Rattle.tree.specs.Layout.{record_size}
use Rattle.tree.specs.Limits.{longest_expression, most_records, most_pieces, longest_text}
use Rattle.tree.specs.Records.{piece_count}
use Rattle.tree.specs.Pieces.{nodes_per_piece}
use Rattle.operands.specs.Bytes.{Syntax, first, second}
use Rattle.operands.specs.Scanner.{Atom, literal, one_of, no_text, Outcome, tree, refused}
use Rattle.checker.specs.Expanded.{expanded}
use Rattle.checker.specs.Drawn.{drawn, recorded_from, recorded, classes_in}
use Rattle.checker.specs.ExpandedLaws.{expanded_refusal}
use Rattle.checker.specs.DrawnLaws.{first_drawn_refusal}
use Rattle.reader.specs.Answer.{ReadNumbers, refusing_read, reading, answer_for, read_answered}
use Rattle.checker.specs.Checked.{CountedNumbers, refusing_counts, counting, too_many, checked_for, checked}
use Rattle.reader.specs.SecondAnswer.{
  too_short,
  too_few_classes as lent-too-few,
  pick_stored,
  second_answer_for,
  second_answered,
}
use Rattle.marks.specs.declared.numbers.MarksNumbers.{MarksNumbers}
use Rattle.marks.specs.StepsEach.{
  stay_not_good,
  stay_too_few_classes,
  stay_too_few,
  stay_not_marks,
  stayed,
  StepsEach,
  no_byte,
  one_more,
}
use Rattle.marks.specs.Promise.{
  RefusedUnchanged,
  MarksMade,
  Starts,
  start_not_good,
  start_too_few_classes,
  start_too_few,
  started,
  Steps,
  step_not_good,
  step_too_few_classes,
  step_too_few,
  step_not_marks,
  stepped,
}
use Rattle.finder.specs.declared.numbers.FoundNumbers.{FoundNumbers}
use Rattle.finder.specs.Promise.{
  Refuses,
  not_good,
  too_few_classes,
  too_long,
  MatchAnswers,
  match_refused,
  match_answered,
  SearchAnswers,
  search_refused,
  search_found,
  search_nothing,
}
use Rattle.finder.specs.Decide.{matches}
use Rattle.printing.specs.OutputLimits.{most_output}
use Rattle.reporting.specs.OutputBound.{output_length}
use Rattle.picker.specs.Promise.{Picks}
use Rattle.one_number.specs.Packed.{packed, Ranges, Unpacks}
use Rattle.foamlattice.specs.Promise.{
  read_packed,
  second_packed,
  found_packed,
  marks_packed,
  pick_flag,
  pick_length,
  Matching,
  Searching,
  Starting,
  Stepping,
  SteppingEach,
  Picking,
}

-- parts in range come back
pub unpacks : (r number flag x y : ℕ) → Ranges number flag x y → r ≡ packed number flag x y → Unpacks r number flag x y
unpacks r number flag x y h e = record {
  number_back = omega (arith, h.number_small);
  flag_back = omega (arith, h.number_small, h.flag_small);
  x_back = omega (arith, h.number_small, h.flag_small, h.x_small);
  y_back = omega (arith, h.number_small, h.flag_small, h.x_small);
}

-- the numbers that reading can answer
pub record ReadRanges (n : ReadNumbers) : Type 0 where
  pub refusal_small : n.refusal ≤ buffer_too_short
  pub place_small : n.place ≤ longest_expression
  pub records_small : n.records ≤ most_records
  pub pieces_small : n.pieces ≤ most_pieces

-- by the two tests of an expression that is read: the records have at most 15 nodes for each of at most 128 pieces
picked_ranges : (t : Tree Leaf) (many short : Bool) → ltb most_pieces (piece_count t) ≡ many
    → ReadRanges (cond many (refusing_read too_many_pieces 0)
    (cond short (refusing_read buffer_too_short 0) (reading t)))
picked_ranges t true short e = record {
  refusal_small = omega arith;
  place_small = omega arith;
  records_small =
      omega arith;
  pieces_small = omega arith;
}
picked_ranges t false true e = record {
  refusal_small = omega arith;
  place_small = omega arith;
  records_small =
      omega arith;
  pieces_small = omega arith;
}
picked_ranges t false false e =
    let few : piece_count t ≤ most_pieces = ltb-false most_pieces (piece_count t) e in
    record {
      refusal_small = omega arith;
      place_small = omega arith;
      records_small =
          omega (arith, few, nodes_per_piece t);
      pieces_small = few;
    }

outcome_ranges : (bytes : List ℕ) (room : ℕ) (outcome : Outcome (Tree Leaf)) → drawn (expanded first bytes) ≡ outcome
    → ReadRanges (answer_for outcome room)
outcome_ranges bytes room (refused number place) e =
    let known = first_drawn_refusal bytes number place e in
    record {
      refusal_small = omega (arith, known.most);
      place_small = known.inside;
      records_small = omega arith;
      pieces_small = omega arith;
    }
outcome_ranges bytes room (tree t) e =
    picked_ranges t (ltb most_pieces (piece_count t)) (ltb room (record_size * nodes t)) refl

-- what is answered for any bytes and any buffer
pub answered_ranges : (bytes : List ℕ) (room : ℕ) → ReadRanges (read_answered bytes room)
answered_ranges bytes room = outcome_ranges bytes room (drawn (expanded first bytes)) refl

-- so for numbers that fit the promise
pub read_ranges : (bytes : List ℕ) (room : ℕ) (n : ReadNumbers) → n ≡ read_answered bytes room → ReadRanges n
read_ranges bytes room n e = rw e (answered_ranges bytes room)

-- the numbers that reading in the second syntax can answer
pub record SecondRanges (n : CountedNumbers) : Type 0 where
  pub refusal_small : n.refusal ≤ too_many_nodes
  pub place_small : n.place ≤ longest_expression
  pub records_small : n.records ≤ most_records
  pub pieces_small : n.pieces ≤ most_pieces
  pub classes_small : n.classes ≤ most_records

-- a refusal's counts are 0
refused_counts : (number place : ℕ) → number ≤ too_many_nodes → place ≤ longest_expression
    → SecondRanges (refusing_counts number place)
refused_counts number place small inside = record {
  refusal_small = small;
  place_small = inside;
  records_small = omega arith;
  pieces_small = omega arith;
  classes_small = omega arith;
}

-- there are no more classes than nodes
classes_most : (t : Tree Atom) (next : ℕ) → classes_in t ≤ nodes (recorded_from t next)
classes_most (leaf (literal b)) next = omega arith
classes_most (leaf (one_of class)) next = omega arith
classes_most (leaf no_text) next = omega arith
classes_most (catenation s t) next =
    rw length-append (omega (arith, classes_most s next, classes_most t (next + classes_in s)))
classes_most (union s t) next =
    rw length-append (omega (arith, classes_most s next, classes_most t (next + classes_in s)))
classes_most (star s) next = omega (arith, classes_most s next)

-- by the three tests of an expression that is read
stored_ranges : (t : Tree Atom) (many short few : Bool) → too_many t ≡ many
    → SecondRanges (pick_stored many short few (λ number. refusing_counts number 0) (counting t))
stored_ranges t true short few e = refused_counts too_many_pieces 0 (omega arith) (omega arith)
stored_ranges t false true few e = refused_counts buffer_too_short 0 (omega arith) (omega arith)
stored_ranges t false false true e = refused_counts class_buffer_too_short 0 (omega arith) (omega arith)
stored_ranges t false false false e =
    let pieces : piece_count (recorded t) ≤ most_pieces = ltb-false most_pieces (piece_count (recorded t)) e in
    let records : nodes (recorded t) ≤ most_records = omega (arith, pieces, nodes_per_piece (recorded t)) in
    record {
      refusal_small = omega arith;
      place_small = omega arith;
      records_small = records;
      pieces_small = pieces;
      classes_small = omega (arith, records, classes_most t 0);
    }

-- a refusal by the bytes alone
refused_writing : (syntax : Syntax) (bytes : List ℕ) (number place : ℕ) → expanded syntax bytes ≡ refused number place
    → SecondRanges (refusing_counts number place)
refused_writing syntax bytes number place e =
    let known = expanded_refusal syntax bytes number place e in
    refused_counts number place known.most known.inside

second_outcome : (bytes : List ℕ) (room class_room : ℕ) (outcome : Outcome (Tree Atom))
    → expanded second bytes ≡ outcome
    → SecondRanges (second_answer_for outcome room class_room)
second_outcome bytes room class_room (refused number place) e = refused_writing second bytes number place e
second_outcome bytes room class_room (tree t) e =
    stored_ranges t (too_many t) (too_short t room) (lent-too-few t class_room) refl

-- by the one test of an expression that is checked
counted_ranges : (t : Tree Atom) (many : Bool) → too_many t ≡ many
    → SecondRanges (cond many (refusing_counts too_many_pieces 0) (counting t))
counted_ranges t true e = refused_counts too_many_pieces 0 (omega arith) (omega arith)
counted_ranges t false e = stored_ranges t false false false e

checked_outcome : (syntax : Syntax) (bytes : List ℕ) (outcome : Outcome (Tree Atom)) → expanded syntax bytes ≡ outcome
    → SecondRanges (checked_for outcome)
checked_outcome syntax bytes (refused number place) e = refused_writing syntax bytes number place e
checked_outcome syntax bytes (tree t) e = counted_ranges t (too_many t) refl

-- what a check answers for any bytes
pub checked_ranges : (syntax : Syntax) (bytes : List ℕ) → SecondRanges (checked syntax bytes)
checked_ranges syntax bytes = checked_outcome syntax bytes (expanded syntax bytes) refl

-- what is answered for any bytes and any two buffers
pub second_answered_ranges : (bytes : List ℕ) (room class_room : ℕ)
    → SecondRanges (second_answered bytes room class_room)
second_answered_ranges bytes room class_room =
    second_outcome bytes room class_room (expanded second bytes) refl

-- so for numbers that fit the promise
pub second_ranges : (bytes : List ℕ) (room class_room : ℕ) (n : CountedNumbers)
    → n ≡ second_answered bytes room class_room → SecondRanges n
second_ranges bytes room class_room n e = rw e (second_answered_ranges bytes room class_room)

-- the numbers that match and search can give back: a part found lies in a text of at most 65,536 bytes
pub record FoundRanges (n : FoundNumbers) : Type 0 where
  pub refusal_small : n.refusal ≤ class_buffer_too_short
  pub x_small : n.place + n.start ≤ longest_text
  pub y_small : n.end ≤ longest_text

refused_ranges : {list classes text : List ℕ} {number : ℕ} → Refuses list classes text number
    → number ≤ class_buffer_too_short
refused_ranges (not_good why) = omega arith
refused_ranges (too_few_classes why) = omega arith
refused_ranges (too_long a) = omega arith

pub match_ranges : {list classes text : List ℕ} {n : FoundNumbers} → MatchAnswers list classes text n
    → FoundRanges n
match_ranges (match_refused r) =
    record { refusal_small = refused_ranges r; x_small = omega arith; y_small = omega arith }
match_ranges (match_answered a) = record { refusal_small = omega arith; x_small = omega arith; y_small = omega arith }

pub search_ranges : {list classes text : List ℕ} {n : FoundNumbers} → SearchAnswers list classes text n
    → FoundRanges n
search_ranges (search_refused r) =
    record { refusal_small = refused_ranges r; x_small = omega arith; y_small = omega arith }
search_ranges (search_found a) =
    record {
      refusal_small = omega arith;
      x_small = omega (arith, a.short, a.holds.here.ordered, a.holds.here.inside);
      y_small = omega (arith, a.short, a.holds.here.inside);
    }
search_ranges (search_nothing a) = record { refusal_small = omega arith; x_small = omega arith; y_small = omega arith }

-- the numbers that start and step can give back
pub record MarksRanges (n : MarksNumbers) : Type 0 where
  pub refusal_small : n.refusal ≤ class_buffer_too_short
  pub front : n.place ≡ 0

refused_marks : {number : ℕ} {why : Type 0} {before after : List ℕ} {n : MarksNumbers}
    → number ≤ class_buffer_too_short
    → RefusedUnchanged number why before after n → MarksRanges n
refused_marks small r =
    record {
      refusal_small = rw (ap (λ (n : MarksNumbers). n.refusal) r.refuses) small;
      front = ap (λ (n : MarksNumbers). n.place) r.refuses;
    }

made_marks : {list classes : List ℕ} {X : Tree Leaf → States} {before after : List ℕ} {n : MarksNumbers}
    → MarksMade list classes X before after n → MarksRanges n
made_marks m =
    record {
      refusal_small = rw (ap (λ (n : MarksNumbers). n.refusal) m.marks) (omega arith);
      front = ap (λ (n : MarksNumbers). n.place) m.marks;
    }

pub start_ranges : {list classes before after : List ℕ} {n : MarksNumbers} → Starts list classes before after n
    → MarksRanges n
start_ranges (start_not_good r) = refused_marks (omega arith) r
start_ranges (start_too_few_classes r) = refused_marks (omega arith) r
start_ranges (start_too_few r) = refused_marks (omega arith) r
start_ranges (started m) = made_marks m

pub step_ranges : {list classes : List ℕ} {byte : ℕ} {before after : List ℕ} {n : MarksNumbers}
    → Steps list classes byte before after n → MarksRanges n
step_ranges (step_not_good r) = refused_marks (omega arith) r
step_ranges (step_too_few_classes r) = refused_marks (omega arith) r
step_ranges (step_too_few r) = refused_marks (omega arith) r
step_ranges (step_not_marks r) = refused_marks (omega arith) r
step_ranges (stepped s) = made_marks s.made

pub steps_ranges : {list classes before bytes after : List ℕ} {n : MarksNumbers}
    → StepsEach list classes before bytes after n → MarksRanges n
steps_ranges (no_byte (stay_not_good r)) = refused_marks (omega arith) r
steps_ranges (no_byte (stay_too_few_classes r)) = refused_marks (omega arith) r
steps_ranges (no_byte (stay_too_few r)) = refused_marks (omega arith) r
steps_ranges (no_byte (stay_not_marks r)) = refused_marks (omega arith) r
steps_ranges (no_byte (stayed s)) = made_marks s.made
steps_ranges (one_more each s) = step_ranges s

-- an output has at most 1,048,575 bytes
pub pick_length_small : (input before after : List ℕ) (answer : Result ℕ Refusal) → Picks input before after answer
    → pick_length answer ≤ most_output
pick_length_small input before after (Ok size) right = omega
    (arith, right.sized, output_length (matches []) input)
pick_length_small input before after (Err refusal) right = omega arith

-- a number and a flag of a case are small
pub record SmallCase (number flag : ℕ) : Type 0 where
  pub number_small : number ≤ too_many_nodes
  pub flag_small : flag ≤ 1

small : (number flag : ℕ) → number ≤ too_many_nodes → flag ≤ 1 → SmallCase number flag
small number flag n f = record { number_small = n; flag_small = f }

pub flag_small : (flag : Bool) → cond flag 1 0 ≤ 1
flag_small true = omega arith
flag_small false = omega arith

pick_small : (answer : Result ℕ Refusal) → SmallCase 0 (pick_flag answer)
pick_small (Ok size) = small 0 1 (omega arith) (omega arith)
pick_small (Err refusal) = small 0 0 (omega arith) (omega arith)

-- a small number and flag are in range beside x and y of at most 1,048,575
case_unpacks : (r number flag x y : ℕ) → SmallCase number flag → x ≤ most_output → y ≤ most_output
    → r ≡ packed number flag x y
    → Unpacks r number flag x y
case_unpacks r number flag x y h k l e =
    unpacks r number flag x y
    (record {
      number_small = omega (arith, h.number_small);
      flag_small = omega (arith, h.flag_small);
      x_small =
          omega arith;
      y_small = omega arith;
    }) e

-- the number that reading answers gives its parts back
pub read_unpacks : (bytes : List ℕ) (room r : ℕ) → r ≡ read_packed (read_answered bytes room)
    → Unpacks r (read_answered bytes room).refusal 0
    ((read_answered bytes room).place + (read_answered bytes room).records)
    (read_answered bytes room).pieces
read_unpacks bytes room r e =
    let known = answered_ranges bytes room in
    case_unpacks r _ 0 _ _ (small _ 0 (omega (arith, known.refusal_small)) (omega arith))
    (omega (arith, known.place_small, known.records_small)) (omega (arith, known.pieces_small)) e

-- so does that of reading in the second syntax: y has the pieces below 256, and then the classes
pub second_unpacks : (bytes : List ℕ) (room class_room r : ℕ)
    → r ≡ second_packed (second_answered bytes room class_room)
    → Unpacks r (second_answered bytes room class_room).refusal 0
    ((second_answered bytes room class_room).place + (second_answered bytes room class_room).records)
    ((second_answered bytes room class_room).pieces + 256 * (second_answered bytes room class_room).classes)
second_unpacks bytes room class_room r e =
    let known = second_answered_ranges bytes room class_room in
    case_unpacks r _ 0 _ _ (small _ 0 known.refusal_small (omega arith))
    (omega (arith, known.place_small, known.records_small))
    (omega (arith, known.pieces_small, known.classes_small)) e

-- so does that of a check
pub checked_unpacks : (syntax : Syntax) (bytes : List ℕ) (r : ℕ) → r ≡ second_packed (checked syntax bytes)
    → Unpacks r (checked syntax bytes).refusal 0 ((checked syntax bytes).place + (checked syntax bytes).records)
    ((checked syntax bytes).pieces + 256 * (checked syntax bytes).classes)
checked_unpacks syntax bytes r e =
    let known = checked_ranges syntax bytes in
    case_unpacks r _ 0 _ _ (small _ 0 known.refusal_small (omega arith))
    (omega (arith, known.place_small, known.records_small))
    (omega (arith, known.pieces_small, known.classes_small)) e

-- and y gives both counts back
pub counts_back : (pieces classes y : ℕ) → pieces ≤ most_pieces → y ≡ pieces + 256 * classes
    → (y % 256 ≡ pieces) × (y / 256 ≡ classes)
counts_back pieces classes y few e = (omega arith, omega arith)

-- so does that of a match, of a search, of a start, of a step and of a picking
found_unpacks : (r : ℕ) (n : FoundNumbers) → FoundRanges n → r ≡ found_packed n
    → Unpacks r n.refusal (cond n.matched 1 0) (n.place + n.start) n.end
found_unpacks r n known e =
    case_unpacks r _ _ _ _ (small _ _ (omega (arith, known.refusal_small)) (flag_small n.matched))
    (omega (arith, known.x_small)) (omega (arith, known.y_small)) e

pub matching_unpacks : (list classes text : List ℕ) (r : ℕ) (m : Matching list classes text r)
    → Unpacks r m.numbers.refusal (cond m.numbers.matched 1 0) (m.numbers.place + m.numbers.start)
    m.numbers.end
matching_unpacks list classes text r m = found_unpacks r m.numbers (match_ranges m.right) m.as_number

pub searching_unpacks : (list classes text : List ℕ) (r : ℕ) (m : Searching list classes text r)
    → Unpacks r m.numbers.refusal (cond m.numbers.matched 1 0) (m.numbers.place + m.numbers.start)
    m.numbers.end
searching_unpacks list classes text r m = found_unpacks r m.numbers (search_ranges m.right) m.as_number

marks_unpacks : (r : ℕ) (n : MarksNumbers) → MarksRanges n → r ≡ marks_packed n
    → Unpacks r n.refusal (cond n.accepting 1 0) (n.place + cond n.nothing 1 0) 0
marks_unpacks r n known e =
    case_unpacks r _ _ _ 0 (small _ _ (omega (arith, known.refusal_small)) (flag_small n.accepting))
    (omega (arith, known.front, flag_small n.nothing)) (omega arith) e

pub starting_unpacks : (list classes before after : List ℕ) (r : ℕ) (m : Starting list classes before after r)
    → Unpacks r m.numbers.refusal (cond m.numbers.accepting 1 0)
    (m.numbers.place + cond m.numbers.nothing 1 0) 0
starting_unpacks list classes before after r m = marks_unpacks r m.numbers (start_ranges m.right) m.as_number

pub stepping_unpacks : (list classes : List ℕ) (byte : ℕ) (before after : List ℕ) (r : ℕ)
    (m : Stepping list classes byte before after r)
    → Unpacks r m.numbers.refusal (cond m.numbers.accepting 1 0)
    (m.numbers.place + cond m.numbers.nothing 1 0) 0
stepping_unpacks list classes byte before after r m =
    marks_unpacks r m.numbers (step_ranges m.right) m.as_number

pub stepping_each_unpacks : (list classes before bytes after : List ℕ) (r : ℕ)
    (m : SteppingEach list classes before bytes after r)
    → Unpacks r m.numbers.refusal (cond m.numbers.accepting 1 0)
    (m.numbers.place + cond m.numbers.nothing 1 0) 0
stepping_each_unpacks list classes before bytes after r m =
    marks_unpacks r m.numbers (steps_ranges m.right) m.as_number

pub picking_unpacks : (input before after : List ℕ) (r : ℕ) (m : Picking input before after r)
    → Unpacks r 0 (pick_flag m.answer) (pick_length m.answer) 0
picking_unpacks input before after r m =
    case_unpacks r 0 _ _ 0 (pick_small m.answer) (pick_length_small input before after m.answer m.right)
    (omega arith) m.as_number
