-- What `read` answers and what it leaves in the buffer, by the table of refusals.
use Rattle.std.specs.Prelude.{ℕ, ◌*◌, cond, List, ◌++◌, length, drop, ltb, Result, Ok, Err}
use Rattle.language.specs.Tree.{Tree, nodes}
use Rattle.tree.specs.Limits.{most_pieces}
use Rattle.tree.specs.RefusalNumbers.{too_many_pieces, buffer_too_short}
use Rattle.tree.specs.Layout.{record_size}
use Rattle.tree.specs.Leaf.{Leaf}
use Rattle.tree.specs.Records.{encode, piece_count}
use Rattle.tree.specs.Places.{with_places}
use Rattle.operands.specs.Bytes.{first}
use Rattle.operands.specs.Scanner.{Outcome, tree, refused}
use Rattle.checker.specs.Expanded.{expanded}
use Rattle.checker.specs.Drawn.{drawn}
use Rattle.reader.specs.PlacesIn.{places_in}
use Rattle.tree.specs.Refusing.{refusal_number}
use Rattle.tree.specs.declared.refusal.Refused.{Refused}
use Rattle.reader.specs.declared.answer.Read.{Read}

-- the numbers given back: the refusal's number, 0 for none, and its place; the counts of records and pieces
pub record ReadNumbers : Type 0 where
  pub refusal : ℕ
  pub place : ℕ
  pub records : ℕ
  pub pieces : ℕ

-- a refusal answers its number and place, and counts of 0
abbrev pub refusing_read : (number place : ℕ) → ReadNumbers
refusing_read number place = record { refusal = number; place = place; records = 0; pieces = 0 }

-- the records of t are written
abbrev pub reading : Tree Leaf → ReadNumbers
reading t = record { refusal = 0; place = 0; records = nodes t; pieces = piece_count t }

-- the numbers that each case of an answer gives back
abbrev pub read_numbers : Result Read Refused → ReadNumbers
read_numbers (Ok read) = record { refusal = 0; place = 0; records = read.records; pieces = read.pieces }
read_numbers (Err fault) = refusing_read (refusal_number fault.refusal) fault.place

-- so many records were written, with so many pieces
abbrev pub read_as : (records pieces : ℕ) → Result Read Refused
read_as records pieces = Ok (record { records = records; pieces = pieces })

-- what is answered for an expression's outcome, with a buffer of `room` bytes: 8 where the cut has more than 128
-- pieces, then 9 where the buffer is shorter than the records
abbrev pub answer_for : Outcome (Tree Leaf) → (room : ℕ) → ReadNumbers
answer_for (refused number place) room = refusing_read number place
answer_for (tree t) room =
    cond (ltb most_pieces (piece_count t)) (refusing_read too_many_pieces 0)
    (cond (ltb room (record_size * nodes t)) (refusing_read buffer_too_short 0) (reading t))

-- what the buffer holds afterwards: the records with these places, and past them what it held; the same as before where
-- the expression is refused
abbrev pub buffer_for : (places : List ℕ) → Outcome (Tree Leaf) → List ℕ → List ℕ
buffer_for places (refused number place) buffer = buffer
buffer_for places (tree t) buffer =
    cond (ltb most_pieces (piece_count t)) buffer
    (cond (ltb (length buffer) (record_size * nodes t)) buffer
    (with_places places (encode t) ++ drop (record_size * nodes t) buffer))

-- what `read` answers for these bytes and a buffer of this length
abbrev pub read_answered : List ℕ → (room : ℕ) → ReadNumbers
read_answered bytes room = answer_for (drawn (expanded first bytes)) room

-- what `read` leaves in the buffer
abbrev pub records_after : List ℕ → List ℕ → List ℕ
records_after bytes buffer = buffer_for (places_in first bytes) (drawn (expanded first bytes)) buffer
