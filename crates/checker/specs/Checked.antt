-- What a check answers, with no buffer lent: the first refusal, or the counts.
use Rattle.std.specs.Prelude.{ℕ, Bool, cond, List, ltb, Result, Ok, Err}
use Rattle.language.specs.Tree.{Tree, nodes}
use Rattle.tree.specs.RefusalNumbers.{too_many_pieces}
use Rattle.tree.specs.Refusing.{refusal_number}
use Rattle.tree.specs.declared.refusal.Refused.{Refused}
use Rattle.tree.specs.declared.counted.Counts.{Counts}
use Rattle.tree.specs.Limits.{most_pieces}
use Rattle.tree.specs.Records.{piece_count}
use Rattle.operands.specs.Bytes.{Syntax}
use Rattle.operands.specs.Scanner.{Atom, Outcome, tree, refused}
use Rattle.checker.specs.Expanded.{expanded}
use Rattle.checker.specs.Drawn.{classes_in, recorded}

-- the numbers given back: the refusal's number, 0 for none, and its place; the counts of records, pieces and classes
pub record CountedNumbers : Type 0 where
  pub refusal : ℕ
  pub place : ℕ
  pub records : ℕ
  pub pieces : ℕ
  pub classes : ℕ

-- a refusal answers its number and place, and counts of 0
abbrev pub refusing_counts : (number place : ℕ) → CountedNumbers
refusing_counts number place = record { refusal = number; place = place; records = 0; pieces = 0; classes = 0 }

-- t is counted
abbrev pub counting : Tree Atom → CountedNumbers
counting t =
    record {
      refusal = 0;
      place = 0;
      records = nodes (recorded t);
      pieces = piece_count (recorded t);
      classes = classes_in t;
    }

-- the numbers that each case of an answer gives back
abbrev pub counted_numbers : Result Counts Refused → CountedNumbers
counted_numbers (Ok counts) =
    record { refusal = 0; place = 0; records = counts.records; pieces = counts.pieces; classes = counts.classes }
counted_numbers (Err fault) = refusing_counts (refusal_number fault.refusal) fault.place

-- these are counted
abbrev pub counted_as : (records pieces classes : ℕ) → Result Counts Refused
counted_as records pieces classes = Ok (record { records = records; pieces = pieces; classes = classes })

-- the cut of the tree has more than 128 pieces
abbrev pub too_many : Tree Atom → Bool
too_many t = ltb most_pieces (piece_count (recorded t))

-- what is counted for an expression's outcome: 8 where the cut has more than 128 pieces, else the counts
abbrev pub checked_for : Outcome (Tree Atom) → CountedNumbers
checked_for (refused number place) = refusing_counts number place
checked_for (tree t) = cond (too_many t) (refusing_counts too_many_pieces 0) (counting t)

-- what a check answers for these bytes, with no buffer lent
abbrev pub checked : Syntax → List ℕ → CountedNumbers
checked syntax bytes = checked_for (expanded syntax bytes)
