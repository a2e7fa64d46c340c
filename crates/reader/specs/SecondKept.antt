-- What follows from the promise of `read_second`: its answer is one alone; where it says that the records were written
-- they are a good list of the expression's tree with its class records, and where it refuses no byte of a buffer
-- differs.
use Rattle.std.specs.Prelude.{ℕ, ◌*◌, ◌≤◌, ◌≡◌, List, ◌++◌, length, take, drop}
use Rattle.language.specs.Tree.{Tree, nodes}
use Rattle.tree.specs.Layout.{record_size, class_record_size}
use Rattle.tree.specs.Records.{encode, piece_count, Good}
use Rattle.tree.specs.Places.{with_places}
use Rattle.operands.specs.Bytes.{second}
use Rattle.operands.specs.Scanner.{Atom, tree}
use Rattle.checker.specs.Expanded.{expanded}
use Rattle.checker.specs.Drawn.{classes_of, classes_in, recorded}
use Rattle.classes.specs.ClassRecord.{encode_classes}
use Rattle.reader.specs.PlacesIn.{places_in}

-- what it means that the records were written: the expression has this tree, the counts are the tree's, the records are
-- a good list, and the class records are those of its classes
pub record SecondKept (bytes records-before classes-before records_after classes-after : List ℕ)
    (records pieces classes : ℕ) : Type 0 where
  pub read : Tree Atom
  pub scans : expanded second bytes ≡ tree read
  pub counted : records ≡ nodes (recorded read)
  pub parted : pieces ≡ piece_count (recorded read)
  pub classed : classes ≡ classes_in read
  pub fits : record_size * records ≤ length records-before
  pub class_fits : class_record_size * classes ≤ length classes-before
  pub list : take (record_size * records) records_after
      ≡ with_places (places_in second bytes) (encode (recorded read))
  pub good : Good (take (record_size * records) records_after) (recorded read)
  pub rest : drop (record_size * records) records_after ≡ drop (record_size * records) records-before
  pub class_bytes : classes-after
      ≡ encode_classes (classes_of read) ++ drop (class_record_size * classes) classes-before
