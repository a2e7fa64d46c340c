-- What deciding on a list and making its rows promises: the rows are those of the list's tree, where it is good.
use Rattle.std.specs.Prelude.{ℕ, ◌+◌, ◌*◌, ◌/◌, ◌≤◌, ◌<◌, ◌≡◌, List, Option, None, Some, length}
use Rattle.std.proofs.Common.{subst, arith}
use Rattle.language.specs.Tree.{Tree}
use Rattle.tree.specs.Leaf.{Leaf}
use Rattle.tree.specs.Limits.{few_slots, some_slots}
use Rattle.tree.specs.Layout.{record_size}
use Rattle.tree.specs.Records.{piece_count, Good}
use Rattle.tree.specs.Bounds
use Rattle.tree.specs.Lengths.{nodes_positive}
use Rattle.deciding.specs.Judged.{GoodWith, Judged, CountsBelow, RoomToDecide}
use Rattle.deciding.specs.DecideLaws.{good_length}
use Rattle.tree.specs.declared.counted.Counts.{Counts}
use Rattle.planning.specs.Given.{DecidedGood, good_top}
use Rattle.tables.specs.Plan.{row_words}
use Rattle.tables.specs.Tables.{Prepared, Roomy, Ready}
use Rattle.stepping.specs.Inner.{small_table_pieces, half_table_pieces}

-- there is room for the pieces of the list's tree, where the list is good
pub record RoomFor (list rows : List ℕ) : Type 0 where
  pub room : (t : Tree Leaf) → Good list t → Roomy (piece_count t) rows

-- the rows are those of the tree of a list that is decided to be good, with room for its pieces
abbrev pub FitsRows : List ℕ → Option Counts → (rows : List ℕ) → Type 0
FitsRows list (Some counts) rows = Roomy counts.pieces rows
    × ((t : Tree Leaf) → Good list t → Prepared t rows counts.pieces)
FitsRows list None rows = Unit {0}

-- what was decided fits the list; and where it is good, the rows are those of its tree
pub record PreparedList (list : List ℕ) (answer : Option Counts) (rows : List ℕ) : Type 0 where
  pub judged : Judged list answer
  pub rows_fits : FitsRows list answer rows

-- so it is once it is made
pub prepared_list : {list rows : List ℕ} {answer : Option Counts} {counts : Counts} → answer ≡ Some counts
    → Judged list answer
    → FitsRows list (Some counts) rows
    → PreparedList list (Some counts) rows
prepared_list {list} e judged made = record { judged = subst (Judged list) e judged; rows_fits = made }

module _ {list rows : List ℕ} {answer : Option Counts} {counts : Counts}
    (made : PreparedList list answer rows) (e : answer ≡ Some counts) where
  -- the list has a tree with these counts
  pub told_tree : GoodWith list counts.records counts.pieces counts.classes
  told_tree = (subst (Judged list) e made.judged).fits

  -- the rows are those of whatever tree the list is that of
  pub told_prepared : (t : Tree Leaf) → Good list t → Prepared t rows counts.pieces
  told_prepared = (subst (λ (a : Option Counts). PreparedList list a rows) e made).rows_fits.1

  -- and is ready
  pub told_ready : Ready rows counts.pieces
  told_ready = record {
    roomy = (subst (λ (a : Option Counts). PreparedList list a rows) e made).rows_fits.0;
    of_tree = (told_tree.tree, told_prepared told_tree.tree told_tree.is_good);
  }

-- a list of few records has few pieces, and one of some records some
bounded : (list : List ℕ) (t : Tree Leaf) → Good list t → 8 * piece_count t ≤ length list / record_size + 7
unfolding piece_count
bounded list t is_good = omega (arith, good_length list t is_good, nodes_positive t, Bounds.few_pieces t)

pub few_records : (list : List ℕ) → length list / record_size < few_slots → (t : Tree Leaf) → Good list t
    → piece_count t ≤ small_table_pieces
few_records list short t is_good = omega (arith, bounded list t is_good)

pub some_records : (list : List ℕ) → length list / record_size < some_slots → (t : Tree Leaf) → Good list t
    → piece_count t ≤ half_table_pieces
some_records list short t is_good = omega (arith, bounded list t is_good)

-- rows for so many pieces has room for the list's
pub room_for : {list rows : List ℕ} (most : ℕ) → ((t : Tree Leaf) → Good list t → piece_count t ≤ most)
    → row_words * most ≤ length rows → RoomFor list rows
room_for most bound room = record { room = λ t is_good. omega (arith, bound t is_good) }

-- the list is good, and its tree is measured
pub told_good : {list before cuts : List ℕ} (counts : Counts) → Judged list (Some counts) → CountsBelow list cuts
    → RoomToDecide list before → length cuts ≡ length before → DecidedGood list cuts counts.pieces
told_good counts judged below room same =
    let top = good_top judged.fits.is_good in
    record {
      some = judged.fits.tree;
      good = judged.fits.is_good;
      counted = below;
      cuts_room = omega (arith, room.for_slots (omega (arith, top.all, top.fine.short)), same);
      pieces_are = judged.fits.pieces_are;
    }
