-- A good list is that of a cut tree whose pieces are small, so its rows can be made.
use Rattle.std.specs.Prelude.{ℕ, ◌+◌, ◌*◌, ◌-◌, ◌/◌, ◌≤◌, ◌<◌, ◌≡◌, refl, List, [], ◌++◌, length, get_or}
use Rattle.std.proofs.Common.{sym, ap, subst, ◌∙◌, append-nil, arith, length-append, get_or-append-add}
use Rattle.std.proofs.Math.ListN.{get_or-append}
use Rattle.language.specs.Tree.{Tree, nodes}
use Rattle.language.specs.Nested.{Nested, leaf, catenation, union, star, below, own}
use Rattle.tree.specs.Leaf.{Leaf, character, class, empty_text}
use Rattle.tree.specs.Limits.{most_pieces, most_records, most_states}
use Rattle.tree.specs.Layout.{record_size}
use Rattle.tree.specs.Records.{Good, piece_count, class_numbers, class_count}
use Rattle.tree.specs.Parts.{Small, EveryBelow}
use Rattle.tree.specs.PlacesLaws.{length_bare}
use Rattle.tree.specs.Stored.{stored}
use Rattle.deciding.specs.Judged.{CountsBelow}
use Rattle.tree.specs.Pieces.{cut_up, stated, good_small, good_tells}
use Rattle.tables.specs.Words.{width, run}
use Rattle.tables.specs.Plan.{row_size}
use Rattle.tables.specs.Tables.{Prepared, Roomy}
use Rattle.tables.specs.Standing.{
  here,
  size,
  size_positive,
  length_stored,
  NotStandIn,
  Sound,
  most_leaves,
  LowNumbers,
}
use Rattle.tables.specs.declared.fill.Tables.{Tables}
use Rattle.tables.specs.Filling.{tables}
use Rattle.planning.specs.Below.{Top, slot_below}
use Rattle.planning.specs.Making.{made_none, made_planned, Making, making_at, Total}

-- two states for each node of a piece's own tree
pub width_own : (x : Nested Leaf) → width x ≡ 2 * nodes (own x)
width_own (leaf a) = refl
width_own (catenation x y) = omega (arith, width_own x, width_own y)
width_own (union x y) = omega (arith, width_own x, width_own y)
width_own (star x) = omega (arith, width_own x)
width_own (below x) = refl

-- a small piece has at most 62 states
pub small_narrow : (x : Nested Leaf) → Small x → width x ≤ most_states
small_narrow x small = omega (arith, width_own x, small.few_own_nodes)

-- its root is a node
small_plain : (x : Nested Leaf) → Small x → NotStandIn x
small_plain (leaf a) small = tt
small_plain (catenation x y) small = tt
small_plain (union x y) small = tt
small_plain (star x) small = tt
small_plain (below x) small = omega (arith, small.some_node)

-- below each stand-in stands a small piece
small_sound : (x : Nested Leaf) → EveryBelow Small x → Sound x
small_sound (leaf a) h = tt
small_sound (catenation x y) h = (small_sound x h.0, small_sound y h.1)
small_sound (union x y) h = (small_sound x h.0, small_sound y h.1)
small_sound (star x) h = small_sound x h
small_sound (below x) h = (small_plain x h.0, small_narrow x h.0, small_sound x h.1)

-- each class leaf is a leaf, and of n nodes at most (n + 1) / 2 are leaves
few_classes : (t : Tree Leaf) → 2 * class_count t ≤ nodes t + 1
few_classes (Tree.leaf (character c)) = omega arith
few_classes (Tree.leaf (class k)) = omega arith
few_classes (Tree.leaf empty_text) = omega arith
few_classes (Tree.catenation s t) = simp length-append (omega (arith, few_classes s, few_classes t))
few_classes (Tree.union s t) = simp length-append (omega (arith, few_classes s, few_classes t))
few_classes (Tree.star s) = omega (arith, few_classes s)

-- all numbers of a list are low
abbrev AllLow : List ℕ → Type 0
AllLow l = (j : ℕ) → j < length l → get_or l j 0 < most_leaves

-- so are those of its parts
low_first : (l m : List ℕ) → AllLow (l ++ m) → AllLow l
low_first l m low j inside =
    rw (get_or-append l m 0 j inside) at (low j (simp length-append (omega arith)))

low_second : (l m : List ℕ) → AllLow (l ++ m) → AllLow m
low_second l m low j inside =
    rw (get_or-append-add l m j 0) at (low (length l + j) (simp length-append (omega arith)))

-- and those of the leaves of a tree are where those of its class leaves are
leaves_low : (t : Tree Leaf) → AllLow (class_numbers t) → LowNumbers t
leaves_low (Tree.leaf (character c)) low = tt
leaves_low (Tree.leaf (class k)) low = low 0 (omega arith)
leaves_low (Tree.leaf empty_text) low = tt
leaves_low (Tree.catenation s t) low =
    (leaves_low s (low_first (class_numbers s) _ low), leaves_low t (low_second (class_numbers s) _ low))
leaves_low (Tree.union s t) low =
    (leaves_low s (low_first (class_numbers s) _ low), leaves_low t (low_second (class_numbers s) _ low))
leaves_low (Tree.star s) low = leaves_low s low

-- class numbers are ranks, and there are at most 1,920 nodes
low_numbers : {list : List ℕ} {t : Tree Leaf} → Good list t → LowNumbers t
low_numbers {list} {t} good =
    leaves_low t (λ j inside. omega (arith, good.ranked.each j inside, few_classes t, good_small list t good))

-- the list of a good list's tree, cut up
pub good_top : {list : List ℕ} {t : Tree Leaf} → Good list t → Top list (cut_up t)
good_top {list} {t} good =
    let x = cut_up t in
    let told = good_tells list t good in
    let small = told.cut.every_small in
    record {
      of_tree = t;
      good = good;
      cut = refl;
      fine = record {
        written = record {
          before = [];
          after = [];
          parts = told.bytes_stored ∙ sym (append-nil (stored x 0 0 1));
          begins = refl;
        };
        later = omega arith;
        few = omega arith;
        low = omega (arith, told.few_pieces);
        narrow = omega (arith, small_narrow x small.0);
        short = omega (arith, ap nodes told.cut.same_tree, good_small list t good);
        sound = small_sound x small.1;
        numbers = subst LowNumbers (sym told.cut.same_tree) (low_numbers good);
      };
      plain = small_plain x small.0;
      all = sym (length_bare list) ∙ ap length told.bytes_stored ∙ length_stored x 0 0 1;
    }

-- the list is good
pub record GoodList (list : List ℕ) : Type 0 where
  pub some : Tree Leaf
  pub good : Good list some

-- the list is good, and deciding on it has left the measures of its tree and the number of its pieces
pub record DecidedGood (list cuts : List ℕ) (pieces : ℕ) : Type 0 where
  pub some : Tree Leaf
  pub good : Good list some
  pub counted : CountsBelow list cuts
  pub cuts_room : length list / record_size < length cuts
  pub pieces_are : pieces ≡ piece_count some

-- the last record is the root's
last_root : {list : List ℕ} {x : Nested Leaf} → Top list x → length list / record_size - 1 + 1 ≡ size x
last_root {x = x} top = omega (arith, top.all, size_positive x)

-- so its slot has the number of all pieces but the root's
root_slot : {list cuts : List ℕ} {x : Nested Leaf} → Top list x → CountsBelow list cuts
    → get_or cuts (length list / record_size - 1 + 1) 0 ≡ run x
root_slot top counted = slot_below top counted here top.plain _ (last_root top ∙ omega arith)

module _ {list cuts : List ℕ} {pieces : ℕ} (known : DecidedGood list cuts pieces) where
  -- the tree that deciding has found
  known_top : Top list (cut_up known.some)
  known_top = good_top known.good

  -- the list has a record at least, and not too many
  pub has_records : (1 ≤ length list / record_size) × (length list / record_size ≤ most_records)
  has_records = omega (arith, last_root known_top, known_top.all, known_top.fine.short)

  -- whatever tree the list is that of, it has this number of pieces
  pub total_of : Total list pieces
  total_of = record {
    counts_all = λ x top.
        omega (
          arith,
          known.pieces_are,
          (stated known.some).all_pieces,
          root_slot known_top known.counted,
          root_slot top known.counted,
        );
  }

-- before the first piece
pub making_none : {list cuts codes stands roots rows : List ℕ} {pieces : ℕ}
    → DecidedGood list cuts pieces → Roomy pieces rows → length codes ≡ row_size → length stands ≡ most_pieces
    → length roots ≡ most_pieces → get_or roots 0 0 ≡ length list / record_size - 1
    → Making list cuts 0 (tables codes stands roots) rows
making_none {rows = rows} known roomy codes-room stands-room roots-room first =
    let total = total_of known in
    record {
      listed = record { some = cut_up known.some; top = good_top known.good };
      counted = known.counted;
      cuts_room = known.cuts_room;
      room = λ x top. record {
        of_codes = omega arith;
        of_stands = omega (arith, stands-room, top.fine.low);
        of_roots = omega (arith, roots-room, top.fine.low);
      };
      rows_room = λ x top. omega (arith, roomy, total.counts_all x top);
      so_far = λ x top. made_none x _ rows (omega (arith, last_root top));
    }

-- after the last
pub prepared : {list cuts rows : List ℕ} {t : Tables} {total : ℕ} → Making list cuts total t rows → Total list total
    → (tree : Tree Leaf) → Good list tree → Prepared tree rows total
prepared making all tree good =
    let top = good_top good in
    let count = all.counts_all (cut_up tree) top in
    record {
      planned = made_planned ((making_at making count).so_far (cut_up tree) top);
      counted = count ∙ (stated tree).all_pieces;
      few = good.few;
    }
