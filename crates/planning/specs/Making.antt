-- The rows while they are made, piece by piece in the order of the pieces' numbers.
use Rattle.std.specs.Prelude.{ℕ, ◌+◌, ◌*◌, ◌-◌, ◌/◌, ◌%◌, ◌≤◌, ◌<◌, ◌≡◌, refl, List, length, get_or, set}
use Rattle.std.proofs.Common.{sym, ap, subst, ◌∙◌, inl, arith, length-set, get_or-set_same, get_or-set_other}
use Rattle.std.proofs.Math.Decide.{dec_lt}
use Rattle.language.specs.Nested.{Nested, leaf, catenation, union, star, below}
use Rattle.tree.specs.Leaf.{Leaf}
use Rattle.tree.specs.Limits.{most_pieces, most_states}
use Rattle.tree.specs.Layout.{record_size}
use Rattle.deciding.specs.Judged.{CountsBelow}
use Rattle.tables.specs.Words.{width, run}
use Rattle.tables.specs.Plan.{
  row_size,
  row_words,
  word_of,
  stand_of,
  codes_of,
  RowOf,
  PieceAt,
  ChildrenAt,
  Planned,
}
use Rattle.tables.specs.Tables.{Roomy}
use Rattle.tables.specs.Entries.{
  Lies,
  ends,
  entry,
  lies_is,
  lies_append,
  lies_same,
  fronts,
  codes_fronts,
  length_fronts,
  wide,
}
use Rattle.tables.specs.Standing.{size, Site, site, piece, start_number, Child, catenation_left, catenation_right, union_left, union_right, operand, under, In, here, step, in_child, NotStandIn, Fine, in_fine, StandIn, stand_in, stand_in_reaches, in_reaches, one_stand_in, piece_below}
use Rattle.tables.specs.declared.fill.Tables.{Tables}
use Rattle.tables.specs.Filling.{
  tables,
  TablesRoom,
  SameLengths,
  StandInPlaced,
  SamePlace,
  PartFilled,
  still_placed,
}
use Rattle.tables.specs.Walking.{
  Sits,
  sits,
  PieceBounds,
  bounds,
  VisitedWithin,
  SiteVisited,
  SiteVisitable,
  filled_ends,
  room_kept,
}
use Rattle.packing.specs.Packing.{Packable, Packed}
use Rattle.planning.specs.Below.{Top, Listed, slot_below}
use Rattle.planning.specs.Coded.{low_leaves, code_entry, codes_packable, row_kept, piece_kept}

-- what lies below what lies below a site
in_in : {s t u : Site} → In s t → In t u → In s u
in_in here m = m
in_in (step c l) m = step c (in_in l m)

-- the whole tree stands at the first record, in the piece 0
abbrev pub whole_site : Nested Leaf → Site
whole_site x = site x 0 0 1 0

-- y is the tree of the piece n with the child pieces below it, and its records begin at f
pub data Head (x : Nested Leaf) : (y : Nested Leaf) (f n : ℕ) → Type 0 where
  root : Head x x 0 0
  child : {y : Nested Leaf} {f p n i : ℕ} → In (whole_site x) (site (below y) f p n i) → Head x y f n

-- the top of a piece
abbrev pub head_site : Nested Leaf → (f n : ℕ) → Site
head_site y f n = site y f n (n + 1) 0

-- a piece's top lies in the whole tree
pub head_in : {x y : Nested Leaf} {f n : ℕ} → Head x y f n → In (whole_site x) (head_site y f n)
head_in root = here
head_in (child m) = in_child m under

-- the piece k of x
pub record PieceOf (x : Nested Leaf) (k : ℕ) : Type 0 where
  pub top : Nested Leaf
  pub begin : ℕ
  pub head : Head x top begin k

-- each number below their count is that of a piece
pub piece_of : (x : Nested Leaf) (k : ℕ) → k < 1 + run x → PieceOf x k
piece_of x k low =
    elim (dec_lt 0 k) [
      | yes h ↦ let found = piece_below x 0 0 1 0 k (omega arith) (omega arith) in record {
        top = found.top;
        begin =
            found.begin;
        head = child found.inside;
      }
      | no h ↦ subst (PieceOf x) (omega arith) (record { top = x; begin = 0; head = root })
    ]

-- the piece in which a site is
pub record Owner (x : Nested Leaf) (u : Site) : Type 0 where
  pub top : Nested Leaf
  pub begin : ℕ
  pub head : Head x top begin (piece u)
  pub inside : In (head_site top begin (piece u)) u

-- a child is in its parent's piece, or is the top of its own
child_owner : {x : Nested Leaf} {s t : Site} → Child s t → Owner x s → Owner x t
child_owner catenation_left o =
    record { top = o.top; begin = o.begin; head = o.head; inside = in_child o.inside catenation_left }
child_owner catenation_right o =
    record { top = o.top; begin = o.begin; head = o.head; inside = in_child o.inside catenation_right }
child_owner union_left o =
    record { top = o.top; begin = o.begin; head = o.head; inside = in_child o.inside union_left }
child_owner union_right o =
    record { top = o.top; begin = o.begin; head = o.head; inside = in_child o.inside union_right }
child_owner operand o = record { top = o.top; begin = o.begin; head = o.head; inside = in_child o.inside operand }
child_owner under o = record { top = _; begin = _; head = child (in_in (head_in o.head) o.inside); inside = here }

in_owner : {x : Nested Leaf} {s t : Site} → In s t → Owner x s → Owner x t
in_owner here o = o
in_owner (step c m) o = in_owner m (child_owner c o)

-- each site is in a piece
pub owner : {x : Nested Leaf} {u : Site} → In (whole_site x) u → Owner x u
owner {x} m = in_owner m (record { top = x; begin = 0; head = root; inside = here })

-- the pieces of x up to k have been made: their rows are there, and where their child pieces stand is known
pub record PiecesMade (x : Nested Leaf) (k : ℕ) (t : Tables) (rows : List ℕ) : Type 0 where
  pub rooted : get_or t.roots 0 0 + 1 ≡ size x
  pub placed : (u : Site) (n : ℕ) → In (whole_site x) u → StandIn u n → piece u < k → StandInPlaced t u n
  pub each_row : {y : Nested Leaf} {f n : ℕ} → Head x y f n → n < k → PieceAt rows y n
  pub stood : (u : Site) (n : ℕ) → In (whole_site x) u → StandIn u n → n < k → stand_of rows n ≡ start_number u

-- the root's record of a piece whose parent has been made
head_root : {list : List ℕ} {x y : Nested Leaf} {f n : ℕ} {t : Tables} {rows : List ℕ} → Top list x
    → PiecesMade x n t rows → Head x y f n → get_or t.roots n 0 + 1 ≡ f + size y
head_root top made root = made.rooted ∙ omega arith
head_root top made (child m) = (made.placed _ _ m stand_in (in_fine m top.fine).later).root

-- a stand-in is in an earlier piece than the one it stands for
stand_in_later : {list : List ℕ} {room n : ℕ} {u : Site} → Fine list room u → StandIn u n → piece u < n
stand_in_later fine stand_in = fine.later

-- so the top of the piece sits at that record
pub head_sits : {list : List ℕ} {x y : Nested Leaf} {f n : ℕ} {t : Tables} {rows : List ℕ} → Top list x
    → PiecesMade x n t rows → Head x y f n → Sits list (1 + run x) (get_or t.roots n 0) n 0 (head_site y f n)
head_sits top made head = sits (in_fine (head_in head) top.fine) (head_root top made head)

-- a piece's top is a node
head_plain : {list : List ℕ} {x y : Nested Leaf} {f n : ℕ} → Top list x → Head x y f n → NotStandIn y
head_plain top root = top.plain
head_plain top (child m) = (in_fine m top.fine).sound.0

-- nothing has been made yet
pub made_none : (x : Nested Leaf) (t : Tables) (rows : List ℕ) → get_or t.roots 0 0 + 1 ≡ size x
    → PiecesMade x 0 t rows
made_none x t rows e = record {
  rooted = e;
  placed = λ u n m s low. absurd (omega arith);
  each_row = λ head low. absurd (omega arith);
  stood = λ u n m s low. absurd (omega arith);
}

-- the codes when a piece has been walked and the code of its accepting state set
abbrev pub closed_codes : Tables → (last : ℕ) → List ℕ
closed_codes t last = set t.codes (last - 1) 0

-- the tables then
abbrev pub closed_row : Tables → (last : ℕ) → Tables
closed_row t last = tables (closed_codes t last) t.stands t.roots

module _ {list : List ℕ} {x : Nested Leaf} (top : Top list x) (k : ℕ) (inside : k < 1 + run x) {t after : Tables}
    (full : TablesRoom (1 + run x) after) {rows : List ℕ} (made : PiecesMade x k t rows)
    {last : ℕ} (done : VisitedWithin list (1 + run x) (get_or t.roots k 0) k 0 t after last) where
  -- the walk has made the codes of the piece k
  filled : {y : Nested Leaf} {f : ℕ} → Head x y f k → PartFilled (head_site y f k) t after last
  filled head = done _ (head_sits top made head)

  -- there is a piece k
  this : PieceOf x k
  this = piece_of x k inside

  this_filled : PartFilled (head_site this.top this.begin k) t after last
  this_filled = filled this.head

  -- a stand-in of a piece made before keeps its place
  still : (u : Site) (n : ℕ) → In (whole_site x) u → StandIn u n → piece u < k → SamePlace t after n
  still u n m s low =
      this_filled.others n (λ v own.
      let same : u ≡ v = one_stand_in m (in_in (head_in this.head) own.inside) s own.stands_for in
      omega (arith, ap piece same, own.same_piece))

  -- the stand-ins in the piece k have their places now
  placed_more : (u : Site) (n : ℕ) → In (whole_site x) u → StandIn u n → piece u < k + 1 → StandInPlaced after u n
  placed_more u n m s low =
      elim (dec_lt (piece u) k) [
        | yes h ↦ still_placed (made.placed u n m s h) (still u n m s h)
        | no h ↦
            let same : piece u ≡ k = omega arith in
            let own = owner m in
            let at : Head x own.top own.begin k = subst (Head x own.top own.begin) same own.head in
            let inside_u : In (head_site own.top own.begin k) u =
            subst (λ (p : ℕ). In (head_site own.top own.begin p) u) same own.inside in
            (filled at).placed u n (record { inside = inside_u; stands_for = s; same_piece = same })
      ]

  -- the root's record stays
  rooted_more : get_or after.roots 0 0 + 1 ≡ size x
  rooted_more =
      let same = this_filled.others 0
      (λ v own. omega
      (arith, in_reaches (in_in (head_in this.head) own.inside) (stand_in_reaches own.stands_for))) in
      ap (λ (n : ℕ). n + 1) same.root ∙ made.rooted

  -- the codes of the piece k are those of its tree
  codes_this : {y : Nested Leaf} {f : ℕ} → Head x y f k → Lies (closed_codes after last) 0 (codes_of y 0 0)
  codes_this {y} {f} head =
      let part = filled head in
      let e = part.ended in
      let long = length_fronts y 0 in
      let broad = wide y in
      let small = (in_fine (head_in head) top.fine).narrow in
      let room = full.of_codes in
      let front : Lies (closed_codes after last) 0 (fronts y 0) =
      lies_same (closed_codes after last) part.front
      (λ j low high. get_or-set_other after.codes (last - 1) j 0 0 (λ same. omega arith)) in
      lies_is (lies_append front (entry (get_or-set_same after.codes (last - 1) 0 0 (omega arith)) ends)
      (omega arith)) (sym (codes_fronts y 0 0))

  -- so they can be packed
  pub packable_this : ((j : ℕ) → get_or list j 0 < 256) → Packable (closed_codes after last) last
  packable_this bytes =
      let fine = in_fine (head_in this.head) top.fine in
      let narrow = fine.narrow in
      let e = this_filled.ended in
      codes_packable this.top (low_leaves this.top fine bytes) (omega arith)
      (simp length-set full.of_codes) (codes_this this.head) (omega arith)

  module _ {r : ℕ} (counted : (y : Nested Leaf) (f : ℕ) → Head x y f k → r ≡ run y) {packed : List ℕ}
      (row : Packed (closed_codes after last) rows packed k last (r + 1) (get_or after.stands k 0)) where
    -- the row of the piece k is that of its tree
    row_this : {y : Nested Leaf} {f : ℕ} → Head x y f k → PieceAt packed y k
    row_this {y} {f} head =
        let narrow = (in_fine (head_in head) top.fine).narrow in
        let e = (filled head).ended in
        let as_wide : RowOf packed (closed_codes after last) k (width y) =
        subst (λ (n : ℕ). RowOf packed (closed_codes after last) k n) (omega arith) row.row in
        record {
          coded = row_kept packed packed (closed_codes after last) (codes_of y 0 0) k (width y) (omega arith)
              (λ j low. refl) (λ i low. sym (code_entry y (codes_this head) i low)) as_wide;
          ran = row.ran ∙ omega (arith, counted y f head);
          topped = row.topped ∙ omega arith;
        }

    -- the words of the rows before it stay
    word_before : (n j : ℕ) → n < k → j < row_words → word_of packed n j ≡ word_of rows n j
    word_before n j low small = row.others (row_words * n + j) (inl (omega arith))

    -- so those pieces are told of as they were
    row_before : {y : Nested Leaf} {f n : ℕ} → Head x y f n → n < k → PieceAt packed y n
    row_before {y} {f} {n} head low =
        let narrow = (in_fine (head_in head) top.fine).narrow in
        piece_kept rows packed y n (omega arith) (λ j. word_before n j low) (made.each_row head low)

    -- where the stand-in of the piece k is was known from its parent
    stood_this : (u : Site) → In (whole_site x) u → StandIn u k → stand_of packed k ≡ start_number u
    stood_this u m s =
        let earlier = stand_in_later (in_fine m top.fine) s in
        row.stood ∙ (still u k m s earlier).stand ∙ (made.placed u k m s earlier).stand

    -- one piece more
    pub made_more : PiecesMade x (k + 1) (closed_row after last) packed
    made_more = record {
      rooted = rooted_more;
      placed = λ u n m s low. still_placed (placed_more u n m s low) (record { stand = refl; root = refl });
      each_row = λ {y} {f} {n} head low. elim (dec_lt n k) [
        | yes h ↦ row_before head h
        | no h ↦ let same : k ≡ n = omega arith in
            subst (PieceAt packed y) same (row_this (subst (Head x y f) (sym same) head))
      ];
      stood = λ u n m s low. elim (dec_lt n k) [
        | yes h ↦ ap (λ (w : ℕ). w / 256 % 256) (word_before n 4 h (omega arith)) ∙ made.stood u n m s h
        | no h ↦ let same : k ≡ n = omega arith in
            subst (λ (j : ℕ). stand_of packed j ≡ start_number u) same
            (stood_this u m (subst (StandIn u) (sym same) s))
      ];
    }

-- when all pieces have been made, the rows are those that are wanted
module _ {x : Nested Leaf} {t : Tables} {rows : List ℕ} (made : PiecesMade x (1 + run x) t rows) where
  -- a piece's number is below their count
  head_low : {y : Nested Leaf} {f n : ℕ} → Head x y f n → n < 1 + run x
  head_low root = omega arith
  head_low (child {y = y} {f = f} {p = p} {n = n} {i = i} m) =
      let itself : StandIn (site (below y) f p n i) n = stand_in in
      omega (arith, in_reaches m (stand_in_reaches itself))

  -- the rows tell of the child pieces below each site
  children_told : (y : Nested Leaf) {f p n i : ℕ} → In (whole_site x) (site y f p n i) → ChildrenAt rows y i n
  children_told (leaf a) m = tt
  children_told (catenation y z) m =
      (children_told y (in_child m catenation_left), children_told z (in_child m catenation_right))
  children_told (union y z) m = (children_told y (in_child m union_left), children_told z (in_child m union_right))
  children_told (star y) m = children_told y (in_child m operand)
  children_told (below y) m = (
    made.stood _ _ m stand_in (head_low (child m)),
    made.each_row (child m) (head_low (child m)),
    children_told y (in_child m under),
  )

  pub made_planned : Planned rows x
  made_planned = (made.each_row root (head_low root), children_told x here)

-- the rows of the list are being made, and have been made for the pieces up to k
pub record Making (list cuts : List ℕ) (k : ℕ) (t : Tables) (rows : List ℕ) : Type 0 where
  pub listed : Listed list
  pub counted : CountsBelow list cuts
  pub cuts_room : length list / record_size < length cuts
  pub room : (x : Nested Leaf) → Top list x → TablesRoom (1 + run x) t
  pub rows_room : (x : Nested Leaf) → Top list x → Roomy (1 + run x) rows
  pub so_far : (x : Nested Leaf) → Top list x → PiecesMade x k t rows

-- k is the number of a piece
pub record PieceNumber (list : List ℕ) (k : ℕ) : Type 0 where
  pub below_count : (x : Nested Leaf) → Top list x → k < 1 + run x

-- what walking the piece k needs, and what it makes
module _ {list cuts : List ℕ} {k : ℕ} {t : Tables} {rows : List ℕ} (making : Making list cuts k t rows)
    (inside : PieceNumber list k) where
  -- the piece k of the tree that the list has
  the_top : Top list making.listed.some
  the_top = making.listed.top

  the_piece : PieceOf making.listed.some k
  the_piece = piece_of making.listed.some k (inside.below_count _ the_top)

  the_sits : Sits list (1 + run making.listed.some) (get_or t.roots k 0) k 0
      (head_site the_piece.top the_piece.begin k)
  the_sits = head_sits the_top (making.so_far _ the_top) the_piece.head

  the_room : TablesRoom (1 + run making.listed.some) t
  the_room = making.room _ the_top

  -- what its walk needs
  pub piece_ready : SiteVisitable list (get_or t.roots k 0) k 0 t
  piece_ready = record { room = _; some = _; sitting = the_sits; full = the_room }

  pub piece_within : PieceBounds list (1 + run making.listed.some) (get_or t.roots k 0) k 0
  piece_within = bounds the_sits

  -- the root's record can be looked up
  pub root_within : k < length t.roots
  root_within = omega (arith, piece_within.few_pieces, the_room.of_roots)

  -- the number of the pieces below it is known
  piece_runs : (x : Nested Leaf) → Top list x → (y : Nested Leaf) (f : ℕ) → Head x y f k
      → get_or cuts (get_or t.roots k 0 + 1) 0 ≡ run y
  piece_runs x top y f head =
      slot_below top making.counted (head_in head) (head_plain top head) _
      (head_root top (making.so_far x top) head)

  pub piece_few_below : get_or cuts (get_or t.roots k 0 + 1) 0 < most_pieces
  piece_few_below =
      omega (
        arith,
        piece_runs _ the_top _ _ the_piece.head,
        (in_fine (head_in the_piece.head) the_top.fine).few,
        the_top.fine.low,
      )

  module _ {after : Tables} {last : ℕ} (done : SiteVisited list (get_or t.roots k 0) k 0 t after last) where
    -- the walk ends within the row
    pub piece_ends : (2 ≤ last) × (last ≤ most_states)
    piece_ends = omega (arith, filled_ends the_sits (done _ the_room _ the_sits))

    -- and its codes can be packed
    pub piece_packable : SameLengths t after → ((j : ℕ) → get_or list j 0 < 256)
        → Packable (closed_codes after last) last
    piece_packable same bytes =
        packable_this the_top k (inside.below_count _ the_top) (room_kept same the_room) (making.so_far _ the_top)
        (done _ the_room) bytes

    -- then the pieces up to k + 1 have been made
    pub piece_made : SameLengths t after → {packed : List ℕ}
        → Packed (closed_codes after last) rows packed k last (get_or cuts (get_or t.roots k 0 + 1) 0 + 1)
        (get_or after.stands k 0)
        → (x : Nested Leaf) → Top list x → PiecesMade x (k + 1) (closed_row after last) packed
    piece_made same row x top =
        made_more top k (inside.below_count x top) (room_kept same (making.room x top)) (making.so_far x top)
        (done _ (making.room x top)) (piece_runs x top) row

-- all that storing the piece's numbers needs
pub record Storable (k last node count : ℕ) (codes stands rows cuts : List ℕ) : Type 0 where
  pub row_within : row_size ≤ length codes
  pub stand_within : k < length stands
  pub rows_within : row_words * k + row_words ≤ length rows
  pub cut_within : node + 1 < length cuts
  pub two : 2 ≤ last
  pub narrow : last ≤ most_states
  pub small : count < most_pieces

pub piece_storable : {list cuts : List ℕ} {k : ℕ} {t after : Tables} {rows : List ℕ} {last : ℕ}
    → Making list cuts k t rows → PieceNumber list k
    → SiteVisited list (get_or t.roots k 0) k 0 t after last → SameLengths t after
    → Storable k last (get_or t.roots k 0) (get_or cuts (get_or t.roots k 0 + 1) 0) after.codes after.stands rows
    cuts
piece_storable making inside done same =
    let ended = piece_ends making inside done in
    let top = the_top making inside in
    let within = piece_within making inside in
    let room = making.room _ top in
    record {
      row_within = omega (arith, room.of_codes, same.of_codes);
      stand_within = omega (arith, within.few_pieces, room.of_stands, same.of_stands);
      rows_within = omega (arith, within.few_pieces, making.rows_room _ top);
      cut_within = omega (arith, within.listed, making.cuts_room);
      two = ended.0;
      narrow = ended.1;
      small = piece_few_below making inside;
    }

-- the number of the pieces
pub record Total (list : List ℕ) (total : ℕ) : Type 0 where
  pub counts_all : (x : Nested Leaf) → Top list x → total ≡ 1 + run x

-- each number below the count is that of a piece
pub total_inside : {list : List ℕ} {k total : ℕ} → Total list total → k < total → PieceNumber list k
total_inside all low = record { below_count = λ x top. omega (arith, all.counts_all x top) }

-- there are at most 128 pieces
pub total_few : {list : List ℕ} {total : ℕ} → Listed list → Total list total → total ≤ most_pieces
total_few listed all = omega (arith, all.counts_all _ listed.top, listed.top.fine.few, listed.top.fine.low)

-- from one piece to the next
pub making_more : {list cuts : List ℕ} {k : ℕ} {t after : Tables} {rows packed : List ℕ} → Making list cuts k t rows
    → SameLengths t after → length packed ≡ length rows
    → ((x : Nested Leaf) → Top list x → PiecesMade x (k + 1) after packed) → Making list cuts (k + 1) after packed
making_more making same same_rows more =
    record {
      listed = making.listed;
      counted = making.counted;
      cuts_room = making.cuts_room;
      room = λ x top. room_kept same (making.room x top);
      rows_room = λ x top. omega (arith, same_rows, making.rows_room x top);
      so_far = more;
    }

pub making_at : {list cuts : List ℕ} {k j : ℕ} {t : Tables} {rows : List ℕ} → Making list cuts k t rows
    → k ≡ j → Making list cuts j t rows
making_at {list} {cuts} {t = t} {rows = rows} making e = subst (λ (m : ℕ). Making list cuts m t rows) e making
