-- What the walk of a piece finds at a record, and what it has filled when it leaves it.
use Rattle.std.specs.Prelude.{ℕ, ◌+◌, ◌*◌, ◌-◌, ◌≤◌, ◌<◌, ◌≡◌, cond, List, length, eqb}
use Rattle.std.proofs.Common.{sym, ap, subst, ◌∙◌, arith}
use Rattle.language.specs.Nested.{Nested, leaf, catenation, union, star, below}
use Rattle.tree.specs.Leaf.{Leaf, character, class, empty_text}
use Rattle.tree.specs.Limits.{most_records, most_states}
use Rattle.tree.specs.Layout.{
  record_size,
  character_kind,
  catenation_kind,
  union_kind,
  star_kind,
  class_kind,
  empty_kind,
  kind_at,
  character_at,
  left_at,
  right_at,
  piece_at,
}
use Rattle.tables.specs.Plan.{row_size, leads_on, leaf_code}
use Rattle.tables.specs.Entries.{wide}
use Rattle.tables.specs.Standing.{
  size,
  size_positive,
  Site,
  site,
  start_number,
  catenation_left,
  catenation_right,
  union_left,
  union_right,
  operand,
  under,
  Fine,
  child_fine,
  leaf_shows,
  catenation_shows,
  union_shows,
  star_shows,
  piece_shows,
  within,
}
use Rattle.tables.specs.declared.fill.Tables.{Tables}
use Rattle.tables.specs.Filling.{cond_equal, cond_different, TablesRoom, SameLengths, PartFilled, start_entry, stand_entries, joined, Joint, catenation_joint, union_joint, fill_leaf, fill_stand, fill_two, fill_star}

-- the site stands in the list, `node` is its root's record, and its start has the number `at` in the piece
pub data Sits (list : List ℕ) (room node : ℕ) : (piece at : ℕ) → Site → Type 0 where
  sits : {x : Nested Leaf} {f p n i : ℕ} → Fine list room (site x f p n i) → node + 1 ≡ f + size x
      → Sits list room node p i (site x f p n i)

-- how far the numbers at a site go
pub record PieceBounds (list : List ℕ) (room node piece at : ℕ) : Type 0 where
  pub listed : record_size * node + record_size ≤ length list
  pub few_nodes : node < most_records
  pub few_pieces : piece < room
  pub narrow : at + 2 ≤ most_states

-- the numbers of a site that sits in the list are within bounds
pub bounds : {list : List ℕ} {node piece at : ℕ} {s : Site} {room : ℕ} → Sits list room node piece at s
    → PieceBounds list room node piece at
bounds (sits {x = x} h e) = record {
  listed = omega (arith, within h);
  few_nodes = omega (arith, h.short);
  few_pieces =
      omega (arith, h.later, h.few);
  narrow = omega (arith, wide x, h.narrow);
}

-- a stand-in's record shows the child piece, which is new
below_shows : {list : List ℕ} {x : Nested Leaf} {f p n i : ℕ} {room : ℕ} → Fine list room (site (below x) f p n i)
    → (node : ℕ)
    → node + 1 ≡ f + size x → piece_at list node ≡ n
below_shows {x = x} h node e = piece_shows x h.sound.0 (child_fine under h) node e

below_differs : {list : List ℕ} {x : Nested Leaf} {f p n i : ℕ} {room : ℕ} → Fine list room (site (below x) f p n i)
    → (node : ℕ)
    → node + 1 ≡ f + size x → piece_at list node ≡ p → ⊥
below_differs h node e same = omega (arith, below_shows h node e, h.later)

-- where the record shows another piece than the walk's, the site is a stand-in
pub visit_stand : {list : List ℕ} {node piece at : ℕ} {s : Site} {room : ℕ} → Sits list room node piece at s
    → (piece_at list node ≡ piece → ⊥) → (t : Tables) → TablesRoom room t
    → PartFilled s t (stand_entries t at (piece_at list node) at node) (at + 2)
visit_stand (sits {x = leaf a} h e) other t full = absurd (other (piece_shows (leaf a) tt h _ e))
visit_stand (sits {x = catenation x y} h e) other t full = absurd (other (piece_shows (catenation x y) tt h _ e))
visit_stand (sits {x = union x y} h e) other t full = absurd (other (piece_shows (union x y) tt h _ e))
visit_stand (sits {x = star x} h e) other t full = absurd (other (piece_shows (star x) tt h _ e))
visit_stand {list} {node} {piece} {at} (sits {x = below x} {f = f} {n = n} h e) other t full =
    subst
    (λ (k : ℕ). PartFilled (site (below x) f piece n at) t (stand_entries t at k at node) (at + 2))
    (sym (below_shows h node e)) (fill_stand h t full node e)

-- the piece that a record shows is one of those that there is room for
pub stand_few : {list : List ℕ} {node piece at : ℕ} {s : Site} {room : ℕ} → Sits list room node piece at s
    → piece_at list node < room
stand_few (sits {x = leaf a} h e) = omega (arith, piece_shows (leaf a) tt h _ e, h.later, h.few)
stand_few (sits {x = catenation x y} h e) = omega (arith, piece_shows (catenation x y) tt h _ e, h.later, h.few)
stand_few (sits {x = union x y} h e) = omega (arith, piece_shows (union x y) tt h _ e, h.later, h.few)
stand_few (sits {x = star x} h e) = omega (arith, piece_shows (star x) tt h _ e, h.later, h.few)
stand_few {node = node} (sits {x = below x} h e) = omega (arith, below_shows h node e, h.few)

-- the code that a record shows: that of its leaf, or 0 where it is not a leaf's
abbrev pub code_at : List ℕ → (node : ℕ) → ℕ
code_at list node = cond (eqb (kind_at list node) character_kind) (4 * (2 * (character_at list node + 1)))
    (cond (eqb (kind_at list node) class_kind) (4 * (2 * left_at list node + 1))
    (cond (eqb (kind_at list node) empty_kind) leads_on 0))

-- the record is in the list, its kind is known, and the number of a class is low
pub record CodeReadable (list : List ℕ) (node kind : ℕ) : Type 0 where
  pub listed : record_size * node + record_size ≤ length list
  pub of_kind : kind ≡ kind_at list node
  pub low : kind ≡ class_kind → left_at list node < most_records

-- a character's code
character_code : (list : List ℕ) (node : ℕ) → kind_at list node ≡ character_kind
    → code_at list node ≡ 4 * (2 * (character_at list node + 1))
character_code list node e = cond_equal (kind_at list node) character_kind _ _ e

-- a class's
class_code : (list : List ℕ) (node : ℕ) → kind_at list node ≡ class_kind
    → code_at list node ≡ 4 * (2 * left_at list node + 1)
class_code list node e =
    cond_different (kind_at list node) character_kind _ _ (λ f. omega arith)
    ∙ cond_equal (kind_at list node) class_kind _ _ e

-- that of the empty text
empty_code : (list : List ℕ) (node : ℕ) → kind_at list node ≡ empty_kind → code_at list node ≡ leads_on
empty_code list node e =
    cond_different (kind_at list node) character_kind _ _ (λ f. omega arith)
    ∙ cond_different (kind_at list node) class_kind _ _ (λ f. omega arith)
    ∙ cond_equal (kind_at list node) empty_kind _ _ e

-- a kind that is no leaf's
pub record NoLeafKind (kind : ℕ) : Type 0 where
  pub no_character : kind ≡ character_kind → ⊥
  pub no_class : kind ≡ class_kind → ⊥
  pub no_empty : kind ≡ empty_kind → ⊥

-- a record of another kind has none
no_code : (list : List ℕ) (node : ℕ) → NoLeafKind (kind_at list node) → code_at list node ≡ 0
no_code list node other =
    cond_different (kind_at list node) character_kind _ _ other.no_character
    ∙ cond_different (kind_at list node) class_kind _ _ other.no_class
    ∙ cond_different (kind_at list node) empty_kind _ _ other.no_empty

-- so it is by the kind that was read
module _ {list : List ℕ} {node kind : ℕ} (readable : CodeReadable list node kind) where
  pub code_of_character : kind ≡ character_kind → code_at list node ≡ 4 * (2 * (character_at list node + 1))
  code_of_character e = character_code list node (sym readable.of_kind ∙ e)

  pub code_of_class : kind ≡ class_kind → code_at list node ≡ 4 * (2 * left_at list node + 1)
  code_of_class e = class_code list node (sym readable.of_kind ∙ e)

  pub code_of_empty : kind ≡ empty_kind → code_at list node ≡ leads_on
  code_of_empty e = empty_code list node (sym readable.of_kind ∙ e)

  pub code_of_none : NoLeafKind kind → code_at list node ≡ 0
  code_of_none other = no_code list node (subst NoLeafKind readable.of_kind other)

-- the code that a leaf's record shows is its own
shown_code : {list : List ℕ} {f p n i : ℕ} {room : ℕ} (a : Leaf) → Fine list room (site (leaf a) f p n i) → (r : ℕ) → r
    + 1 ≡ f + 1
    → code_at list r ≡ leaf_code a
shown_code {list} (character c) h r e =
    let shown = leaf_shows (character c) h r e in
    character_code list r shown.kind_is ∙ ap (λ (d : ℕ). 4 * (2 * (d + 1))) shown.character_is
shown_code {list} (class k) h r e =
    let shown = leaf_shows (class k) h r e in
    class_code list r shown.kind_is ∙ ap (λ (d : ℕ). 4 * (2 * d + 1)) shown.left_is
shown_code {list} empty_text h r e = empty_code list r (leaf_shows empty_text h r e).kind_is

-- and is not 0
coded : (a : Leaf) → leaf_code a ≡ 0 → ⊥
coded (character c) e = omega arith
coded (class k) e = omega arith
coded empty_text e = omega arith

-- nodes with children have such a kind
catenation_no_leaf : NoLeafKind catenation_kind
catenation_no_leaf = record {
  no_character = λ e. omega arith;
  no_class = λ e. omega arith;
  no_empty = λ e.
      omega arith;
}

union_no_leaf : NoLeafKind union_kind
union_no_leaf = record { no_character = λ e. omega arith; no_class = λ e. omega arith; no_empty = λ e. omega arith }

star_no_leaf : NoLeafKind star_kind
star_no_leaf = record { no_character = λ e. omega arith; no_class = λ e. omega arith; no_empty = λ e. omega arith }

-- the record of a node with children shows 0
inner_code : (list : List ℕ) (node kind : ℕ) → kind_at list node ≡ kind → NoLeafKind kind → code_at list node ≡ 0
inner_code list node kind e other = no_code list node (subst NoLeafKind (sym e) other)

-- where it shows a code, the site is a leaf
pub visit_leaf : {list : List ℕ} {node piece at : ℕ} {s : Site} {room : ℕ} → Sits list room node piece at s
    → piece_at list node ≡ piece → (code_at list node ≡ 0 → ⊥) → (t : Tables) → TablesRoom room t
    → PartFilled s t (start_entry t at (code_at list node)) (at + 2)
visit_leaf {list} {node} {piece} {at} (sits {x = leaf a} {f = f} {n = n} h e) own code t full =
    subst (λ (b : ℕ). PartFilled (site (leaf a) f piece n at) t (start_entry t at b) (at + 2))
    (sym (shown_code a h node e)) (fill_leaf h t full)
visit_leaf {list} {node} (sits {x = catenation x y} h e) own code t full =
    absurd (code (inner_code list node _ (catenation_shows h node e).kind_is catenation_no_leaf))
visit_leaf {list} {node} (sits {x = union x y} h e) own code t full =
    absurd (code (inner_code list node _ (union_shows h node e).kind_is union_no_leaf))
visit_leaf {list} {node} (sits {x = star x} h e) own code t full =
    absurd (code (inner_code list node _ (star_shows h node e).kind_is star_no_leaf))
visit_leaf {node = node} (sits {x = below x} h e) own code t full = absurd (below_differs h node e own)

-- the number of a class is low, so that its code can be read
pub visit_class : {list : List ℕ} {node piece at : ℕ} {s : Site} {room : ℕ} → Sits list room node piece at s
    → piece_at list node ≡ piece → kind_at list node ≡ class_kind → left_at list node < most_records
visit_class {node = node} (sits {x = leaf (character c)} h e) own kind =
    absurd (omega (arith, (leaf_shows (character c) h node e).kind_is))
visit_class {node = node} (sits {x = leaf (class k)} h e) own kind =
    omega (arith, (leaf_shows (class k) h node e).left_is, h.numbers)
visit_class {node = node} (sits {x = leaf empty_text} h e) own kind =
    absurd (omega (arith, (leaf_shows empty_text h node e).kind_is))
visit_class {node = node} (sits {x = catenation x y} h e) own kind =
    absurd (omega (arith, (catenation_shows h node e).kind_is))
visit_class {node = node} (sits {x = union x y} h e) own kind = absurd (omega (arith, (union_shows h node e).kind_is))
visit_class {node = node} (sits {x = star x} h e) own kind = absurd (omega (arith, (star_shows h node e).kind_is))
visit_class {node = node} (sits {x = below x} h e) own kind = absurd (below_differs h node e own)

-- the left or only child's site
pub record Kid (list : List ℕ) (room node child piece at : ℕ) : Type 0 where
  pub at_site : Site
  pub sitting : Sits list room child piece at at_site
  pub earlier : child < node

-- a child's site, from what its parent's record shows
left_kid : {list : List ℕ} {x : Nested Leaf} {f p n i node child : ℕ} {room : ℕ} → Fine list room (site x f p n i)
    → child ≡ f + size x - 1 → f + size x ≤ node → Kid list room node child p i
left_kid {x = x} h e low = record {
  at_site = _;
  sitting = sits h (omega (arith, size_positive x));
  earlier =
      omega (arith, size_positive x);
}

-- where the record shows no code, there is a left or only child
pub visit_left : {list : List ℕ} {node piece at : ℕ} {s : Site} {room : ℕ} → Sits list room node piece at s
    → piece_at list node ≡ piece → code_at list node ≡ 0
    → Kid list room node (left_at list node) piece (at + 1)
visit_left {node = node} (sits {x = leaf a} h e) own code = absurd (coded a (sym (shown_code a h node e) ∙ code))
visit_left {node = node} (sits {x = catenation x y} h e) own code =
    left_kid (child_fine catenation_left h) (catenation_shows h node e).left_is (omega arith)
visit_left {node = node} (sits {x = union x y} h e) own code =
    left_kid (child_fine union_left h) (union_shows h node e).left_is (omega arith)
visit_left {node = node} (sits {x = star x} h e) own code =
    left_kid (child_fine operand h) (star_shows h node e).left_is (omega arith)
visit_left {node = node} (sits {x = below x} h e) own code = absurd (below_differs h node e own)

-- what a child's visit has filled, whatever site with so many pieces sits there
abbrev pub VisitedWithin : (list : List ℕ) (room child piece at : ℕ) → (t after : Tables) → ℕ → Type 0
VisitedWithin list room child piece at t after end = (s : Site) → Sits list room child piece at s
    → PartFilled s t after end

-- however many pieces the tables have room for
abbrev pub SiteVisited : (list : List ℕ) (child piece at : ℕ) → (t after : Tables) → ℕ → Type 0
SiteVisited list child piece at t after end =
    (room : ℕ) → TablesRoom room t → VisitedWithin list room child piece at t after end

-- a child sits where its parent's record says
kid_sits : {list : List ℕ} {x : Nested Leaf} {f p n i : ℕ} {room : ℕ} (child : ℕ) → Fine list room (site x f p n i)
    → child ≡ f + size x - 1 → Sits list room child p i (site x f p n i)
kid_sits {x = x} child h e = sits h (omega (arith, size_positive x))

-- where it shows a star, the site is one
pub visit_star : {list : List ℕ} {node piece at : ℕ} {s : Site} {room : ℕ} → Sits list room node piece at s
    → piece_at list node ≡ piece → kind_at list node ≡ star_kind → (t after : Tables) → TablesRoom room after
    → (last : ℕ)
    → VisitedWithin list room (left_at list node) piece (at + 1) t after last
    → PartFilled s t (joined after (kind_at list node) at last last) (last + 1)
visit_star {list} {node} (sits {x = leaf a} h e) own kind t after full last done =
    absurd (coded a (sym (shown_code a h node e) ∙ inner_code list node _ kind star_no_leaf))
visit_star {node = node} (sits {x = catenation x y} h e) own kind t after full last done =
    absurd (omega (arith, (catenation_shows h node e).kind_is))
visit_star {node = node} (sits {x = union x y} h e) own kind t after full last done =
    absurd (omega (arith, (union_shows h node e).kind_is))
visit_star {list} {node} {piece} {at} (sits {x = star x} {f = f} {n = n} h e) own kind t after full last done =
    subst (λ (k : ℕ). PartFilled (site (star x) f piece n at) t (joined after k at last last) (last + 1))
    (sym kind)
    (fill_star h t after full last
    (done _ (kid_sits (left_at list node) (child_fine operand h) (star_shows h node e).left_is)))
visit_star {node = node} (sits {x = below x} h e) own kind t after full last done = absurd (below_differs h node e own)

right_kid : {list : List ℕ} {x : Nested Leaf} {f p n i node child at : ℕ} {room : ℕ} → Fine list room (site x f p n i)
    → child ≡ f + size x - 1 → f + size x ≤ node → i ≡ at → Kid list room node child p at
right_kid {list} {p = p} {node = node} {child = child} {room = room} h e low same =
    subst (λ (k : ℕ). Kid list room node child p k) same (left_kid h e low)

-- where it shows no code and no star, there is a right child, whose part begins where the left one ended
pub visit_right : {list : List ℕ} {node piece at : ℕ} {s : Site} {room : ℕ} → Sits list room node piece at s
    → piece_at list node ≡ piece → code_at list node ≡ 0 → (kind_at list node ≡ star_kind → ⊥)
    → (t mid : Tables) → (middle : ℕ) → VisitedWithin list room (left_at list node) piece (at + 1) t mid middle
    → Kid list room node (right_at list node) piece middle
visit_right {node = node} (sits {x = leaf a} h e) own code other t mid middle done =
    absurd (coded a (sym (shown_code a h node e) ∙ code))
visit_right {list} {node} (sits {x = catenation x y} h e) own code other t mid middle done =
    let a = done _
    (kid_sits (left_at list node) (child_fine catenation_left h) (catenation_shows h node e).left_is) in
    right_kid (child_fine catenation_right h) (catenation_shows h node e).right_is (omega arith)
    (omega (arith, a.ended))
visit_right {list} {node} (sits {x = union x y} h e) own code other t mid middle done =
    let a = done _ (kid_sits (left_at list node) (child_fine union_left h) (union_shows h node e).left_is) in
    right_kid (child_fine union_right h) (union_shows h node e).right_is (omega arith) (omega (arith, a.ended))
visit_right {node = node} (sits {x = star x} h e) own code other t mid middle done =
    absurd (other (star_shows h node e).kind_is)
visit_right {node = node} (sits {x = below x} h e) own code other t mid middle done =
    absurd (below_differs h node e own)

-- both children have been visited
two_visited : {list : List ℕ} {kind node piece at : ℕ} {s l r : Site} {room : ℕ} → Joint kind s l r → Fine list room s
    → Sits list room node piece at s → (t mid after : Tables) → TablesRoom room after → (middle last : ℕ)
    → Sits list room (left_at list node) piece (at + 1) l → VisitedWithin list room (left_at list node) piece (at + 1)
    t mid middle
    → ((k : ℕ) → start_number r ≡ k → Sits list room (right_at list node) piece k r)
    → VisitedWithin list room (right_at list node) piece middle mid after last
    → kind_at list node ≡ kind
    → PartFilled s t (joined after (kind_at list node) at middle last) (last + 1)
two_visited {list} {node = node} {s = s} j h (sits {p = p} {i = i} g e) t mid after full middle last sits-l done-l
    sits-r done-r kind =
    let a = done-l _ sits-l in
    let b = done-r _ (sits-r middle (omega (arith, a.ended, j.number_left, j.number_right))) in
    subst (λ (k : ℕ). PartFilled s t (joined after k i middle last) (last + 1)) (sym kind)
    (fill_two j h t mid after full middle last a b)

right_sits : {list : List ℕ} {x : Nested Leaf} {f p n i : ℕ} {room : ℕ} (child : ℕ) → Fine list room (site x f p n i)
    → child ≡ f + size x - 1 → (k : ℕ) → i ≡ k → Sits list room child p k (site x f p n i)
right_sits {list} {x} {f} {p} {n} {i} {room} child h e k same =
    subst (λ (m : ℕ). Sits list room child p m (site x f p n i)) same (kid_sits child h e)

-- where it shows no code and no star, the site is a node with two children
pub visit_two : {list : List ℕ} {node piece at : ℕ} {s : Site} {room : ℕ} → Sits list room node piece at s
    → piece_at list node ≡ piece
    → code_at list node ≡ 0 → (kind_at list node ≡ star_kind → ⊥)
    → (t mid after : Tables) → TablesRoom room after → (middle last : ℕ)
    → VisitedWithin list room (left_at list node) piece (at + 1) t mid middle
    → VisitedWithin list room (right_at list node) piece middle mid after last
    → PartFilled s t (joined after (kind_at list node) at middle last) (last + 1)
visit_two {node = node} (sits {x = leaf a} h e) own code other t mid after full middle last done-l done-r =
    absurd (coded a (sym (shown_code a h node e) ∙ code))
visit_two {list} {node} (sits {x = catenation x y} h e) own code other t mid after full middle last done-l done-r =
    let shown = catenation_shows h node e in
    two_visited catenation_joint h (sits h e) t mid after full middle last
    (kid_sits (left_at list node) (child_fine catenation_left h) shown.left_is) done-l
    (right_sits (right_at list node) (child_fine catenation_right h) shown.right_is) done-r shown.kind_is
visit_two {list} {node} (sits {x = union x y} h e) own code other t mid after full middle last done-l done-r =
    let shown = union_shows h node e in
    two_visited union_joint h (sits h e) t mid after full middle last
    (kid_sits (left_at list node) (child_fine union_left h) shown.left_is) done-l
    (right_sits (right_at list node) (child_fine union_right h) shown.right_is) done-r shown.kind_is
visit_two {node = node} (sits {x = star x} h e) own code other t mid after full middle last done-l done-r =
    absurd (other (star_shows h node e).kind_is)
visit_two {node = node} (sits {x = below x} h e) own code other t mid after full middle last done-l done-r =
    absurd (below_differs h node e own)

-- a part that was filled ends within the row
pub filled_ends : {list : List ℕ} {node piece at end : ℕ} {s : Site} {t after : Tables} {room : ℕ}
    → Sits list room node piece at s
    → PartFilled s t after end → (at + 2 ≤ end) × (end ≤ most_states)
filled_ends (sits {x = x} h e) filled = omega (arith, wide x, h.narrow, filled.ended)

-- some site sits there, and the tables have room for its pieces
pub record SiteVisitable (list : List ℕ) (node piece at : ℕ) (t : Tables) : Type 0 where
  pub room : ℕ
  pub some : Site
  pub sitting : Sits list room node piece at some
  pub full : TablesRoom room t

-- tables of the same lengths have the same room
pub room_kept : {t after : Tables} {room : ℕ} → SameLengths t after → TablesRoom room t → TablesRoom room after
room_kept same full = record {
  of_codes = omega (arith, same.of_codes, full.of_codes);
  of_stands = omega (arith, same.of_stands, full.of_stands);
  of_roots = omega (arith, same.of_roots, full.of_roots);
}

-- the row of a site's piece is within the codes
pub row_within : {list : List ℕ} {node piece at : ℕ} {t : Tables} → SiteVisitable list node piece at t
    → row_size ≤ length t.codes
row_within ready = omega (arith, (bounds ready.sitting).few_pieces, ready.full.of_codes)

-- told with other forms of the tables and the end
pub filled_as : {s : Site} {t after other : Tables} {end stop : ℕ} → PartFilled s t after end → other ≡ after
    → stop ≡ end
    → PartFilled s t other stop
filled_as {s} {t} {after} {other} {end} filled e f =
    subst (λ (k : ℕ). PartFilled s t other k) (sym f) (subst (λ (k : Tables). PartFilled s t k end) (sym e) filled)

-- the record was found to be of the walk's piece
pub record OfPiece (list : List ℕ) (node piece own kind : ℕ) : Type 0 where
  pub shown : own ≡ piece_at list node
  pub same : own ≡ piece
  pub of_kind : kind ≡ kind_at list node

-- a stand-in's record was visited
pub visited_stand : {list : List ℕ} {node piece at own end : ℕ} {t after : Tables} → own ≡ piece_at list node
    → (own ≡ piece → ⊥) → end ≡ at + 2 → after ≡ stand_entries t at own at node
    → SiteVisited list node piece at t after end
visited_stand {list} {node} {piece} {at} {t = t} shown other e f room full s here =
    filled_as (visit_stand here (λ same. other (shown ∙ same)) t full)
    (f ∙ ap (λ (k : ℕ). stand_entries t at k at node) shown) e

module _ {list : List ℕ} {node piece own kind : ℕ} (met : OfPiece list node piece own kind) where
  -- with the fields as they were read
  met_own : piece_at list node ≡ piece
  met_own = sym met.shown ∙ met.same

  met_kind : (k : ℕ) → kind ≡ k → kind_at list node ≡ k
  met_kind k e = sym met.of_kind ∙ e

  met_other : (k : ℕ) → (kind ≡ k → ⊥) → kind_at list node ≡ k → ⊥
  met_other k other e = other (met.of_kind ∙ e)

  -- the kind is enough for the code to be read
  pub code_readable : {at : ℕ} {s : Site} {room : ℕ} → Sits list room node piece at s → CodeReadable list node kind
  code_readable here = record {
    listed = (bounds here).listed;
    of_kind = met.of_kind;
    low = λ e. visit_class here met_own (met_kind class_kind e);
  }

module _ {list : List ℕ} {node piece own kind code : ℕ} (met : OfPiece list node piece own kind)
    (code_is : code ≡ code_at list node) where
  -- a leaf's record was visited
  pub visited_leaf : {at end : ℕ} {t after : Tables} → (code ≡ 0 → ⊥) → end ≡ at + 2
      → after ≡ start_entry t at code → SiteVisited list node piece at t after end
  visited_leaf {at} {t = t} some g f room full s here =
      filled_as (visit_leaf here (met_own met) (λ none. some (code_is ∙ none)) t full)
      (f ∙ ap (λ (c : ℕ). start_entry t at c) code_is) g

  -- the children's records
  module _ {left : ℕ} (left_is : left ≡ left_at list node) (inner : code ≡ 0) {at : ℕ} {t : Tables}
      (ready : SiteVisitable list node piece at t) where
    first_kid : Kid list ready.room node left piece (at + 1)
    first_kid = subst (λ (k : ℕ). Kid list ready.room node k piece (at + 1)) (sym left_is)
        (visit_left ready.sitting (met_own met) (sym code_is ∙ inner))

    -- the left or only child can be visited
    pub left_ready : (left < node) × SiteVisitable list left piece (at + 1) t
    left_ready = let kid = first_kid in (
      kid.earlier,
      record { room = ready.room; some = kid.at_site; sitting = kid.sitting; full = ready.full },
    )

    module _ {mid : Tables} {middle : ℕ} (same : SameLengths t mid)
        (done : SiteVisited list left piece (at + 1) t mid middle) where
      done_left : (room : ℕ) → TablesRoom room t
          → VisitedWithin list room (left_at list node) piece (at + 1) t mid middle
      done_left room full =
          subst (λ (k : ℕ). VisitedWithin list room k piece (at + 1) t mid middle) left_is (done room full)

      -- the tables had room for the site, and have it
      full_left : TablesRoom ready.room mid
      full_left = room_kept same ready.full

      past_left : at < middle
      past_left = let kid = first_kid in
          omega (arith, filled_ends kid.sitting (done ready.room ready.full _ kid.sitting))

      -- the numbers at a star are within the row
      pub star_bounds : kind ≡ star_kind
          → (row_size ≤ length mid.codes) × (at < middle) × (middle ≤ middle)
          × (middle < most_states)
      star_bounds e =
          omega (
            arith,
            past_left,
            row_within ready,
            same.of_codes,
            filled_ends ready.sitting
                (visit_star ready.sitting (met_own met) (met_kind met star_kind e) t mid full_left middle
                (done_left ready.room ready.full)),
          )

      second_kid : {right : ℕ} → right ≡ right_at list node → (kind ≡ star_kind → ⊥)
          → Kid list ready.room node right piece middle
      second_kid right_is other =
          subst (λ (k : ℕ). Kid list ready.room node k piece middle) (sym right_is)
          (visit_right ready.sitting (met_own met) (sym code_is ∙ inner)
          (met_other met star_kind other) t mid middle (done_left ready.room ready.full))

      -- the right child can be visited
      pub right_ready : {right : ℕ} → right ≡ right_at list node → (kind ≡ star_kind → ⊥)
          → (right < node) × SiteVisitable list right piece middle mid
      right_ready right_is other = let kid = second_kid right_is other in (
        kid.earlier,
        record { room = ready.room; some = kid.at_site; sitting = kid.sitting; full = full_left },
      )

      -- the right child was visited, as its parent's record says
      done_right : {right last room : ℕ} {after : Tables} → right ≡ right_at list node
          → SiteVisited list right piece middle mid after last → TablesRoom room t
          → VisitedWithin list room (right_at list node) piece middle mid after last
      done_right {last = last} {room = room} {after = after} right_is done-second full =
          subst (λ (k : ℕ). VisitedWithin list room k piece middle mid after last) right_is
          (done-second room (room_kept same full))

      -- the numbers at a node with two children are within the row
      pub two_bounds : {right last : ℕ} {after : Tables} → right ≡ right_at list node → (kind ≡ star_kind → ⊥)
          → SameLengths mid after
          → SiteVisited list right piece middle mid after last
          → (row_size ≤ length after.codes) × (at < middle) × (middle ≤ last)
          × (last < most_states)
      two_bounds {right} {last} {after} right_is other again done-second =
          let kid = second_kid right_is other in
          omega (
            arith,
            past_left,
            row_within ready,
            same.of_codes,
            again.of_codes,
            filled_ends kid.sitting (done-second ready.room full_left _ kid.sitting),
            filled_ends ready.sitting
                (visit_two ready.sitting (met_own met) (sym code_is ∙ inner)
                (met_other met star_kind other) t mid after (room_kept again full_left) middle last
                (done_left ready.room ready.full) (done_right right_is done-second ready.full)),
          )

      -- the tables as they were filled are those of the joined parts
      joined_as : (last : ℕ) (mended : Tables) {after : Tables} → after ≡ joined mended kind at middle last
          → after ≡ joined mended (kind_at list node) at middle last
      joined_as last mended e = e ∙ ap (λ (k : ℕ). joined mended k at middle last) met.of_kind

      -- a star's record was visited
      pub visited_star : {after : Tables} {end : ℕ} → kind ≡ star_kind → end ≡ middle + 1
          → after ≡ joined mid kind at middle middle → SiteVisited list node piece at t after end
      visited_star e g f room full s here = filled_as
          (visit_star here (met_own met) (met_kind met star_kind e) t mid (room_kept same full) middle
          (done_left room full)) (joined_as middle mid f) g

      -- the record of a node with two children was visited
      pub visited_two : {right last end : ℕ} {second after : Tables} → right ≡ right_at list node
          → (kind ≡ star_kind → ⊥) → SameLengths mid second → SiteVisited list right piece middle mid second last
          → end ≡ last + 1 → after ≡ joined second kind at middle last → SiteVisited list node piece at t after end
      visited_two {last = last} {second = second} right_is other again done-second g f room full s here =
          filled_as
          (visit_two here (met_own met) (sym code_is ∙ inner)
          (met_other met star_kind other) t mid second (room_kept again (room_kept same full)) middle last
          (done_left room full) (done_right right_is done-second full)) (joined_as last second f) g
