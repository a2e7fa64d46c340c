-- What filling a node's part of its piece's row makes of the tables, from the parts of its children.
use Rattle.std.specs.Prelude.{ℕ, ◌+◌, ◌-◌, ◌≤◌, ◌<◌, ◌≡◌, refl, cond, ◌⊎◌, List, ◌∷◌, ◌++◌, eqb, length, get_or, set}
use Rattle.std.proofs.Common.{sym, ap, subst, ◌∙◌, inl, inr, ⊎_elim, arith, eq-eqb, ne_eqb, get_or-set_same, get_or-set_other}
use Rattle.language.specs.Nested.{Nested, leaf, catenation, union, star, below}
use Rattle.tree.specs.Leaf.{Leaf}
use Rattle.tree.specs.Layout.{catenation_kind, union_kind, star_kind}
use Rattle.tables.specs.declared.fill.Tables.{Tables}
use Rattle.tables.specs.Words.{width, run}
use Rattle.tables.specs.Plan.{row_size, leads_on, jumps_to, leads_and_jumps, leaf_code, codes_of}
use Rattle.tables.specs.Entries.{
  Lies,
  ends,
  entry,
  lies_at,
  lies_is,
  lies_append,
  lies_same,
  fronts,
  codes_fronts,
  length_codes,
  length_fronts,
  wide,
  thrice,
  thrice_other,
  thrice_first,
  thrice_second,
  thrice_third,
}
use Rattle.tables.specs.Standing.{
  size,
  Site,
  site,
  tree,
  first_record,
  piece,
  start_number,
  Child,
  catenation_left,
  catenation_right,
  union_left,
  union_right,
  operand,
  under,
  In,
  here,
  step,
  NotStandIn,
  Fine,
  child_fine,
  piece_grows,
  ReachesPiece,
  in_reaches,
  StandIn,
  stand_in,
  stand_in_reaches,
}

-- the tables of these lists
abbrev pub tables : (codes stands roots : List ℕ) → Tables
tables a b c = record { codes = a; stands = b; roots = c }

-- tables with the same codes
pub tables_same : {a b : List ℕ} (stands roots : List ℕ) → a ≡ b → tables a stands roots ≡ tables b stands roots
tables_same stands roots p = λ i. tables (p i) stands roots

-- the tables have room for so many pieces of 64 states
pub record TablesRoom (room : ℕ) (t : Tables) : Type 0 where
  pub of_codes : row_size ≤ length t.codes
  pub of_stands : room ≤ length t.stands
  pub of_roots : room ≤ length t.roots

-- the tables are as long as they were
pub record SameLengths (t after : Tables) : Type 0 where
  pub of_codes : length after.codes ≡ length t.codes
  pub of_stands : length after.stands ≡ length t.stands
  pub of_roots : length after.roots ≡ length t.roots

-- u is the stand-in of the child piece k in the piece of s, at or below s
pub record OwnStandIn (s u : Site) (k : ℕ) : Type 0 where
  pub inside : In s u
  pub stands_for : StandIn u k
  pub same_piece : piece u ≡ piece s

-- the tables have the number of the stand-in u of the child piece k, and the child piece's root
pub record StandInPlaced (t : Tables) (u : Site) (k : ℕ) : Type 0 where
  pub stand : get_or t.stands k 0 ≡ start_number u
  pub root : get_or t.roots k 0 + 1 ≡ first_record u + size (tree u)

-- of the child piece k the two tables have the same
pub record SamePlace (t after : Tables) (k : ℕ) : Type 0 where
  pub stand : get_or after.stands k 0 ≡ get_or t.stands k 0
  pub root : get_or after.roots k 0 ≡ get_or t.roots k 0

-- the part of s has been filled but for the code of its accepting state, and `end` is the number after its last
-- state's.
-- What comes before it in the tables is as it was, and so is what is told of child pieces with no stand-in in this part
pub record PartFilled (s : Site) (t after : Tables) (end : ℕ) : Type 0 where
  pub ended : end ≡ start_number s + width (tree s)
  pub front : Lies after.codes (start_number s) (fronts (tree s) (start_number s))
  pub codes_before : (j : ℕ) → j < start_number s → get_or after.codes j 0 ≡ get_or t.codes j 0
  pub placed : (u : Site) (k : ℕ) → OwnStandIn s u k → StandInPlaced after u k
  pub others : (k : ℕ) → ((u : Site) → OwnStandIn s u k → ⊥) → SamePlace t after k

-- the entry of a leaf's start
abbrev pub start_entry : Tables → (at code : ℕ) → Tables
start_entry t at code = tables (set t.codes at code) t.stands t.roots

-- a node is no stand-in
plain_no_stand_in : {u : Site} {k : ℕ} → NotStandIn (tree u) → StandIn u k → ⊥
plain_no_stand_in plain stand_in = plain

-- no stand-in is at or below a leaf
no_stand_in_at_leaf : {a : Leaf} {f p n i : ℕ} {u : Site} {k : ℕ} → In (site (leaf a) f p n i) u → StandIn u k → ⊥
no_stand_in_at_leaf here m = plain_no_stand_in tt m
no_stand_in_at_leaf {a = a} {f = f} {p = p} {n = n} {i = i} {u = u} {k = k} (step {t = t} x6 _) m = elim x6 [ ]

-- a leaf's part
pub fill_leaf : {list : List ℕ} {a : Leaf} {f p n i : ℕ} {room : ℕ} → Fine list room (site (leaf a) f p n i)
    → (t : Tables)
    → TablesRoom room t
    → PartFilled (site (leaf a) f p n i) t (start_entry t i (leaf_code a)) (i + 2)
fill_leaf {a = a} {p = p} {i = i} h t full =
    let r = full.of_codes in
    record {
      ended = refl;
      front = entry (get_or-set_same t.codes i (leaf_code a) 0 (omega arith)) ends;
      codes_before = λ j low. get_or-set_other t.codes i j (leaf_code a) 0 (λ e. omega arith);
      placed = λ u k m. absurd (no_stand_in_at_leaf m.inside m.stands_for);
      others = λ k none. record { stand = refl; root = refl };
    }

-- the entry of a stand-in's start, and what is told of its child piece k: the stand-in's number and its root's record
abbrev pub stand_entries : Tables → (at k i node : ℕ) → Tables
stand_entries t at k i node = tables (set t.codes at 0) (set t.stands k i) (set t.roots k node)

-- a stand-in's own child piece is told of
stand_placed : {list : List ℕ} {x : Nested Leaf} {f p n i : ℕ} {room : ℕ} → Fine list room (site (below x) f p n i)
    → (t : Tables)
    → TablesRoom room t → (node : ℕ) → node + 1 ≡ f + size x
    → {u : Site} {k : ℕ} → In (site (below x) f p n i) u → StandIn u k → piece u ≡ p
    → StandInPlaced (stand_entries t i n i node) u k
stand_placed {x = x} {n = n} {i = i} h t full node at here stand_in e =
    let r = full.of_stands in
    let q = full.of_roots in
    record {
      stand = get_or-set_same t.stands n i 0 (omega arith);
      root = ap (λ (m : ℕ). m + 1) (get_or-set_same t.roots n node 0 (omega arith)) ∙ at;
    }
stand_placed h t full node at (step under m) s e = absurd (omega (arith, piece_grows (child_fine under h) m))

-- a stand-in's part
pub fill_stand : {list : List ℕ} {x : Nested Leaf} {f p n i : ℕ} {room : ℕ} → Fine list room (site (below x) f p n i)
    → (t : Tables)
    → TablesRoom room t → (node : ℕ) → node + 1 ≡ f + size x
    → PartFilled (site (below x) f p n i) t (stand_entries t i n i node) (i + 2)
fill_stand {x = x} {f = f} {p = p} {n = n} {i = i} h t full node at =
    let r = full.of_codes in
    record {
      ended = refl;
      front = entry (get_or-set_same t.codes i 0 0 (omega arith)) ends;
      codes_before = λ j low. get_or-set_other t.codes i j 0 0 (λ e. omega arith);
      placed = λ u k m. stand_placed h t full node at m.inside m.stands_for m.same_piece;
      others = λ k none.
          let other : k ≡ n
          → ⊥ = λ e. none _
          (record {
            inside = here;
            stands_for =
                subst (λ (m : ℕ). StandIn (site (below x) f p n i) m) (sym e) stand_in;
            same_piece = refl;
          }) in
          record {
            stand = get_or-set_other t.stands n k i 0 other;
            root =
                get_or-set_other t.roots n k node 0 other;
          };
    }

-- a choice by whether two numbers are the same
pub cond_equal : (a b x y : ℕ) → a ≡ b → cond (eqb a b) x y ≡ x
cond_equal a b x y e = ap (λ c. cond c x y) (eq-eqb a b e)

pub cond_different : (a b x y : ℕ) → (a ≡ b → ⊥) → cond (eqb a b) x y ≡ y
cond_different a b x y e = ap (λ c. cond c x y) (ne_eqb a b e)

-- the code of a node's start, by the kind of its record: `middle` is the number after its left or only child's last
-- state
abbrev pub begin_code : (kind middle : ℕ) → ℕ
begin_code kind middle = cond (eqb kind catenation_kind) leads_on (leads_and_jumps middle)

-- the code of the right or only child's accepting state: `at` is the number of the node's start
abbrev pub right_exit : (kind at : ℕ) → ℕ
right_exit kind at = cond (eqb kind star_kind) (leads_and_jumps (at + 1)) leads_on

-- the code of the left child's accepting state: `last` is the number of the node's accepting state
abbrev pub left_exit : (kind last : ℕ) → ℕ
left_exit kind last = cond (eqb kind catenation_kind) leads_on (jumps_to last)

-- the entries of a node with children, when those of its children are there. An only child is both the left and the
-- right one
abbrev pub joined : Tables → (kind at middle last : ℕ) → Tables
joined t kind at middle last =
    tables
    (thrice t.codes at (middle - 1) (last - 1) (begin_code kind middle)
    (left_exit kind last) (right_exit kind at))
    t.stands
    t.roots

-- s is a node of this kind with the children l and r
pub record Joint (kind : ℕ) (s l r : Site) : Type 0 where
  pub left : Child s l
  pub right : Child s r
  pub piece_left : piece l ≡ piece s
  pub piece_right : piece r ≡ piece s
  pub number_left : start_number l ≡ start_number s + 1
  pub number_right : start_number r ≡ start_number s + (1 + width (tree l))
  pub wide_as : width (tree s) ≡ 1 + width (tree l) + width (tree r) + 1
  pub front_as : let last = start_number s + (1 + width (tree l) + width (tree r)) in
      fronts (tree s) (start_number s) ≡ begin_code kind (start_number r)
      ∷ (codes_of (tree l) (start_number l) (left_exit kind last)
      ++ codes_of (tree r) (start_number r) (right_exit kind (start_number s)))
  pub either : (u : Site) (k : ℕ) → In s u → StandIn u k → In l u ⊎ In r u
  pub apart : (k : ℕ) → ReachesPiece l k → ReachesPiece r k → ⊥

-- a stand-in below a node with two children is below one of them
either_catenation : {x y : Nested Leaf} {f p n i : ℕ} {u : Site} {k : ℕ} → In (site (catenation x y) f p n i) u
    → StandIn u k
    → In (site x f p n (i + 1)) u ⊎ In (site y (f + size x) p (n + run x) (i + (1 + width x))) u
either_catenation here s = absurd (plain_no_stand_in tt s)
either_catenation (step catenation_left m) s = inl m
either_catenation (step catenation_right m) s = inr m

either_union : {x y : Nested Leaf} {f p n i : ℕ} {u : Site} {k : ℕ} → In (site (union x y) f p n i) u → StandIn u k
    → In (site x f p n (i + 1)) u ⊎ In (site y (f + size x) p (n + run x) (i + (1 + width x))) u
either_union here s = absurd (plain_no_stand_in tt s)
either_union (step union_left m) s = inl m
either_union (step union_right m) s = inr m

module _ {x y : Nested Leaf} {f p n i : ℕ} where
  -- catenations and unions are such nodes
  pub catenation_joint : Joint catenation_kind (site (catenation x y) f p n i) (site x f p n (i + 1))
      (site y (f + size x) p (n + run x) (i + (1 + width x)))
  catenation_joint = record {
    left = catenation_left;
    right = catenation_right;
    piece_left = refl;
    piece_right = refl;
    number_left = refl;
    number_right = refl;
    wide_as = refl;
    front_as = refl;
    either = λ u k m s. either_catenation m s;
    apart = λ k a b. omega arith;
  }

  pub union_joint : Joint union_kind (site (union x y) f p n i) (site x f p n (i + 1))
      (site y (f + size x) p (n + run x) (i + (1 + width x)))
  union_joint = record {
    left = union_left;
    right = union_right;
    piece_left = refl;
    piece_right = refl;
    number_left = refl;
    number_right = refl;
    wide_as = refl;
    front_as = refl;
    either = λ u k m s. either_union m s;
    apart = λ k a b. omega arith;
  }

-- a stand-in of a child's part in the child's piece is one of the parent's
up : {s l u : Site} {k : ℕ} → Child s l → piece l ≡ piece s → OwnStandIn l u k → OwnStandIn s u k
up c e m = record { inside = step c m.inside; stands_for = m.stands_for; same_piece = m.same_piece ∙ e }

-- and one that is below the child is one of the child
down : {s l u : Site} {k : ℕ} → piece l ≡ piece s → In l u → OwnStandIn s u k → OwnStandIn l u k
down e inside m = record { inside = inside; stands_for = m.stands_for; same_piece = m.same_piece ∙ sym e }

-- what is told of a child piece stands while nothing of it changes
pub still_placed : {t after : Tables} {u : Site} {k : ℕ} → StandInPlaced t u k → SamePlace t after k
    → StandInPlaced after u k
still_placed p e = record { stand = e.stand ∙ p.stand; root = ap (λ (n : ℕ). n + 1) e.root ∙ p.root }

both_same : {t mid after : Tables} {k : ℕ} → SamePlace t mid k → SamePlace mid after k → SamePlace t after k
both_same a b = record { stand = b.stand ∙ a.stand; root = b.root ∙ a.root }

module _ {list : List ℕ} {kind : ℕ} {s l r : Site} {room : ℕ} (j : Joint kind s l r) (h : Fine list room s)
    (t mid after : Tables)
    (full : TablesRoom room after) (middle last : ℕ) (a : PartFilled l t mid middle)
    (b : PartFilled r mid after last) where
  -- what the children's parts tell of child pieces stands
  two_placed : (u : Site) (k : ℕ) → OwnStandIn s u k → StandInPlaced after u k
  two_placed u k m =
      ⊎_elim
      (λ inside. still_placed (a.placed u k (down j.piece_left inside m))
      (b.others k
      (λ v w. j.apart k (in_reaches inside (stand_in_reaches m.stands_for))
      (in_reaches w.inside (stand_in_reaches w.stands_for)))))
      (λ inside. b.placed u k (down j.piece_right inside m))
      (j.either u k m.inside m.stands_for)

  two_others : (k : ℕ) → ((u : Site) → OwnStandIn s u k → ⊥) → SamePlace t after k
  two_others k none = both_same (a.others k (λ u w. none u (up j.left j.piece_left w)))
      (b.others k (λ u w. none u (up j.right j.piece_right w)))

  -- the numbers at which the children's parts end
  middle_is : middle ≡ start_number r
  middle_is = omega (arith, a.ended, j.number_left, j.number_right)

  last_is : last ≡ start_number s + (1 + width (tree l) + width (tree r))
  last_is = omega (arith, b.ended, j.number_right)

  -- the codes, from those of the children's parts
  two_front : Lies (joined after kind (start_number s) middle last).codes (start_number s)
      (fronts (tree s) (start_number s))
  two_front =
      let e = middle_is in
      let g = last_is in
      let few = h.few in
      let later = h.later in
      let narrow = h.narrow in
      let wide-s = j.wide_as in
      let wide-l = wide (tree l) in
      let wide-r = wide (tree r) in
      let number-l = j.number_left in
      let number-r = j.number_right in
      let piece-l = j.piece_left in
      let piece-r = j.piece_right in
      let long-l = length_fronts (tree l) (start_number l) in
      let long-r = length_fronts (tree r) (start_number r) in
      let long-codes = full.of_codes in
      let stored = (joined after kind (start_number s) middle last).codes in
      let x = start_number s in
      let y = middle - 1 in
      let z = last - 1 in
      let u = begin_code kind middle in
      let v = left_exit kind last in
      let w = right_exit kind (start_number s) in
      let keeps : (k : ℕ) → (k ≡ x → ⊥) → (k ≡ y → ⊥) → (k ≡ z → ⊥) → get_or stored k 0 ≡ get_or after.codes k 0 =
      thrice_other after.codes x y z u v w in
      let front_l : Lies stored (x + 1) (fronts (tree l) (start_number l)) =
      lies_at (lies_same stored a.front
      (λ k low high. keeps k (λ same. omega arith) (λ same. omega arith) (λ same. omega arith)
      ∙ b.codes_before k (omega arith))) (omega arith) in
      let front_r : Lies stored (y + 1) (fronts (tree r) (start_number r)) =
      lies_at (lies_same stored b.front
      (λ k low high. keeps k (λ same. omega arith) (λ same. omega arith) (λ same. omega arith))) (omega arith) in
      let part_l : Lies stored (x + 1) (codes_of (tree l) (start_number l) v) =
      lies_is (lies_append front_l (entry (thrice_second after.codes x y z u v w (omega arith) (λ same. omega arith))
      ends) (omega arith)) (sym (codes_fronts (tree l) (start_number l) v)) in
      let part_r : Lies stored (y + 1) (codes_of (tree r) (start_number r) w) =
      lies_is (lies_append front_r (entry (thrice_third after.codes x y z u v w (omega arith)) ends) (omega arith))
      (sym (codes_fronts (tree r) (start_number r) w)) in
      lies_is
      (entry (thrice_first after.codes x y z u v w (omega arith) (λ same. omega arith) (λ same. omega arith))
      (lies_append part_l part_r (omega (arith, length_codes (tree l) (start_number l) v))))
      (ap (λ (n : ℕ). begin_code kind n ∷ (codes_of (tree l) (start_number l) (left_exit kind last)
      ++ codes_of (tree r) (start_number r) w)) e
      ∙ ap (λ (n : ℕ). begin_code kind (start_number r) ∷ (codes_of (tree l) (start_number l) (left_exit kind n)
      ++ codes_of (tree r) (start_number r) w)) g
      ∙ sym j.front_as)

  -- the part of a node with two children
  pub fill_two : PartFilled s t (joined after kind (start_number s) middle last) (last + 1)
  fill_two =
      let e = middle_is in
      let g = last_is in
      let wide-s = j.wide_as in
      let number-l = j.number_left in
      let number-r = j.number_right in
      let piece-l = j.piece_left in
      let piece-r = j.piece_right in
      let wide-l = wide (tree l) in
      let wide-r = wide (tree r) in
      let x = start_number s in
      record {
        ended = omega arith;
        front = two_front;
        codes_before = λ k low.
            thrice_other after.codes x (middle - 1) (last - 1) _ _ _ k (λ same. omega arith)
            (λ same. omega arith) (λ same. omega arith)
            ∙ b.codes_before k (omega arith) ∙ a.codes_before k (omega arith);
        placed = λ u k m. still_placed (two_placed u k m) (record { stand = refl; root = refl });
        others = λ k none. both_same (two_others k none) (record { stand = refl; root = refl });
      }

-- a stand-in below a star is below its operand
operand_only : {x : Nested Leaf} {f p n i : ℕ} {u : Site} {k : ℕ} → In (site (star x) f p n i) u → StandIn u k
    → In (site x f p n (i + 1)) u
operand_only here s = absurd (plain_no_stand_in tt s)
operand_only (step operand m) s = m

module _ {list : List ℕ} {x : Nested Leaf} {f p n i : ℕ} {room : ℕ} (h : Fine list room (site (star x) f p n i))
    (t after : Tables)
    (full : TablesRoom room after) (last : ℕ) (a : PartFilled (site x f p n (i + 1)) t after last) where
  -- a star's codes, from those of its operand's part
  star_front : Lies (joined after star_kind i last last).codes i (fronts (star x) i)
  star_front =
      let few = h.few in
      let later = h.later in
      let narrow = h.narrow in
      let e = a.ended in
      let wide-x = wide x in
      let long = length_fronts x (i + 1) in
      let long-codes = full.of_codes in
      let stored = (joined after star_kind i last last).codes in
      let z = last - 1 in
      let u = leads_and_jumps last in
      let v = jumps_to last in
      let w = leads_and_jumps (i + 1) in
      let front : Lies stored (i + 1) (fronts x (i + 1)) =
      lies_at (lies_same stored a.front
      (λ k low high. thrice_other after.codes i z z u v w k (λ same. omega arith)
      (λ same. omega arith) (λ same. omega arith))) (omega arith) in
      let part : Lies stored (i + 1) (codes_of x (i + 1) w) =
      lies_is (lies_append front (entry (thrice_third after.codes i z z u v w (omega arith)) ends)
      (omega arith)) (sym (codes_fronts x (i + 1) w)) in
      lies_is (entry (thrice_first after.codes i z z u v w (omega arith) (λ same. omega arith)
      (λ same. omega arith)) part)
      (ap (λ (m : ℕ). leads_and_jumps m ∷ codes_of x (i + 1) w) (omega arith))

  -- the part of a star
  pub fill_star : PartFilled (site (star x) f p n i) t (joined after star_kind i last last) (last + 1)
  fill_star =
      let e = a.ended in
      let wide-x = wide x in
      record {
        ended = omega arith;
        front = star_front;
        codes_before = λ k low.
            thrice_other after.codes i (last - 1) (last - 1) _ _ _ k
            (λ same. omega arith) (λ same. omega arith) (λ same. omega arith) ∙ a.codes_before k (omega arith);
        placed = λ u k m. still_placed (a.placed u k (down refl (operand_only m.inside m.stands_for) m))
            (record { stand = refl; root = refl });
        others = λ k none. both_same (a.others k (λ u w. none u (up operand refl w)))
            (record { stand = refl; root = refl });
      }
