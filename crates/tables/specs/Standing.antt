-- Where each node of a cut tree stands: its records in the list, its piece, and the number of its start in the piece.
use Rattle.std.specs.Prelude.{ℕ, ◌+◌, ◌*◌, ◌-◌, ◌≤◌, ◌<◌, ◌≡◌, refl, List, [], ◌++◌, length}
use Rattle.std.proofs.Common.{sym, ap, subst, ◌∙◌, append_assoc, arith, length-append}
use Rattle.std.proofs.Math.Decide.{dec_lt}
use Rattle.language.specs.Tree.{Tree, nodes}
use Rattle.language.specs.Nested.{Nested, leaf, catenation, union, star, below, whole}
use Rattle.tree.specs.Leaf.{Leaf}
use Rattle.tree.specs.Limits.{most_pieces, most_records, most_states}
use Rattle.tree.specs.Layout.{
  record_size,
  two_bytes_limit,
  catenation_kind,
  union_kind,
  star_kind,
  no_child,
  record_of,
  piece_at,
  Shows,
}
use Rattle.tree.specs.Places.{bare}
use Rattle.tree.specs.PlacesLaws.{length_bare, shows_bare}
use Rattle.tree.specs.Fields.{shows}
use Rattle.tree.specs.Records.{leaf_kind, leaf_character, leaf_number}
use Rattle.tree.specs.Stored.{stored}
use Rattle.tables.specs.Words.{width, run}

-- how many nodes there are, in all pieces
abbrev pub size : Nested Leaf → ℕ
size x = nodes (whole x)

-- the record of x's root
abbrev pub root_record : Nested Leaf → (first piece new : ℕ) → List ℕ
root_record (leaf a) f p n = record_of (leaf_kind a) (leaf_character a) (leaf_number a) no_child p
root_record (catenation x y) f p n = record_of catenation_kind 0 (f + size x - 1) (f + size x + size y - 1) p
root_record (union x y) f p n = record_of union_kind 0 (f + size x - 1) (f + size x + size y - 1) p
root_record (star x) f p n = record_of star_kind 0 (f + size x - 1) no_child p
root_record (below x) f p n = root_record x f n (n + 1)

-- there is a node at least: the root
pub size_positive : (x : Nested Leaf) → 1 ≤ size x
size_positive (leaf a) = omega arith
size_positive (catenation x y) = omega arith
size_positive (union x y) = omega arith
size_positive (star x) = omega arith
size_positive (below x) = size_positive x

-- the records before x's root
abbrev inner : Nested Leaf → (first piece new : ℕ) → List ℕ
inner (leaf a) f p n = []
inner (catenation x y) f p n = stored x f p n ++ stored y (f + size x) p (n + run x)
inner (union x y) f p n = stored x f p n ++ stored y (f + size x) p (n + run x)
inner (star x) f p n = stored x f p n
inner (below x) f p n = inner x f n (n + 1)

-- x's root is stored last
stored_inner : (x : Nested Leaf) (f p n : ℕ) → stored x f p n ≡ inner x f p n ++ root_record x f p n
stored_inner (leaf a) f p n = refl
stored_inner (catenation x y) f p n = refl
stored_inner (union x y) f p n = refl
stored_inner (star x) f p n = refl
stored_inner (below x) f p n = stored_inner x f n (n + 1)

-- a record for each node
pub length_stored : (x : Nested Leaf) (f p n : ℕ) → length (stored x f p n) ≡ record_size * size x
length_stored (leaf a) f p n = refl
length_stored (catenation x y) f p n = let e = length_stored x in let g =
    length_stored y in simp (length-append, e, g) (omega arith)
length_stored (union x y) f p n = let e = length_stored x in let g =
    length_stored y in simp (length-append, e, g) (omega arith)
length_stored (star x) f p n = let e = length_stored x in simp (length-append, e) (omega arith)
length_stored (below x) f p n = length_stored x f n (n + 1)

-- a record for each node but the root
length_inner : (x : Nested Leaf) (f p n : ℕ) → length (inner x f p n) + record_size ≡ record_size * size x
length_inner (leaf a) f p n = refl
length_inner (catenation x y) f p n = let e = length_stored x in let g =
    length_stored y in simp (length-append, e, g) (omega arith)
length_inner (union x y) f p n = let e = length_stored x in let g =
    length_stored y in simp (length-append, e, g) (omega arith)
length_inner (star x) f p n = let e = length_stored x in simp e (omega arith)
length_inner (below x) f p n = length_inner x f n (n + 1)

-- a node, or a stand-in with the child piece below it, and where it stands: the number of its first record, its piece,
-- the number from which the child pieces below it are numbered, and the number of its start in its piece
pub data Site : Type 0 where
  site : Nested Leaf → (first piece new number : ℕ) → Site

-- the site's node, with all below it
abbrev pub tree : Site → Nested Leaf
tree (site x f p n i) = x

-- the number of the site's first record
abbrev pub first_record : Site → ℕ
first_record (site x f p n i) = f

-- the piece in which the site is
abbrev pub piece : Site → ℕ
piece (site x f p n i) = p

-- the number of the first child piece below the site
abbrev pub new : Site → ℕ
new (site x f p n i) = n

-- the number of the site's start in its piece
abbrev pub start_number : Site → ℕ
start_number (site x f p n i) = i

-- the second site is a child of the first; a stand-in's child is the top of the child piece
pub data Child : Site → Site → Type 0 where
  catenation_left : {x y : Nested Leaf} {f p n i : ℕ} → Child (site (catenation x y) f p n i) (site x f p n (i + 1))
  catenation_right : {x y : Nested Leaf} {f p n i : ℕ}
      → Child (site (catenation x y) f p n i) (site y (f + size x) p (n + run x) (i + (1 + width x)))
  union_left : {x y : Nested Leaf} {f p n i : ℕ} → Child (site (union x y) f p n i) (site x f p n (i + 1))
  union_right : {x y : Nested Leaf} {f p n i : ℕ}
      → Child (site (union x y) f p n i) (site y (f + size x) p (n + run x) (i + (1 + width x)))
  operand : {x : Nested Leaf} {f p n i : ℕ} → Child (site (star x) f p n i) (site x f p n (i + 1))
  under : {x : Nested Leaf} {f p n i : ℕ} → Child (site (below x) f p n i) (site x f n (n + 1) 0)

-- the second site is the first or lies below it
pub data In : Site → Site → Type 0 where
  here : {s : Site} → In s s
  step : {s t u : Site} → Child s t → In t u → In s u

-- a child of what lies below a site lies below it
pub in_child : {s t u : Site} → In s t → Child t u → In s u
in_child here c = step c here
in_child (step d m) c = step d (in_child m c)

-- the root is a node of the tree and no stand-in
abbrev pub NotStandIn : Nested Leaf → Type 0
NotStandIn (leaf a) = Unit {0}
NotStandIn (catenation x y) = Unit {0}
NotStandIn (union x y) = Unit {0}
NotStandIn (star x) = Unit {0}
NotStandIn (below x) = ⊥

-- below each stand-in stands the top node of a child piece with at most 62 states
abbrev pub Sound : Nested Leaf → Type 0
Sound (leaf a) = Unit {0}
Sound (catenation x y) = Sound x × Sound y
Sound (union x y) = Sound x × Sound y
Sound (star x) = Sound x
Sound (below x) = NotStandIn x × (width x ≤ most_states) × Sound x

-- how many leaves the tree of a good list has at most: of n nodes at most (n + 1) / 2 are leaves
abbrev pub most_leaves : ℕ
most_leaves = 960

-- the number of each class leaf is below 960
abbrev pub LowNumbers : Tree Leaf → Type 0
LowNumbers (Tree.leaf (Leaf.character c)) = Unit {0}
LowNumbers (Tree.leaf (Leaf.class k)) = k < most_leaves
LowNumbers (Tree.leaf Leaf.empty_text) = Unit {0}
LowNumbers (Tree.catenation s t) = LowNumbers s × LowNumbers t
LowNumbers (Tree.union s t) = LowNumbers s × LowNumbers t
LowNumbers (Tree.star s) = LowNumbers s

-- the records of the site stand in the list, but for their places
pub record SiteStored (list : List ℕ) (s : Site) : Type 0 where
  pub before : List ℕ
  pub after : List ℕ
  pub parts : bare list ≡ before ++ (stored (tree s) (first_record s) (piece s) (new s) ++ after)
  pub begins : length before ≡ record_size * first_record s

-- the site stands in the list, and its numbers are within bounds: its pieces are among the first `room`
pub record Fine (list : List ℕ) (room : ℕ) (s : Site) : Type 0 where
  pub written : SiteStored list s
  pub later : piece s < new s
  pub few : new s + run (tree s) ≤ room
  pub low : room ≤ most_pieces
  pub narrow : start_number s + width (tree s) ≤ most_states
  pub short : first_record s + size (tree s) ≤ most_records
  pub sound : Sound (tree s)
  pub numbers : LowNumbers (whole (tree s))

-- three parts, and what is before and after them
regroup : (before xs ys zs after : List ℕ) → before ++ ((xs ++ ys ++ zs) ++ after) ≡ before
    ++ (xs ++ (ys ++ (zs ++ after)))
regroup before xs ys zs after = simp append_assoc

-- the records of the first and of the second of three parts
written_left : {list : List ℕ} (xs ys zs before after : List ℕ) → list ≡ before ++ ((xs ++ ys ++ zs) ++ after)
    → list ≡ before ++ (xs ++ (ys ++ (zs ++ after)))
written_left xs ys zs before after e = e ∙ regroup before xs ys zs after

written_right : {list : List ℕ} (xs ys zs before after : List ℕ) → list ≡ before ++ ((xs ++ ys ++ zs) ++ after)
    → list ≡ (before ++ xs) ++ (ys ++ (zs ++ after))
written_right xs ys zs before after e = e ∙ regroup before xs ys zs after ∙ sym (append_assoc before xs _)

-- a child's records stand within its parent's
child_written : {list : List ℕ} {s t : Site} → Child s t → SiteStored list s → SiteStored list t
child_written (catenation_left {x = x} {y = y} {f = f} {p = p} {n = n}) w =
    record {
      before = w.before;
      after = _;
      parts = written_left (stored x f p n) _ _ w.before w.after w.parts;
      begins = w.begins;
    }
child_written (catenation_right {x = x} {y = y} {f = f} {p = p} {n = n}) w =
    record {
      before = w.before ++ stored x f p n;
      after = _;
      parts = written_right (stored x f p n) _ _ w.before w.after w.parts;
      begins = let e = w.begins in let g = length_stored x f p n in simp length-append (omega arith);
    }
child_written (union_left {x = x} {y = y} {f = f} {p = p} {n = n}) w =
    record {
      before = w.before;
      after = _;
      parts = written_left (stored x f p n) _ _ w.before w.after w.parts;
      begins = w.begins;
    }
child_written (union_right {x = x} {y = y} {f = f} {p = p} {n = n}) w =
    record {
      before = w.before ++ stored x f p n;
      after = _;
      parts = written_right (stored x f p n) _ _ w.before w.after w.parts;
      begins = let e = w.begins in let g = length_stored x f p n in simp length-append (omega arith);
    }
child_written (operand {x = x} {f = f} {p = p} {n = n}) w =
    record {
      before = w.before;
      after = _;
      parts =
          w.parts ∙ ap (λ (l : List ℕ). w.before ++ l) (append_assoc (stored x f p n) _ w.after);
      begins =
          w.begins;
    }
child_written under w = record { before = w.before; after = w.after; parts = w.parts; begins = w.begins }

-- the children of a site within bounds are so too
pub child_fine : {list : List ℕ} {s t : Site} {room : ℕ} → Child s t → Fine list room s → Fine list room t
child_fine (catenation_left {x = x} {y = y}) h =
    record {
      written = child_written catenation_left h.written;
      later = h.later;
      few = omega arith;
      low = h.low;
      narrow =
          omega arith;
      short = omega arith;
      sound = h.sound.0;
      numbers = h.numbers.0;
    }
child_fine (catenation_right {x = x} {y = y}) h =
    record {
      written = child_written catenation_right h.written;
      later = omega arith;
      few = omega arith;
      low = h.low;
      narrow =
          omega arith;
      short = omega arith;
      sound = h.sound.1;
      numbers = h.numbers.1;
    }
child_fine (union_left {x = x} {y = y}) h =
    record {
      written = child_written union_left h.written;
      later = h.later;
      few = omega arith;
      low = h.low;
      narrow = omega arith;
      short = omega arith;
      sound = h.sound.0;
      numbers = h.numbers.0;
    }
child_fine (union_right {x = x} {y = y}) h =
    record {
      written = child_written union_right h.written;
      later = omega arith;
      few = omega arith;
      low = h.low;
      narrow =
          omega arith;
      short = omega arith;
      sound = h.sound.1;
      numbers = h.numbers.1;
    }
child_fine (operand {x = x}) h =
    record {
      written = child_written operand h.written;
      later = h.later;
      few = omega arith;
      low = h.low;
      narrow = omega arith;
      short = omega arith;
      sound = h.sound;
      numbers = h.numbers;
    }
child_fine (under {x = x}) h =
    record {
      written = child_written under h.written;
      later = omega arith;
      few = omega arith;
      low = h.low;
      narrow =
          omega (arith, h.sound.1);
      short = omega arith;
      sound = h.sound.2;
      numbers = h.numbers;
    }

-- and so is all that lies below it
pub in_fine : {list : List ℕ} {s t : Site} {room : ℕ} → In s t → Fine list room s → Fine list room t
in_fine here h = h
in_fine (step c m) h = in_fine m (child_fine c h)

-- the root's record of a site in the list
root_shows : {list : List ℕ} {s : Site} → SiteStored list s → (r kind character left right own : ℕ)
    → r + 1 ≡ first_record s + size (tree s)
    → root_record (tree s) (first_record s) (piece s) (new s) ≡ record_of kind character left right own
    → left < two_bytes_limit
    → right < two_bytes_limit → own < two_bytes_limit
    → Shows list r kind character left right own
root_shows {list} {s = site x f p n i} w r kind character left right own at e small_left small_right small-piece =
    let split : bare list ≡ (w.before ++ inner x f p n) ++ (record_of kind character left right own ++ w.after) =
    w.parts ∙ ap (λ (l : List ℕ). w.before ++ (l ++ w.after))
    (stored_inner x f p n ∙ ap (λ (l : List ℕ). inner x f p n ++ l) e) ∙ simp append_assoc in
    let begins = w.begins in
    let long = length_inner x f p n in
    shows_bare (rw split (shows (w.before ++ inner x f p n) w.after r kind character left right own
    (simp length-append (omega arith)) small_left small_right small-piece))

module _ {list : List ℕ} {f p n i : ℕ} {room : ℕ} where
  -- what the record of a node shows, by the node's kind
  pub leaf_shows : (a : Leaf) → Fine list room (site (leaf a) f p n i) → (r : ℕ) → r + 1 ≡ f + 1
      → Shows list r (leaf_kind a) (leaf_character a) (leaf_number a) no_child p
  leaf_shows (Leaf.character c) h r at =
      root_shows h.written r _ _ _ _ _ at refl (omega arith) (omega arith) (omega arith)
  leaf_shows (Leaf.class k) h r at =
      root_shows h.written r _ _ _ _ _ at refl (omega (arith, h.numbers)) (omega arith) (omega arith)
  leaf_shows Leaf.empty_text h r at =
      root_shows h.written r _ _ _ _ _ at refl (omega arith) (omega arith) (omega arith)

  pub catenation_shows : {x y : Nested Leaf} → Fine list room (site (catenation x y) f p n i) → (r : ℕ)
      → r + 1 ≡ f + size (catenation x y) → Shows list r catenation_kind 0 (f + size x - 1) (f + size x + size y - 1) p
  catenation_shows h r at = root_shows h.written r _ _ _ _ _ at refl (omega arith) (omega arith) (omega arith)

  pub union_shows : {x y : Nested Leaf} → Fine list room (site (union x y) f p n i) → (r : ℕ) → r + 1 ≡ f
      + size (union x y)
      → Shows list r union_kind 0 (f + size x - 1) (f + size x + size y - 1) p
  union_shows h r at = root_shows h.written r _ _ _ _ _ at refl (omega arith) (omega arith) (omega arith)

  pub star_shows : {x : Nested Leaf} → Fine list room (site (star x) f p n i) → (r : ℕ) → r + 1 ≡ f + size (star x)
      → Shows list r star_kind 0 (f + size x - 1) no_child p
  star_shows h r at = root_shows h.written r _ _ _ _ _ at refl (omega arith) (omega arith) (omega arith)

-- the piece that a node's record shows is the node's
pub piece_shows : {list : List ℕ} {f p n i : ℕ} {room : ℕ} (x : Nested Leaf) → NotStandIn x
    → Fine list room (site x f p n i)
    → (r : ℕ)
    → r + 1 ≡ f + size x → piece_at list r ≡ p
piece_shows (leaf a) plain h r at = (leaf_shows a h r at).piece_is
piece_shows (catenation x y) plain h r at = (catenation_shows h r at).piece_is
piece_shows (union x y) plain h r at = (union_shows h r at).piece_is
piece_shows (star x) plain h r at = (star_shows h r at).piece_is
piece_shows (below x) plain h r at = absurd plain

-- the list holds the records of the site
pub within : {list : List ℕ} {s : Site} {room : ℕ} → Fine list room s → record_size * (first_record s + size (tree s)) ≤
    length list
within {list} {s = site x f p n i} h =
    let w = h.written in
    let e = w.begins in
    omega (arith, length_bare list, simp length-append at (ap length w.parts), length_stored x f p n)

-- k is the number of a child piece below the site
abbrev pub ReachesPiece : Site → ℕ → Type 0
ReachesPiece s k = (new s ≤ k) × (k < new s + run (tree s))

-- the child pieces below a child are below its parent
child_reaches : {s t : Site} {k : ℕ} → Child s t → ReachesPiece t k → ReachesPiece s k
child_reaches catenation_left h = omega arith
child_reaches catenation_right h = omega arith
child_reaches union_left h = omega arith
child_reaches union_right h = omega arith
child_reaches operand h = h
child_reaches under h = omega arith

-- and those below what lies below a site
pub in_reaches : {s t : Site} {k : ℕ} → In s t → ReachesPiece t k → ReachesPiece s k
in_reaches here h = h
in_reaches (step c m) h = child_reaches c (in_reaches m h)

-- no two children have a child piece below them in common
same_child : {s t u : Site} {k : ℕ} → Child s t → Child s u → ReachesPiece t k → ReachesPiece u k → t ≡ u
same_child catenation_left catenation_left h g = refl
same_child catenation_left catenation_right h g = absurd (omega arith)
same_child catenation_right catenation_left h g = absurd (omega arith)
same_child catenation_right catenation_right h g = refl
same_child union_left union_left h g = refl
same_child union_left union_right h g = absurd (omega arith)
same_child union_right union_left h g = absurd (omega arith)
same_child union_right union_right h g = refl
same_child operand operand h g = refl
same_child under under h g = refl

-- the site is the stand-in of the child piece k
pub data StandIn : Site → ℕ → Type 0 where
  stand_in : {x : Nested Leaf} {f p n i : ℕ} → StandIn (site (below x) f p n i) n

-- a stand-in has its child piece below it
pub stand_in_reaches : {s : Site} {k : ℕ} → StandIn s k → ReachesPiece s k
stand_in_reaches stand_in = omega arith

-- a stand-in's own child piece does not lie below that piece's top
not_below_itself : {s t : Site} {k : ℕ} → StandIn s k → Child s t → ReachesPiece t k → ⊥
not_below_itself stand_in under h = omega arith

-- a child piece has one stand-in
pub one_stand_in : {s u v : Site} {k : ℕ} → In s u → In s v → StandIn u k → StandIn v k → u ≡ v
one_stand_in here here a b = refl
one_stand_in here (step c m) a b = absurd (not_below_itself a c (in_reaches m (stand_in_reaches b)))
one_stand_in (step c m) here a b = absurd (not_below_itself b c (in_reaches m (stand_in_reaches a)))
one_stand_in {v = v} (step {t = t} c m) (step d l) a b =
    let e = same_child c d (in_reaches m (stand_in_reaches a)) (in_reaches l (stand_in_reaches b)) in
    one_stand_in m (subst (λ (q : Site). In q v) (sym e) l) a b

-- pieces below a site have higher numbers than the site's
pub piece_grows : {list : List ℕ} {s u : Site} {room : ℕ} → Fine list room s → In s u → piece s ≤ piece u
piece_grows h here = omega arith
piece_grows h (step catenation_left m) = piece_grows (child_fine catenation_left h) m
piece_grows h (step catenation_right m) = piece_grows (child_fine catenation_right h) m
piece_grows h (step union_left m) = piece_grows (child_fine union_left h) m
piece_grows h (step union_right m) = piece_grows (child_fine union_right h) m
piece_grows h (step operand m) = piece_grows (child_fine operand h) m
piece_grows h (step under m) = omega (arith, piece_grows (child_fine under h) m)

-- the stand-in of the child piece k below a site: `top` is the top piece's tree, and its records begin at `begin`
pub record PieceBelow (s : Site) (k : ℕ) : Type 0 where
  pub top : Nested Leaf
  pub begin : ℕ
  pub parent : ℕ
  pub place : ℕ
  pub inside : In s (site (below top) begin parent k place)

-- a child piece below a child is below its parent
piece_under : {s t : Site} {k : ℕ} → Child s t → PieceBelow t k → PieceBelow s k
piece_under c h = record {
  top = h.top;
  begin = h.begin;
  parent = h.parent;
  place = h.place;
  inside =
      step c h.inside;
}

-- each child piece below a site has a stand-in below it
pub piece_below : (x : Nested Leaf) (f p n i k : ℕ) → n ≤ k → k < n + run x → PieceBelow (site x f p n i) k
piece_below (leaf a) f p n i k low high = absurd (omega arith)
piece_below (catenation x y) f p n i k low high =
    elim (dec_lt k (n + run x)) [
      | yes h ↦ piece_under catenation_left (piece_below x f p n (i + 1) k low h)
      | no h ↦ piece_under catenation_right
          (piece_below y (f + size x) p (n + run x) (i + (1 + width x)) k (omega arith) (omega arith))
    ]
piece_below (union x y) f p n i k low high =
    elim (dec_lt k (n + run x)) [
      | yes h ↦ piece_under union_left (piece_below x f p n (i + 1) k low h)
      | no h ↦ piece_under union_right
          (piece_below y (f + size x) p (n + run x) (i + (1 + width x)) k (omega arith) (omega arith))
    ]
piece_below (star x) f p n i k low high = piece_under operand (piece_below x f p n (i + 1) k low high)
piece_below (below x) f p n i k low high =
    elim (dec_lt n k) [
      | yes h ↦ piece_under under (piece_below x f n (n + 1) 0 k (omega arith) (omega arith))
      | no h ↦ record {
        top = x;
        begin = f;
        parent = p;
        place = i;
        inside =
            subst (λ (m : ℕ). In (site (below x) f p n i) (site (below x) f p m i)) (omega arith) here;
      }
    ]
