-- Leaves of a tree that take two bytes alike are those that do not tell them apart.
use Rattle.std.specs.Prelude.{ℕ, ◌↔◌, List}
use Rattle.language.specs.Tree.{Tree, leaf, catenation, union, star}
use Rattle.language.specs.Automaton.{State, start, accepting, left, right, Reads}
use Rattle.language.specs.TakenAsOne.{NotToldApart}
use Rattle.tree.specs.Leaf.{Leaf, TakesByte, meaning}
use Rattle.moving.specs.Codes.{leaf_taken, leaf_takes}
use Rattle.columns.specs.Alike.{Alike, LeavesAlike}

-- alike the other way round
pub alike_back : {classes : List ℕ} {n b c : ℕ} → Alike classes n b c → Alike classes n c b
alike_back alike = record { taken = (alike.taken.1, alike.taken.0) }

module _ (classes : List ℕ) where
  -- so it is of leaves
  leaves_back : (b c : ℕ) (t : Tree Leaf) → LeavesAlike classes b c t → LeavesAlike classes c b t
  leaves_back b c (leaf a) alike = alike_back alike
  leaves_back b c (catenation s t) alike = (leaves_back b c s alike.0, leaves_back b c t alike.1)
  leaves_back b c (union s t) alike = (leaves_back b c s alike.0, leaves_back b c t alike.1)
  leaves_back b c (star s) alike = leaves_back b c s alike

  -- a transition that reads one of two bytes reads the other
  reads_alike : (b c : ℕ) (t : Tree Leaf) → LeavesAlike classes b c t → {p q : State} → Reads (meaning classes) b t p q
      → Reads (meaning classes) c t p q
  reads_alike b c (leaf a) alike (Reads.at_leaf takes) =
      Reads.at_leaf (leaf_takes a (alike.taken.0 (leaf_taken a takes)))
  reads_alike b c (catenation s t) alike (Reads.catenation_left r) =
      Reads.catenation_left (reads_alike b c s alike.0 r)
  reads_alike b c (catenation s t) alike (Reads.catenation_right r) =
      Reads.catenation_right (reads_alike b c t alike.1 r)
  reads_alike b c (union s t) alike (Reads.union_left r) = Reads.union_left (reads_alike b c s alike.0 r)
  reads_alike b c (union s t) alike (Reads.union_right r) = Reads.union_right (reads_alike b c t alike.1 r)
  reads_alike b c (star s) alike (Reads.star_inside r) = Reads.star_inside (reads_alike b c s alike r)

  -- what the transitions of a node's parts are told by those of the node
  at_leaf_takes : {b : ℕ} {a : Leaf} → Reads (meaning classes) b (leaf a) start accepting → TakesByte classes a b
  at_leaf_takes (Reads.at_leaf takes) = takes

  in_left : {b : ℕ} {s t : Tree Leaf} {p q : State} → Reads (meaning classes) b (catenation s t) (left p) (left q)
      → Reads (meaning classes) b s p q
  in_left (Reads.catenation_left r) = r

  in_right : {b : ℕ} {s t : Tree Leaf} {p q : State} → Reads (meaning classes) b (catenation s t) (right p) (right q)
      → Reads (meaning classes) b t p q
  in_right (Reads.catenation_right r) = r

  in_first : {b : ℕ} {s t : Tree Leaf} {p q : State} → Reads (meaning classes) b (union s t) (left p) (left q)
      → Reads (meaning classes) b s p q
  in_first (Reads.union_left r) = r

  in_second : {b : ℕ} {s t : Tree Leaf} {p q : State} → Reads (meaning classes) b (union s t) (right p) (right q)
      → Reads (meaning classes) b t p q
  in_second (Reads.union_right r) = r

  inside : {b : ℕ} {s : Tree Leaf} {p q : State} → Reads (meaning classes) b (star s) (left p) (left q)
      → Reads (meaning classes) b s p q
  inside (Reads.star_inside r) = r

  -- where it does, the leaves take them alike
  leaves_alike : (b c : ℕ) (t : Tree Leaf) → NotToldApart (meaning classes) t b c → LeavesAlike classes b c t
  leaves_alike b c (leaf a) same = record {
    taken = (
      λ takes. leaf_taken a (at_leaf_takes ((same start accepting).0 (Reads.at_leaf (leaf_takes a takes)))),
      λ takes. leaf_taken a (at_leaf_takes ((same start accepting).1 (Reads.at_leaf (leaf_takes a takes)))),
    );
  }
  leaves_alike b c (catenation s t) same = (
    leaves_alike b c s (λ p q. (
      λ r. in_left ((same (left p) (left q)).0 (Reads.catenation_left r)),
      λ r. in_left ((same (left p) (left q)).1 (Reads.catenation_left r)),
    )),
    leaves_alike b c t (λ p q. (
      λ r. in_right ((same (right p) (right q)).0 (Reads.catenation_right r)),
      λ r. in_right ((same (right p) (right q)).1 (Reads.catenation_right r)),
    )),
  )
  leaves_alike b c (union s t) same = (
    leaves_alike b c s (λ p q. (
      λ r. in_first ((same (left p) (left q)).0 (Reads.union_left r)),
      λ r. in_first ((same (left p) (left q)).1 (Reads.union_left r)),
    )),
    leaves_alike b c t (λ p q. (
      λ r. in_second ((same (right p) (right q)).0 (Reads.union_right r)),
      λ r. in_second ((same (right p) (right q)).1 (Reads.union_right r)),
    )),
  )
  leaves_alike b c (star s) same = leaves_alike b c s (λ p q. (
    λ r. inside ((same (left p) (left q)).0 (Reads.star_inside r)),
    λ r. inside ((same (left p) (left q)).1 (Reads.star_inside r)),
  ))

  -- leaves take two bytes alike exactly where none tells them apart
  pub not_told_apart : (b c : ℕ) (t : Tree Leaf) → LeavesAlike classes b c t
      ↔ NotToldApart (meaning classes) t b c
  not_told_apart b c t = (
    λ alike p q. (reads_alike b c t alike, reads_alike c b t (leaves_back b c t alike)),
    leaves_alike b c t,
  )
