-- The leaf of the empty text by itself: its record is a good list, with a character it is none, and its only text is
-- the empty one.
use Rattle.std.specs.Prelude.{ℕ, suc, ◌≡◌, refl, ◌↔◌, List, [], length, get_or}
use Rattle.std.proofs.Common.{ap, ⊎_elim, inr, arith}
use Rattle.language.specs.Tree.{Tree, leaf, catenation, union, star}
use Rattle.tree.specs.Leaf.{Leaf, Matches}
use Rattle.tree.specs.Layout.{record_of, empty_kind, no_child}
use Rattle.tree.specs.Places.{bare}
use Rattle.tree.specs.PlacesLaws.{length_bare}
use Rattle.tree.specs.Records.{encode, piece_count, Good}
use Rattle.tree.specs.Lengths.{nodes_positive, length_encode}

-- a record of kind 6 with no child, in piece 0 and at place 0
abbrev pub empty_record : (character : ℕ) → List ℕ
empty_record character = record_of empty_kind character no_child no_child 0

-- without a character it is the list of the leaf of the empty text
pub empty_leaf_good : Good (empty_record 0) (leaf Leaf.empty_text)
unfolding bare encode piece_count
empty_leaf_good = record {
  of_tree = refl;
  placed = record { each = λ r inside. let only : r ≡ 0 = omega arith in rw only (omega arith) };
  few = omega arith;
  ranked = record { each = λ j inside. absurd (omega arith) };
}

-- with one it is the list of no tree
no_character : (c : ℕ) (t : Tree Leaf) → bare (empty_record (suc c)) ≡ encode t → ⊥
unfolding bare encode
no_character c (leaf (Leaf.character a)) e = omega (arith, ap (λ (l : List ℕ). get_or l 0 0) e)
no_character c (leaf (Leaf.class k)) e = omega (arith, ap (λ (l : List ℕ). get_or l 0 0) e)
no_character c (leaf Leaf.empty_text) e = omega (arith, ap (λ (l : List ℕ). get_or l 1 0) e)
no_character c (catenation s t) e =
    omega (arith, length_bare (empty_record (suc c)), ap length e, length_encode (catenation s t), nodes_positive s)
no_character c (union s t) e =
    omega (arith, length_bare (empty_record (suc c)), ap length e, length_encode (union s t), nodes_positive s)
no_character c (star s) e =
    omega (arith, length_bare (empty_record (suc c)), ap length e, length_encode (star s), nodes_positive s)

pub empty_leaf_has_no_character : (c : ℕ) (t : Tree Leaf) → Good (empty_record (suc c)) t → ⊥
empty_leaf_has_no_character c t good = no_character c t good.of_tree

-- it has the empty text and no other, by all class records
pub empty_leaf_exactly : (classes w : List ℕ) → Matches classes (leaf Leaf.empty_text) w ↔ (w ≡ [])
empty_leaf_exactly classes w = (⊎_elim (λ taken. absurd taken.2) (λ has. has.0), λ e. inr (e, refl))
