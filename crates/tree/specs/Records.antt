-- Tree records: one for each node, in postorder.
use Rattle.std.specs.Prelude.{ℕ, ◌+◌, ◌-◌, ◌≤◌, ◌<◌, ◌≡◌, List, [], ◌∷◌, ◌++◌, length, get_or}
use Rattle.language.specs.Tree.{Tree, leaf, catenation, union, star, nodes}
use Rattle.tree.specs.Leaf.{Leaf}
use Rattle.tree.specs.Limits.{most_pieces}
use Rattle.tree.specs.Layout.{
  record_of,
  label_of,
  no_child,
  character_kind,
  catenation_kind,
  union_kind,
  star_kind,
  class_kind,
  empty_kind,
  class_label,
}
use Rattle.tree.specs.Places.{bare, LowPlaces}
use Rattle.tree.specs.Cut.{pieces, wanted}
use Rattle.tree.specs.Numbering.{NodeNumbers, at_root, at_left, at_right, numbered}

-- the kind of a leaf's record
abbrev pub leaf_kind : Leaf → ℕ
leaf_kind (Leaf.character c) = character_kind
leaf_kind (Leaf.class k) = class_kind
leaf_kind Leaf.empty_text = empty_kind

-- its character: 0 for a class and for the empty text
abbrev pub leaf_character : Leaf → ℕ
leaf_character (Leaf.character c) = c
leaf_character (Leaf.class k) = 0
leaf_character Leaf.empty_text = 0

-- what stands where a node has its left child: a class has its number there
abbrev pub leaf_number : Leaf → ℕ
leaf_number (Leaf.character c) = no_child
leaf_number (Leaf.class k) = k
leaf_number Leaf.empty_text = no_child

-- the records of t, whose nodes are in the pieces that x tells. Its first record has the number `first`
abbrev pub records : Tree Leaf → NodeNumbers → (first : ℕ) → List ℕ
records (leaf a) x first = record_of (leaf_kind a) (leaf_character a) (leaf_number a) no_child (at_root x)
records (catenation s t) x first =
    records s (at_left x) first
    ++ records t (at_right x) (first + nodes s)
    ++ record_of catenation_kind 0 (first + nodes s - 1) (first + nodes s + nodes t - 1) (at_root x)
records (union s t) x first =
    records s (at_left x) first
    ++ records t (at_right x) (first + nodes s)
    ++ record_of union_kind 0 (first + nodes s - 1) (first + nodes s + nodes t - 1) (at_root x)
records (star s) x first =
    records s (at_left x) first
    ++ record_of star_kind 0 (first + nodes s - 1) no_child (at_root x)

-- the list of a tree: its records, with the pieces of the wanted cut; the root's piece is 0. Shut, as the piece count
-- is: the layers above use what is proved of them
unfoldable pub encode : Tree Leaf → List ℕ
encode t = records t (numbered t (wanted t) 0 1) 0

-- how many pieces the wanted cut of t has
unfoldable pub piece_count : Tree Leaf → ℕ
piece_count t = pieces t (wanted t)

-- the numbers of the class leaves, in the order of the leaves
abbrev pub class_numbers : Tree Leaf → List ℕ
class_numbers (leaf (Leaf.character c)) = []
class_numbers (leaf (Leaf.class k)) = k ∷ []
class_numbers (leaf Leaf.empty_text) = []
class_numbers (catenation s t) = class_numbers s ++ class_numbers t
class_numbers (union s t) = class_numbers s ++ class_numbers t
class_numbers (star s) = class_numbers s

-- how many class leaves there are
abbrev pub class_count : Tree Leaf → ℕ
class_count t = length (class_numbers t)

-- the number of each class leaf is its rank among them: 0, 1, 2 and so on, in the order of the leaves
pub record Ranked (t : Tree Leaf) : Type 0 where
  pub each : (j : ℕ) → j < class_count t → get_or (class_numbers t) j 0 ≡ j

-- the list is good, and t is its tree: but for the places it is the list of t, every place is at most 1,023, there are
-- at most 128 pieces, and classes are numbered by their rank
pub record Good (bytes : List ℕ) (t : Tree Leaf) : Type 0 where
  pub of_tree : bare bytes ≡ encode t
  pub placed : LowPlaces bytes
  pub few : piece_count t ≤ most_pieces
  pub ranked : Ranked t

-- the label of a leaf's record
abbrev pub leaf_label : Leaf → ℕ
leaf_label (Leaf.character c) = label_of character_kind c
leaf_label (Leaf.class k) = class_label k
leaf_label Leaf.empty_text = label_of empty_kind 0

-- the labels of a tree's records, in their order: what remains of a list when child and piece numbers are left out
abbrev pub labels : Tree Leaf → List ℕ
labels (leaf a) = leaf_label a ∷ []
labels (catenation s t) = labels s ++ labels t ++ (label_of catenation_kind 0 ∷ [])
labels (union s t) = labels s ++ labels t ++ (label_of union_kind 0 ∷ [])
labels (star s) = labels s ++ (label_of star_kind 0 ∷ [])
