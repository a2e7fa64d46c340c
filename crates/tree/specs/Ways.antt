-- Nodes of a tree by the way down to them, and when no cut edge lies between two of them.
use Rattle.std.specs.Prelude.{ℕ, ◌≡◌, false}
use Rattle.language.specs.Tree.{Tree, leaf, catenation, union, star}
use Rattle.tree.specs.Cut.{Cut}
use Rattle.tree.specs.Numbering.{NodeNumbers, alone, above_one, above_two}

-- a way down from the root: it ends here, or goes to the left or only child, or to the right one
pub data Way : Type 0 where
  here : Way
  left : Way → Way
  right : Way → Way

-- it leads to a node of the tree
abbrev pub Node : {A : Type 0} → Tree A → Way → Type 0
Node t here = Unit {0}
Node (leaf a) (left w) = ⊥
Node (leaf a) (right w) = ⊥
Node (catenation s t) (left w) = Node s w
Node (catenation s t) (right w) = Node t w
Node (union s t) (left w) = Node s w
Node (union s t) (right w) = Node t w
Node (star s) (left w) = Node s w
Node (star s) (right w) = ⊥

-- the number of the node at its end
abbrev pub number_of : NodeNumbers → Way → ℕ
number_of (alone n) w = n
number_of (above_one n x) here = n
number_of (above_one n x) (left w) = number_of x w
number_of (above_one n x) (right w) = n
number_of (above_two n x y) here = n
number_of (above_two n x y) (left w) = number_of x w
number_of (above_two n x y) (right w) = number_of y w

-- no edge on it is cut
abbrev pub Uncut : {A : Type 0} (t : Tree A) → Cut t → Way → Type 0
Uncut t c here = Unit {0}
Uncut (leaf a) c (left w) = ⊥
Uncut (leaf a) c (right w) = ⊥
Uncut (catenation s t) c (left w) = (c.0 ≡ false) × Uncut s c.1 w
Uncut (catenation s t) c (right w) = (c.2 ≡ false) × Uncut t c.3 w
Uncut (union s t) c (left w) = (c.0 ≡ false) × Uncut s c.1 w
Uncut (union s t) c (right w) = (c.2 ≡ false) × Uncut t c.3 w
Uncut (star s) c (left w) = (c.0 ≡ false) × Uncut s c.1 w
Uncut (star s) c (right w) = ⊥

-- no cut edge lies between the ends of two ways: where the ways part, neither goes on over a cut edge
abbrev pub UncutBetween : {A : Type 0} (t : Tree A) → Cut t → Way → Way → Type 0
UncutBetween t c here w = Uncut t c w
UncutBetween t c (left v) here = Uncut t c (left v)
UncutBetween t c (right v) here = Uncut t c (right v)
UncutBetween t c (left v) (right w) = Uncut t c (left v) × Uncut t c (right w)
UncutBetween t c (right v) (left w) = Uncut t c (right v) × Uncut t c (left w)
UncutBetween (leaf a) c (left v) (left w) = ⊥
UncutBetween (leaf a) c (right v) (right w) = ⊥
UncutBetween (catenation s t) c (left v) (left w) = UncutBetween s c.1 v w
UncutBetween (catenation s t) c (right v) (right w) = UncutBetween t c.3 v w
UncutBetween (union s t) c (left v) (left w) = UncutBetween s c.1 v w
UncutBetween (union s t) c (right v) (right w) = UncutBetween t c.3 v w
UncutBetween (star s) c (left v) (left w) = UncutBetween s c.1 v w
UncutBetween (star s) c (right v) (right w) = ⊥
