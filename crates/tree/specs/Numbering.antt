-- The piece number of each node: pieces are numbered in the order in which a walk (node, left, right) first meets them.
use Rattle.std.specs.Prelude.{ℕ, ◌+◌, Bool, true, false, List, [], ◌∷◌, ◌++◌}
use Rattle.language.specs.Tree.{Tree, leaf, catenation, union, star}
use Rattle.tree.specs.Cut.{Cut, one, cuts}

-- the piece of a child: a new one, where the edge is cut, or its parent's
abbrev pub child_piece : Bool → ℕ → ℕ → ℕ
child_piece true piece new = new
child_piece false piece new = piece

-- a tree of something else, one for each node
pub data Nodewise (X : Type 0) : Type 0 where
  alone : X → Nodewise X
  above_one : X → Nodewise X → Nodewise X
  above_two : X → Nodewise X → Nodewise X → Nodewise X

-- what stands at the root
abbrev pub at_root : {X : Type 0} → Nodewise X → X
at_root (alone a) = a
at_root (above_one a x) = a
at_root (above_two a x y) = a

-- what stands at and below the left or only child
abbrev pub at_left : {X : Type 0} → Nodewise X → Nodewise X
at_left (alone a) = alone a
at_left (above_one a x) = x
at_left (above_two a x y) = x

-- what stands at and below the right child
abbrev pub at_right : {X : Type 0} → Nodewise X → Nodewise X
at_right (alone a) = alone a
at_right (above_one a x) = x
at_right (above_two a x y) = y

-- what the walk has at a node: the node's piece, and the number of the first piece that is new below it
pub record Walker : Type 0 where
  pub piece : ℕ
  pub new : ℕ

-- what the walk has at each node of a tree that is cut: the root is in the piece `piece`, and the pieces that are first
-- met below it are numbered from `new`
abbrev pub walked : {A : Type 0} (t : Tree A) → Cut t → (piece new : ℕ) → Nodewise Walker
walked (leaf a) c piece new = alone (record { piece = piece; new = new })
walked (catenation s t) c piece new =
    above_two (record { piece = piece; new = new })
    (walked s c.1 (child_piece c.0 piece new) (one c.0 + new))
    (walked t c.3 (child_piece c.2 piece (one c.0 + cuts s c.1 + new))
    (one c.2 + (one c.0 + cuts s c.1 + new)))
walked (union s t) c piece new =
    above_two (record { piece = piece; new = new })
    (walked s c.1 (child_piece c.0 piece new) (one c.0 + new))
    (walked t c.3 (child_piece c.2 piece (one c.0 + cuts s c.1 + new))
    (one c.2 + (one c.0 + cuts s c.1 + new)))
walked (star s) c piece new =
    above_one (record { piece = piece; new = new })
    (walked s c.1 (child_piece c.0 piece new) (one c.0 + new))

-- a number for each node
abbrev pub NodeNumbers : Type 0
NodeNumbers = Nodewise ℕ

-- the pieces alone
abbrev pub its_pieces : Nodewise Walker → NodeNumbers
its_pieces (alone a) = alone a.piece
its_pieces (above_one a x) = above_one a.piece (its_pieces x)
its_pieces (above_two a x y) = above_two a.piece (its_pieces x) (its_pieces y)

-- the piece of each node of a tree that is cut: the root is in the piece `piece`, and those that a walk first meets
-- below it are numbered from `new`
abbrev pub numbered : {A : Type 0} (t : Tree A) → Cut t → (piece new : ℕ) → NodeNumbers
numbered t c piece new = its_pieces (walked t c piece new)

-- the numbers in the order of a walk: node, left, right
abbrev pub in_walk : NodeNumbers → List ℕ
in_walk (alone n) = n ∷ []
in_walk (above_one n x) = n ∷ in_walk x
in_walk (above_two n x y) = n ∷ (in_walk x ++ in_walk y)

-- the numbers in the order of the records: left, right, node
abbrev pub in_postorder : NodeNumbers → List ℕ
in_postorder (alone n) = n ∷ []
in_postorder (above_one n x) = in_postorder x ++ (n ∷ [])
in_postorder (above_two n x y) = in_postorder x ++ in_postorder y ++ (n ∷ [])
