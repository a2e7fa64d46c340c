-- How many trees are left after some labels, and what is said of labels that are one tree's.
use Rattle.std.specs.Prelude.{ℕ, ◌+◌, ◌-◌, ◌≡◌, Bool, true, false, List, [], length, take}
use Rattle.std.proofs.Math.Option.{Option, none, some}
use Rattle.language.specs.Tree.{Tree}
use Rattle.tree.specs.Leaf.{Leaf}
use Rattle.tree.specs.Postorder.{Asked, a_leaf, a_catenation, a_union, a_star, nothing, built}
use Rattle.cutting.specs.Measured.{Postorder}

-- how deep the stack is after a label: 0 where the trees that it asks for are not there
abbrev pub depth_after : Asked → ℕ → ℕ
depth_after (a_leaf a) depth = depth + 1
depth_after a_catenation depth = depth - 1
depth_after a_union depth = depth - 1
depth_after a_star depth = depth
depth_after nothing depth = 0

-- how deep a stack is, 0 for none
abbrev pub depth_of : Option (List (Tree Leaf)) → ℕ
depth_of none = 0
depth_of (some stack) = length stack

-- the machine has read the first i labels, and its stack is that deep
pub record TreesWaiting (ls : List ℕ) (i depth : ℕ) : Type 0 where
  pub stack : List (Tree Leaf)
  pub so_far : built (take i ls) [] ≡ some stack
  pub deep : length stack ≡ depth

-- b says whether the labels are those of one tree
pub record OneTree (ls : List ℕ) (b : Bool) : Type 0 where
  pub if_so : b ≡ true → Postorder ls
  pub if_not : b ≡ false → Postorder ls → ⊥
