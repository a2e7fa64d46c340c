-- What writing the records leaves in the buffer, and how far it has come.
use Rattle.std.specs.Prelude.{ℕ, ◌*◌, ◌≡◌, List, ◌++◌, take, drop}
use Rattle.language.specs.Tree.{Tree, nodes}
use Rattle.tree.specs.Leaf.{Leaf}
use Rattle.tree.specs.Layout.{record_size}
use Rattle.tree.specs.Records.{labels, encode}

-- the records of the tree with these labels, and what stood there before past them
pub record Recorded (ls before after : List ℕ) : Type 0 where
  pub bytes : (t : Tree Leaf) → ls ≡ labels t → after ≡ encode t ++ drop (record_size * nodes t) before

-- the first i of them
pub record WrittenSoFar (ls before after : List ℕ) (i : ℕ) : Type 0 where
  pub bytes : (t : Tree Leaf) → ls ≡ labels t
      → after ≡ take (record_size * i) (encode t) ++ drop (record_size * i) before
