-- Lists that are not good whatever they hold: one of no bytes, and one whose length is no multiple of a record's.
use Rattle.std.specs.Prelude.{ℕ, ◌%◌, ◌≡◌, List, [], length}
use Rattle.std.proofs.Common.{arith}
use Rattle.language.specs.Tree.{Tree}
use Rattle.tree.specs.Leaf.{Leaf}
use Rattle.tree.specs.Layout.{record_size}
use Rattle.tree.specs.Records.{Good}
use Rattle.tree.specs.Lengths.{nodes_positive}
use Rattle.deciding.specs.DecideLaws.{good_length}

-- a list of no bytes is not good: a tree has a node
pub no_bytes_not_good : (t : Tree Leaf) → Good [] t → ⊥
no_bytes_not_good t good = omega (arith, good_length [] t good, nodes_positive t)

-- a list of another length is not good: it has a whole record for each node
pub bad_length_not_good : (bytes : List ℕ) (t : Tree Leaf) → (length bytes % record_size ≡ 0 → ⊥) → Good bytes t → ⊥
bad_length_not_good bytes t odd good = odd (omega (arith, good_length bytes t good))
