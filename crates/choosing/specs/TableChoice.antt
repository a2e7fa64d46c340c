-- When a text may be run over a table in place of its marks.
use Rattle.std.specs.Prelude.{ℕ, ◌<◌, ◌≡◌, true, ◌↔◌, List, length, get_or}
use Rattle.language.specs.Tree.{Tree}
use Rattle.tree.specs.Leaf.{Leaf, Matches}
use Rattle.running.specs.Runs.{runs}
use Rattle.machines.specs.Columns.{byte_count}

-- the table accepts exactly the texts of the language, as far as they are of bytes
pub record AcceptsLanguage (classes : List ℕ) (t : Tree Leaf) (table : List ℕ) : Type 0 where
  pub texts : (w : List ℕ) → ((i : ℕ) → i < length w → get_or w i 0 < byte_count)
      → (runs table w ≡ true) ↔ Matches classes t w
