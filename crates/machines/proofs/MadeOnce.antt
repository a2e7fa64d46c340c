-- A table that is made of a tree is told by the tree and by what was there before.
use Rattle.std.specs.Prelude.{ℕ, ◌≡◌, List}
use Rattle.language.specs.Tree.{Tree}
use Rattle.tree.specs.Leaf.{Leaf}
use Rattle.machines.specs.Columns.{Columned}
use Rattle.machines.specs.Explored.{FoundAllStates}
use Rattle.machines.specs.TableOf.{TableOf}
use Rattle.machines.proofs.ColumnsUnique.{columned_once}
use Rattle.machines.specs.AllFoundLaws.{all_found_once}
use Rattle.machines.specs.TableUnique.{table_once}

module _ {classes : List ℕ} {t : Tree Leaf} {f c g d : List ℕ} {v w : List (List ℕ)} {m n : List ℕ}
    (columned : Columned classes t f c) (all : FoundAllStates classes t f v m) (columned-too : Columned classes t g d)
    (all_too : FoundAllStates classes t g w n) where
  -- the same states, where the columns are made and all states are found
  pub states_once : (f ≡ g) × (c ≡ d) × (v ≡ w) × (m ≡ n)
  states_once =
      let (firsts, columns) = columned_once columned columned-too in
      let (texts, entries) = all_found_once classes t g (rw firsts at all) all_too in
      (firsts, columns, texts, entries)

  -- the result: the same table
  pub made_once : {before a b : List ℕ} → TableOf classes t f c v m before a → TableOf classes t g d w n before b
      → a ≡ b
  made_once one other =
      let (firsts, columns, texts, entries) = states_once in
      table_once (rw (firsts, columns, texts, entries) at one) other
