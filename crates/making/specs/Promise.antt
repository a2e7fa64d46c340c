-- What the making of a table promises of the numbers that it gives back, and of every entry and word that was lent.
use Rattle.std.specs.Prelude.{ℕ, ◌≡◌, List}
use Rattle.language.specs.Tree.{Tree}
use Rattle.tree.specs.RefusalNumbers.{list_not_good, class_buffer_too_short}
use Rattle.tree.specs.Leaf.{Leaf}
use Rattle.tree.specs.Records.{Good}
use Rattle.marks.specs.Promise.{IsNotGood, Classed, HasTooFewClasses}
use Rattle.tabulating.specs.Tabulates.{TableMade, CannotFit}
use Rattle.making.specs.Answer.{not_made, making}
use Rattle.making.specs.declared.numbers.MadeNumbers.{MadeNumbers}

-- the refusals, in their order
pub data RefusesMaking (list classes : List ℕ) : ℕ → Type 0 where
  not_good : IsNotGood list → RefusesMaking list classes list_not_good
  too_few_classes : HasTooFewClasses list classes → RefusesMaking list classes class_buffer_too_short

-- the list is good, there are class records enough, and P holds of the list's tree
pub record OfGoodClassed (list classes : List ℕ) (P : Tree Leaf → Type 0) : Type 0 where
  pub t : Tree Leaf
  pub good : Good list t
  pub classed : Classed classes t
  pub holds : P t

-- a refusal, which changes nothing; or the table of the list's tree is made; or it does not fit
pub data Makes (list classes table after room cleared : List ℕ) : MadeNumbers → Type 0 where
  refused : {number : ℕ} → RefusesMaking list classes number → after ≡ table → cleared ≡ room
      → Makes list classes table after room cleared (not_made number)
  table_made : {states entries : ℕ}
      → OfGoodClassed list classes (λ t. TableMade classes t table after room cleared states entries)
      → Makes list classes table after room cleared (making states entries)
  does_not_fit : OfGoodClassed list classes (λ t. CannotFit classes t table after room cleared)
      → Makes list classes table after room cleared (not_made 0)
