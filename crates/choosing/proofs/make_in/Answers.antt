-- `choosing::make_in` meets its contract: what was made is the table of the language.
use Rattle.std.proofs.Common.{List, ℕ, ◌≡◌, ◌∙◌, sym, true, Option, Some, None, is_some}
use Rattle.language.specs.Tree.{Tree}
use Rattle.tree.specs.Leaf.{Leaf}
use Rattle.tabulating.specs.Tabulates.{Tabulates, table_made}
use Rattle.tabulating.specs.TabulatesLaws.{made_runs}
use Rattle.tabulating.specs.declared.Made.{Made}
use Rattle.choosing.specs.TableChoice.{AcceptsLanguage}
use Rattle.choosing.proofs.make_in.Goals as goal

-- a table that was made accepts the language
told_made : {classes : List ℕ} {t : Tree Leaf} {before after room cleared : List ℕ} (answer : Option Made)
    → is_some answer ≡ true → Tabulates classes t before after room cleared answer → AcceptsLanguage classes t after
told_made (Some made) some (table_made told) = record { texts = made_runs told }
told_made None some told = absurd (cc)

pub returns : goal.returns
returns g c = λ t prepared there.
    told_made c.tabulate.result (sym c.is_some.ensures ∙ there) (c.tabulate.ensures t prepared)
