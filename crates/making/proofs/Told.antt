-- What the making of a table, and of the rows before it, tell of a list, by their cases.
use Rattle.std.proofs.Common.{ℕ, List, Option, Some, None, Ok}
use Rattle.preparing.specs.MadeFor.{RefusedFor, not_good as list_not_good, too_few_classes as few_classes}
use Rattle.tabulating.specs.declared.Made.{Made}
use Rattle.tabulating.specs.Tabulates.{Tabulates, table_made as tabulated, does_not_fit as too_large}
use Rattle.making.specs.Answer.{made_numbers}
use Rattle.making.specs.Promise.{RefusesMaking, not_good, too_few_classes, OfGoodClassed, Makes, table_made, does_not_fit}

-- a list that is refused when its rows are made is refused here
pub told_refused : {list classes : List ℕ} {number : ℕ} → RefusedFor list classes number
    → RefusesMaking list classes number
told_refused (list_not_good why) = not_good why
told_refused (few_classes why) = too_few_classes why

-- what is tabulated of the list's tree is what is made
pub told_answer : {list classes table after room cleared : List ℕ} (answer : Option Made)
    → OfGoodClassed list classes (λ t. Tabulates classes t table after room cleared answer)
    → Makes list classes table after room cleared (made_numbers (Ok answer))
told_answer {list} {classes} {table} {after} {room} {cleared} (Some made) of = of_made of.holds
  where
    of_made : Tabulates classes of.t table after room cleared (Some made)
        → Makes list classes table after room cleared (made_numbers (Ok (Some made)))
    of_made (tabulated holds) =
        table_made (record { t = of.t; good = of.good; classed = of.classed; holds = holds })
told_answer {list} {classes} {table} {after} {room} {cleared} None of = of_none of.holds
  where
    of_none : Tabulates classes of.t table after room cleared None
        → Makes list classes table after room cleared (made_numbers (Ok None))
    of_none (too_large holds) =
        does_not_fit (record { t = of.t; good = of.good; classed = of.classed; holds = holds })
