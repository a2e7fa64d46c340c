-- `picker::texts::list_texts` meets its contract: the list is good, so deciding on it gives its counts.
use Rattle.std.specs.Option.{IsSome}
use Rattle.std.proofs.Common.{Option, Some, None, ℕ, List, refl}
use Rattle.planning.specs.Given.{GoodList}
use Rattle.deciding.specs.Judged.{FitsAnswer}
use Rattle.tree.specs.declared.counted.Counts.{Counts}
use Rattle.picker.proofs.texts.list_texts.Goals as goal

-- a good list is decided to be good
decided : (list : List ℕ) (answer : Option Counts) → GoodList list → FitsAnswer list answer → IsSome answer
decided list None good fits = absurd (fits good.some good.good)
decided list (Some counts) good fits = refl

pub unwrap-counts-requires : goal.unwrap-counts-requires
unwrap-counts-requires c = decided c.args.list.now c.prepare_list.result c.requires.list c.prepare_list.ensures.judged.fits
