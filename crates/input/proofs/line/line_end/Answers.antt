-- `input::line::line_end` meets its contract: the first end from a place on, counted from the front.
use Rattle.std.proofs.Common.{subst, List, ℕ}
use Rattle.std.proofs.lemmas.List.{take_rest}
use Rattle.input.proofs.EndLaws.{ends_from}
use Rattle.input.proofs.line.line_end.Goals as goal

pub returns : goal.returns
returns c = ends_from _ _ _ c.requires (rw take_rest at c.first_end.ensures)
