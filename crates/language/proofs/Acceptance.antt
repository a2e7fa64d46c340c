-- The plain simulation of a tree's automaton accepts exactly the texts of the tree's language.
use Rattle.std.specs.Prelude.{ℕ, List, ◌↔◌}
use Rattle.language.specs.Tree.{Tree}
use Rattle.language.specs.Meaning.{Meaning}
use Rattle.language.specs.Language.{Language}
use Rattle.language.specs.Automaton.{Accepts}
use Rattle.language.proofs.Rest.{accepted_language}
use Rattle.language.proofs.TextRuns.{language_accepted}

pub accepts_exactly : {A : Type 0} (M : Meaning A) (t : Tree A) (w : List ℕ)
    → Accepts M t w ↔ Language M t w
accepts_exactly M t w = (accepted_language M t w, language_accepted M t w)
