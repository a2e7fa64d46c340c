-- The answer for the part that is lent is what the table says of the line.
use Rattle.std.specs.Prelude.{ℕ, ◌-◌, ◌≡◌, Bool, List, take, drop}
use Rattle.std.proofs.Common.{arith}
use Rattle.matching.specs.Found.{part}
use Rattle.running.specs.Runs.{runs}
use Rattle.input.specs.Ends.{Ends}
use Rattle.input.proofs.EndLaws.{lent_part}
use Rattle.table_lines.specs.Promise.{TableSays}

pub lent_runs : (table : List ℕ) {text : List ℕ} {place end : ℕ} → Ends text place end → (matched : Bool)
    → matched ≡ runs table (take (end - place) (drop place text)) → TableSays table (part place end text) matched
lent_runs table {text} {place} {end} ends matched says =
    rw (lent_part place end text ends.ordered (omega (arith, ends))) at says
