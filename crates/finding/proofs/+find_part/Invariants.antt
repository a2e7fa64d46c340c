-- The measure is 1 for the whole text and 0 for a part.
use Prim.Native.Nat.{ℕ}
use Rattle.finding.specs.declared.Sought.{Sought}
use Rattle.finding.specs.declared.Sought.TheVariants.{WholeText, FirstPart}
use Rattle.finding.proofs.+find_part.Given as goal

-- a part is sought after the whole text
abbrev pub still : Sought → ℕ
still WholeText = 1
still FirstPart = 0

abbrev pub decreases-find_part : goal.decreases-find_part
decreases-find_part l = still l.sought
