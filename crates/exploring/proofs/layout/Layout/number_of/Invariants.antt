-- `exploring::layout::Layout::number_of` meets its contract: the number is that of the first k words.
use Prim.Native.Nat.{◌≤◌}
use mathlib.Core.Path.{◌≡◌}
use Rattle.exploring.specs.Keys.{number_under}
use Rattle.exploring.proofs.layout.Layout.number_of.Given as goal

abbrev pub invariant-loop-k : goal.invariant-loop-k
invariant-loop-k l =
    (l.k ≤ l.self.count) × (l.number ≡ number_under l.self.masks l.words l.k)
