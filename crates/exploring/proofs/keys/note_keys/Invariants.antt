-- `exploring::keys::note_keys` meets its contract: the masks of the leaves of the first k pieces are noted.
use Prim.Native.Nat.{◌≤◌}
use mathlib.Core.Path.{◌≡◌}
use Rattle.tables.specs.Plan.{leaves_mask}
use Rattle.closing.specs.BitsOfWords.MadeAnew.{MadeAnew}
use Rattle.exploring.proofs.keys.note_keys.Given as goal

abbrev pub invariant-loop-k : goal.invariant-loop-k
invariant-loop-k l =
    (l.k ≤ l.count) × MadeAnew (λ j v. v ≡ leaves_mask l.rows j) l.initial.masks l.masks 0 l.k
