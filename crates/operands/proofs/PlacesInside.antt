-- Every node of what is written has the place of a byte of the expression: at most 1,023.
use Rattle.std.specs.Prelude.{ℕ, ◌≤◌, ◌<◌, ◌≡◌, List, length}
use Rattle.std.proofs.Common.{arith}
use Rattle.language.specs.SignedTree.{SignedTree}
use Rattle.language.specs.PlacedTree.{places}
use Rattle.language.specs.PlacedStandsFor.{placed_stands_for}
use Rattle.language.specs.EachPlace.{Each}
use Rattle.language.proofs.EachPlace.{each_also}
use Rattle.tree.specs.Limits.{most_place}
use Rattle.operands.specs.Bytes.{Syntax}
use Rattle.operands.specs.Scanner.{Atom, no_text, tree, scanned}
use Rattle.operands.proofs.Agree.{scanned_exactly}
use Rattle.operands.specs.PlacesInside.{places_inside}

-- and the places of an expression that is taken are at most 1,023
pub low_places : (syntax : Syntax) (bytes : List ℕ) (t : SignedTree Atom) → scanned syntax bytes ≡ tree t
    → Each (λ place. place ≤ most_place) (places (placed_stands_for no_text t))
low_places syntax bytes t e =
    let (short, w) = (scanned_exactly syntax bytes t).0 e in
    each_also (λ place. place < length bytes) (λ place. place ≤ most_place) (λ place h. omega arith)
    (places (placed_stands_for no_text t)) (places_inside w)
