-- Every node of what is written has the place of a byte of the expression: at most 1,023.
use Rattle.std.specs.Prelude.{ℕ, ◌<◌, List, length}
use Rattle.std.proofs.Common.{arith}
use Rattle.language.specs.SignedTree.{SignedTree}
use Rattle.language.specs.PlacedTree.{places}
use Rattle.language.specs.PlacedStandsFor.{placed_stands_for}
use Rattle.language.specs.EachPlace.{Each, EachWritten}
use Rattle.language.proofs.EachPlace.{each_stands_for}
use Rattle.operands.specs.Bytes.{Syntax}
use Rattle.operands.specs.Scanner.{Atom, no_text}
use Rattle.operands.specs.Grammar.{Level, Spells, Written, itself, escaped, any_but_line_end, bracketed, group, no_sign, one_star, one_or_more, none_or_one, so_many, one_factor, next_factor, one_branch, next_branch}
use Rattle.operands.specs.Agree.{reads_shorter}

-- the places of what is read are below the size of the expression
spelled_inside : {syntax : Syntax} {size depth : ℕ} {level : Level} {bytes rest : List ℕ} {t : SignedTree Atom}
    → Spells syntax size depth level bytes rest t → EachWritten (λ place. place < size) t
spelled_inside (itself p at) = omega arith
spelled_inside (escaped p at) = omega arith
spelled_inside (any_but_line_end p at) = omega arith
spelled_inside (bracketed p at r) = omega arith
spelled_inside (group h r) = spelled_inside r
spelled_inside (no_sign r) = spelled_inside r
spelled_inside (one_star at r) = (omega arith, spelled_inside r)
spelled_inside (one_or_more p at r) = (omega arith, spelled_inside r)
spelled_inside (none_or_one p at r) = (omega arith, spelled_inside r)
spelled_inside (so_many p at r q) = (omega arith, spelled_inside r)
spelled_inside (one_factor r) = spelled_inside r
spelled_inside (next_factor at r q) = (omega (arith, reads_shorter q), spelled_inside r, spelled_inside q)
spelled_inside (one_branch r) = spelled_inside r
spelled_inside (next_branch at r q) = (omega arith, spelled_inside r, spelled_inside q)

-- so are those of the tree that it stands for
pub places_inside : {syntax : Syntax} {bytes : List ℕ} {t : SignedTree Atom} → Written syntax bytes t
    → Each (λ place. place < length bytes) (places (placed_stands_for no_text t))
places_inside {bytes = bytes} {t = t} w =
    each_stands_for (λ place. place < length bytes) no_text t (spelled_inside w)
