-- What the grammar reads, the scanner reads: whatever stands around it, the scan passes over a written tree and goes on
-- after it.
use Rattle.std.specs.Prelude.{ℕ, ◌+◌, ◌≡◌, List, length}
use Rattle.std.proofs.Math.Option.{Option, none}
use Rattle.language.specs.SignedTree.{SignedTree}
use Rattle.operands.specs.Bytes.{Syntax}
use Rattle.operands.specs.Scanner.{Atom, due, after, Waiting, Before, Group, nothing, catenated, finished, scan}
use Rattle.operands.specs.Grammar.{Level, single, starred, joined, united, BeginsAt}

-- with an operand due, the scan of the bytes at a place goes on with the rest, after this last tree, at the place that
-- many bytes further
pub record ScansOn (syntax : Syntax) (bytes rest : List ℕ) (place : ℕ) (from : Before) (groups : List Group)
    (last : SignedTree Atom)
    (before : Before) : Type 0 where
  pub next : ℕ
  pub counted : next + length rest ≡ place + length bytes
  pub same : scan syntax bytes place due from groups ≡ scan syntax rest next (after last) before groups

-- how the scan passes over a written t: an operand leaves what was read before it as it is; a catenation is collected
-- beside the union before it; a union is collected from nothing
abbrev pub Passes : Syntax → (size : ℕ) → Level → ℕ → List ℕ → List ℕ → SignedTree Atom → Type 0
Passes syntax size single depth bytes rest t =
    (place : ℕ) (before : Before) (groups : List Group) → length groups ≡ depth → BeginsAt size place bytes
    → ScansOn syntax bytes rest place before groups t before
Passes syntax size starred depth bytes rest t =
    (place : ℕ) (before : Before) (groups : List Group) → length groups ≡ depth → BeginsAt size place bytes
    → ScansOn syntax bytes rest place before groups t before
Passes syntax size joined depth bytes rest t =
    (place : ℕ) (unions : Option Waiting) (groups : List Group)
    → length groups ≡ depth
    → BeginsAt size place bytes
    → (factors : Option Waiting)
    × (last : SignedTree Atom)
    × (catenated factors last ≡ t)
    × ScansOn syntax bytes rest place (record { unions = unions; factors = none }) groups last
    (record { unions = unions; factors = factors })
Passes syntax size united depth bytes rest t =
    (place : ℕ) (groups : List Group)
    → length groups ≡ depth
    → BeginsAt size place bytes
    → (before : Before)
    × (last : SignedTree Atom)
    × (finished before last ≡ t)
    × ScansOn syntax bytes rest place nothing groups last before
