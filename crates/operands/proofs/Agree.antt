-- The two descriptions of the syntax agree: the scanner gives the tree that the grammar reads, and there is one at
-- most.
use Rattle.std.specs.Prelude.{ℕ, ◌≤◌, ◌≡◌, ◌↔◌, List, [], length}
use Rattle.std.proofs.Common.{arith}
use Rattle.language.specs.SignedTree.{SignedTree}
use Rattle.tree.specs.Limits.{longest_expression}
use Rattle.operands.specs.Bytes.{Syntax}
use Rattle.operands.specs.Scanner.{Atom, Outcome, tree, due, nothing, scan, scanned}
use Rattle.operands.specs.Grammar.{Written}
use Rattle.operands.proofs.Complete.{scanner_gives}
use Rattle.operands.proofs.Sound.{no_tree, scanner_reads}
use Rattle.operands.specs.Agree.{reads_shorter, Case, cases, long, usual, empty}

-- the scanner gives t exactly when the bytes are a written t
pub scanner_exactly : (syntax : Syntax) (bytes : List ℕ) (t : SignedTree Atom)
    → (scan syntax bytes 0 due nothing [] ≡ tree t) ↔ Written syntax bytes t
scanner_exactly syntax bytes t = (scanner_reads syntax bytes t, scanner_gives)

-- bytes are written one tree at most: the scanner gives one outcome
pub grammar_unique : {syntax : Syntax} {bytes : List ℕ} {s t : SignedTree Atom} → Written syntax bytes s
    → Written syntax bytes t → s ≡ t
grammar_unique p q = cc (scanner_gives p, scanner_gives q)

-- an outcome that is a tree comes from a written expression of at most 1,024 bytes
tree_case : {syntax : Syntax} {bytes : List ℕ} {outcome : Outcome (SignedTree Atom)} {t : SignedTree Atom}
    → Case syntax bytes outcome
    → outcome ≡ tree t
    → (length bytes ≤ longest_expression) × Written syntax bytes t
tree_case (empty p) e = no_tree e
tree_case (long h) e = no_tree e
tree_case {syntax} {bytes} {t = t} (usual h k) e = (k, scanner_reads syntax bytes t e)

-- a written expression of at most 1,024 bytes has its tree for an outcome
written_case : {syntax : Syntax} {bytes : List ℕ} {outcome : Outcome (SignedTree Atom)} {t : SignedTree Atom}
    → Case syntax bytes outcome
    → length bytes ≤ longest_expression
    → Written syntax bytes t → outcome ≡ tree t
written_case {bytes = bytes} (empty p) h w = let none : length bytes ≡ 0 =
    rw p in absurd (omega (arith, reads_shorter w))
written_case (long k) h w = absurd (omega arith)
written_case (usual k l) h w = scanner_gives w

-- an expression is taken with the tree t exactly when it has at most 1,024 bytes and is a written t
pub scanned_exactly : (syntax : Syntax) (bytes : List ℕ) (t : SignedTree Atom) → (scanned syntax bytes ≡ tree t)
    ↔ ((length bytes ≤ longest_expression) × Written syntax bytes t)
scanned_exactly syntax bytes t = (tree_case (cases syntax bytes), λ (h, w). written_case (cases syntax bytes) h w)
