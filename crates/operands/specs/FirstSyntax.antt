-- The first syntax has no sign after an operand but the star: what is read in it stands for itself, and has fewer than
-- two nodes for each byte, so that it never has too many.
use Rattle.std.specs.Prelude.{ℕ, ◌+◌, ◌*◌, ◌≤◌, ◌≡◌, List, length}
use Rattle.std.proofs.Common.{arith}
use Rattle.language.specs.Tree.{nodes}
use Rattle.language.specs.SignedTree.{SignedTree}
use Rattle.language.specs.StandsFor.{stands_for}
use Rattle.language.specs.PlacedStandsFor.{placed_stands_for}
use Rattle.language.specs.PlainSigns.{Plain, signed, plain_itself}
use Rattle.tree.specs.Limits.{longest_expression, most_labels}
use Rattle.operands.specs.Bytes.{first, second, sign_of, plus, question, brace}
use Rattle.operands.specs.Signs.{sign_means}
use Rattle.operands.specs.Scanner.{Atom, no_text}
use Rattle.operands.specs.Agree.{class_shorter}
use Rattle.operands.specs.Grammar.{
  Level,
  Spells,
  Written,
  itself,
  escaped,
  any_but_line_end,
  bracketed,
  group,
  no_sign,
  one_star,
  one_or_more,
  none_or_one,
  so_many,
  one_factor,
  next_factor,
  one_branch,
  next_branch,
}

-- the first syntax is not the second
pub not_second : {A : Type 0} → first ≡ second → A
not_second e = let z : ◌≡◌ {A = ℕ} 0 1 = cc in absurd (omega arith)

-- no byte is one of the three signs in the first syntax
no_plus : {A : Type 0} (b : ℕ) → sign_of first b ≡ plus → A
no_plus b e = not_second (rw e at (sign_means first b)).0

no_question : {A : Type 0} (b : ℕ) → sign_of first b ≡ question → A
no_question b e = not_second (rw e at (sign_means first b)).0

no_brace : {A : Type 0} (b : ℕ) → sign_of first b ≡ brace → A
no_brace b e = not_second (rw e at (sign_means first b)).0

-- what is read in the first syntax has no sign but the star
reads_plain : {size depth : ℕ} {level : Level} {bytes rest : List ℕ} {t : SignedTree Atom}
    → Spells first size depth level bytes rest t → Plain t
reads_plain (itself p at) = tt
reads_plain (escaped p at) = tt
reads_plain (any_but_line_end p at) = tt
reads_plain (bracketed p at r) = tt
reads_plain (group h r) = reads_plain r
reads_plain (no_sign r) = reads_plain r
reads_plain (one_star at r) = reads_plain r
reads_plain (one_or_more {b = b} p at r) = no_plus b p
reads_plain (none_or_one {b = b} p at r) = no_question b p
reads_plain (so_many {b = b} p at r q) = no_brace b p
reads_plain (one_factor r) = reads_plain r
reads_plain (next_factor at r q) = (reads_plain r, reads_plain q)
reads_plain (one_branch r) = reads_plain r
reads_plain (next_branch at r q) = (reads_plain r, reads_plain q)

-- so a written expression has no sign but the star
pub first_plain : {bytes : List ℕ} {t : SignedTree Atom} → Written first bytes t → Plain t
first_plain w = reads_plain w

-- and is the tree that it stands for, with nothing added and with the same places
pub first_itself : {bytes : List ℕ} {t : SignedTree Atom} → Written first bytes t
    → signed (placed_stands_for no_text t) ≡ t
first_itself {t = t} w = plain_itself no_text t (reads_plain w)

-- a tree of the first syntax has fewer than two nodes for each of its bytes: a leaf takes a byte, a star its `*`, and a
-- catenation or a union joins two
reads_size : {size depth : ℕ} {level : Level} {bytes rest : List ℕ} {t : SignedTree Atom}
    → Spells first size depth level bytes rest t
    → nodes (stands_for no_text t) + 1 + 2 * length rest ≤ 2 * length bytes
reads_size (itself p at) = omega arith
reads_size (escaped p at) = omega arith
reads_size (any_but_line_end p at) = omega arith
reads_size (bracketed p at r) = omega (arith, class_shorter r)
reads_size (group h r) = omega (arith, reads_size r)
reads_size (no_sign r) = reads_size r
reads_size (one_star at r) = omega (arith, reads_size r)
reads_size (one_or_more {b = b} p at r) = no_plus b p
reads_size (none_or_one {b = b} p at r) = no_question b p
reads_size (so_many {b = b} p at r q) = no_brace b p
reads_size (one_factor r) = reads_size r
reads_size (next_factor at r q) = omega (arith, reads_size r, reads_size q)
reads_size (one_branch r) = reads_size r
reads_size (next_branch at r q) = omega (arith, reads_size r, reads_size q)

pub first_size : {bytes : List ℕ} {t : SignedTree Atom} → Written first bytes t
    → nodes (stands_for no_text t) + 1 ≤ 2 * length bytes
first_size w = omega (arith, reads_size w)

-- so an expression of the first syntax with at most 1,024 bytes has at most 2,047 nodes
pub first_small : {bytes : List ℕ} {t : SignedTree Atom} → Written first bytes t → length bytes ≤ longest_expression
    → nodes (stands_for no_text t) ≤ most_labels
first_small w few = omega (arith, first_size w)
