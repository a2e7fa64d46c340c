-- The two descriptions of the syntax agree: the scanner gives the tree that the grammar reads, and there is one at
-- most.
use Rattle.std.specs.Prelude.{ℕ, suc, ◌≤◌, ◌<◌, ◌≡◌, refl, ◌↔◌, ◌⊎◌, Bool, true, false, cond, List, [], ◌∷◌, length, ltb}
use Rattle.std.proofs.Common.{inl, arith, ltb-true, ltb-false}
use Rattle.language.specs.SignedTree.{SignedTree, WellCounted}
use Rattle.tree.specs.RefusalNumbers.{expression_empty, expression_too_long, backslash_before_no_sign, class_faulty, count_faulty}
use Rattle.tree.specs.Limits.{longest_expression}
use Rattle.operands.specs.Bytes.{Syntax}
use Rattle.classes.specs.ClassGrammar.{SpellsByte, bare, slashed, SpellsItem, single, range, SpellsItems, one_item, next_item, SpellsClass, these, all_but_these}
use Rattle.classes.specs.Class.{Item, Class}
use Rattle.counts.specs.CountComplete.{count_shorter, count_bounds}
use Rattle.operands.specs.Scanner.{Atom, Outcome, refused, due, nothing, scan, scanned}
use Rattle.operands.specs.Grammar.{Level, Spells, Written, itself, escaped, any_but_line_end, bracketed, group, no_sign, one_star, one_or_more, none_or_one, so_many, one_factor, next_factor, one_branch, next_branch}
use Rattle.operands.specs.Faults.{highest, seven_given, refused_cases}

-- a class takes two bytes at least
byte_shorter : {bytes rest : List ℕ} {b : ℕ} → SpellsByte bytes rest b → length rest < length bytes
byte_shorter (bare p) = omega arith
byte_shorter (slashed p) = omega arith

item_shorter : {bytes rest : List ℕ} {item : Item} → SpellsItem bytes rest item → length rest < length bytes
item_shorter (single r) = byte_shorter r
item_shorter (range r q h) = omega (arith, byte_shorter r, byte_shorter q)

items_shorter : {bytes rest : List ℕ} {items : List Item} → SpellsItems bytes rest items → length rest < length bytes
items_shorter (one_item r) = item_shorter r
items_shorter (next_item r q) = omega (arith, items_shorter r, item_shorter q)

pub class_shorter : {bytes rest : List ℕ} {class : Class} → SpellsClass bytes rest class → length rest < length bytes
class_shorter (these r h) = omega (arith, items_shorter r)
class_shorter (all_but_these r h) = omega (arith, items_shorter r)

-- a written tree takes a byte at least
pub reads_shorter : {syntax : Syntax} {size depth : ℕ} {level : Level} {bytes rest : List ℕ} {t : SignedTree Atom}
    → Spells syntax size depth level bytes rest t → length rest < length bytes
reads_shorter (itself p at) = omega arith
reads_shorter (escaped p at) = omega arith
reads_shorter (any_but_line_end p at) = omega arith
reads_shorter (bracketed p at r) = omega (arith, class_shorter r)
reads_shorter (group h r) = omega (arith, reads_shorter r)
reads_shorter (no_sign r) = reads_shorter r
reads_shorter (one_star at r) = omega (arith, reads_shorter r)
reads_shorter (one_or_more p at r) = omega (arith, reads_shorter r)
reads_shorter (none_or_one p at r) = omega (arith, reads_shorter r)
reads_shorter (so_many p at r q) = omega (arith, reads_shorter r, count_shorter q)
reads_shorter (one_factor r) = reads_shorter r
reads_shorter (next_factor at r q) = omega (arith, reads_shorter r, reads_shorter q)
reads_shorter (one_branch r) = reads_shorter r
reads_shorter (next_branch at r q) = omega (arith, reads_shorter r, reads_shorter q)

-- in every written count the fewest are at most the most, and the most are at least 1
reads_counted : {syntax : Syntax} {size depth : ℕ} {level : Level} {bytes rest : List ℕ} {t : SignedTree Atom}
    → Spells syntax size depth level bytes rest t → WellCounted t
reads_counted (itself p at) = tt
reads_counted (escaped p at) = tt
reads_counted (any_but_line_end p at) = tt
reads_counted (bracketed p at r) = tt
reads_counted (group h r) = reads_counted r
reads_counted (no_sign r) = reads_counted r
reads_counted (one_star at r) = reads_counted r
reads_counted (one_or_more p at r) = reads_counted r
reads_counted (none_or_one p at r) = reads_counted r
reads_counted (so_many p at r q) = let b = count_bounds q in (b.ordered, b.some, reads_counted r)
reads_counted (one_factor r) = reads_counted r
reads_counted (next_factor at r q) = (reads_counted r, reads_counted q)
reads_counted (one_branch r) = reads_counted r
reads_counted (next_branch at r q) = (reads_counted r, reads_counted q)

pub written_counted : {syntax : Syntax} {bytes : List ℕ} {t : SignedTree Atom} → Written syntax bytes t
    → WellCounted t
written_counted w = reads_counted w

-- what scanning a whole expression comes to: 1 for no bytes, 2 for more than 1,024, and else what the scan gives
pub data Case (syntax : Syntax) (bytes : List ℕ) : Outcome (SignedTree Atom) → Type 0 where
  empty : bytes ≡ [] → Case syntax bytes (refused expression_empty 0)
  long : longest_expression < length bytes → Case syntax bytes (refused expression_too_long longest_expression)
  usual : 0 < length bytes → length bytes ≤ longest_expression → Case syntax bytes (scan syntax bytes 0 due nothing [])

-- every expression is one of the three
pub cases : (syntax : Syntax) (bytes : List ℕ) → Case syntax bytes (scanned syntax bytes)
unfolding scanned
cases syntax [] = empty refl
cases syntax (b ∷ rest) = go (ltb longest_expression (suc (length rest))) refl
  where
    go : (test : Bool) → ltb longest_expression (suc (length rest)) ≡ test
        → Case syntax (b ∷ rest) (cond test (refused expression_too_long longest_expression) (scan syntax
        (b ∷ rest) 0 due nothing []))
    go true e = long (ltb-true longest_expression (suc (length rest)) e)
    go false e = usual (omega arith) (ltb-false longest_expression (suc (length rest)) e)

-- the number of a refusal tells the case apart, since the scan itself gives none below 3
module _ {syntax : Syntax} {bytes : List ℕ} {place : ℕ} where
  -- 1 comes from no bytes alone
  empty_case : {outcome : Outcome (SignedTree Atom)} → Case syntax bytes outcome
      → outcome ≡ refused expression_empty place
      → (bytes ≡ []) × (place ≡ 0)
  empty_case (empty p) e = (p, cc)
  empty_case (long h) e = let z : ◌≡◌ {A = ℕ} 2 1 = cc in absurd (omega arith)
  empty_case (usual h k) e = absurd (omega (arith, refused_cases syntax bytes 1 place e))

  -- 2 comes from more than 1,024 bytes alone
  long_case : {outcome : Outcome (SignedTree Atom)} → Case syntax bytes outcome
      → outcome ≡ refused expression_too_long place
      → (longest_expression < length bytes) × (place ≡ longest_expression)
  long_case (empty p) e = let z : ◌≡◌ {A = ℕ} 1 2 = cc in absurd (omega arith)
  long_case (long h) e = (h, cc)
  long_case (usual h k) e = absurd (omega (arith, refused_cases syntax bytes 2 place e))

  -- and more than 1,024 bytes give 2
  long_given : {outcome : Outcome (SignedTree Atom)} → Case syntax bytes outcome
      → longest_expression < length bytes → place
      ≡ longest_expression → outcome ≡ refused expression_too_long place
  long_given (empty p) h q = let none : length bytes ≡ 0 = rw p in absurd (omega arith)
  long_given (long k) h q = rw q
  long_given (usual k l) h q = absurd (omega arith)

-- 1 is given exactly when the expression has no bytes, at place 0
pub one_exactly : (syntax : Syntax) (bytes : List ℕ) (place : ℕ)
    → (scanned syntax bytes ≡ refused expression_empty place) ↔ ((bytes ≡ []) × (place ≡ 0))
unfolding scanned
one_exactly syntax bytes place = (empty_case (cases syntax bytes), λ (p, q). rw (p, q))

-- 2 is given exactly when it has more than 1,024 bytes, at place 1,024
pub two_exactly : (syntax : Syntax) (bytes : List ℕ) (place : ℕ)
    → (scanned syntax bytes ≡ refused expression_too_long place)
    ↔ ((longest_expression < length bytes) × (place ≡ longest_expression))
two_exactly syntax bytes place = (long_case (cases syntax bytes), λ (h, q). long_given (cases syntax bytes) h q)

-- a refusal of an expression by its bytes alone: its number is one of 1 to 7, 14 or 16, and not above the syntax's
-- highest; its place is at most 1,024
pub record Refusal (syntax : Syntax) (number place : ℕ) : Type 0 where
  pub least : 1 ≤ number
  pub most : number ≤ highest syntax
  pub named : (number ≤ backslash_before_no_sign) ⊎ ((number ≡ class_faulty) ⊎ (number ≡ count_faulty))
  pub inside : place ≤ longest_expression

-- 1 and 2 are such
early : {syntax : Syntax} {number place : ℕ} → 1 ≤ number → number ≤ expression_too_long → place ≤ longest_expression
    → Refusal syntax number place
early {syntax} l m i =
    record { least = l; most = omega (arith, seven_given syntax); named = inl (omega arith); inside = i }

-- in each of the three cases
refusal_case : {syntax : Syntax} {bytes : List ℕ} {outcome : Outcome (SignedTree Atom)} {number place : ℕ}
    → Case syntax bytes outcome → outcome ≡ refused number place → Refusal syntax number place
refusal_case {number = number} {place = place} (empty p) e =
    let n : expression_empty ≡ number = cc in
    let at : 0 ≡ place = cc in
    early (omega arith) (omega arith) (omega arith)
refusal_case {number = number} {place = place} (long h) e =
    let n : expression_too_long ≡ number = cc in
    let at : longest_expression ≡ place = cc in
    early (omega arith) (omega arith) (omega arith)
refusal_case {syntax} {bytes} (usual h k) e =
    let f = refused_cases syntax bytes _ _ e in
    record {
      least = omega (arith, f.least);
      most = f.most;
      named = f.named;
      inside = omega (arith, f.inside, k);
    }

-- so is every refusal of an expression
pub scanned_refusal : (syntax : Syntax) (bytes : List ℕ) (number place : ℕ)
    → scanned syntax bytes ≡ refused number place → Refusal syntax number place
scanned_refusal syntax bytes number place e = refusal_case (cases syntax bytes) e
