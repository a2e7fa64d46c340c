-- When an expression has a tree, and when it is refused by its bytes alone: exactly by the scanner's faults, and else
-- by 17 where the tree that its signs stand for has more than 2,047 nodes. In the first syntax 17 is never given.
use Rattle.std.specs.Prelude.{ℕ, ◌≤◌, ◌<◌, ◌≡◌, refl, Bool, true, false, cond, ◌↔◌, ◌⊎◌, List, length, ltb}
use Rattle.std.proofs.Common.{ap, sym, ◌∙◌, inl, inr, ⊎_elim, arith, ltb-true, ltb-false, lt-ltb, le-ltb}
use Rattle.language.specs.Tree.{Tree, nodes}
use Rattle.language.specs.SignedTree.{SignedTree}
use Rattle.tree.specs.Limits.{most_labels, longest_expression}
use Rattle.tree.specs.RefusalNumbers.{too_many_nodes}
use Rattle.operands.specs.Bytes.{Syntax, first}
use Rattle.operands.specs.Scanner.{Atom, Outcome, tree, refused, scanned}
use Rattle.operands.specs.Grammar.{Written}
use Rattle.operands.proofs.Sound.{no_tree}
use Rattle.operands.specs.FirstSyntax.{first_size}
use Rattle.operands.specs.Agree.{scanned_refusal, Refusal}
use Rattle.operands.proofs.Agree.{scanned_exactly}
use Rattle.checker.specs.Expanded.{expansion, expanded_for, expanded}

-- the bytes are written with signs that stand for t, which has at most 2,047 nodes
pub record WrittenTree (syntax : Syntax) (bytes : List ℕ) (t : Tree Atom) : Type 0 where
  pub signs : SignedTree Atom
  pub spelled : Written syntax bytes signs
  pub stands : t ≡ expansion signs
  pub small : nodes t ≤ most_labels

-- what an outcome with a tree comes from
expansion_pick : (s : SignedTree Atom) (t : Tree Atom) (large : Bool) → ltb most_labels (nodes (expansion s)) ≡ large
    → cond large (refused too_many_nodes 0) (tree (expansion s)) ≡ tree t
    → (t ≡ expansion s) × (nodes t ≤ most_labels)
expansion_pick s t true large e = no_tree e
expansion_pick s t false large e =
    let same : expansion s ≡ t = cc in
    (sym same, rw (sym same) (ltb-false most_labels (nodes (expansion s)) large))

pub expanded_tree : (outcome : Outcome (SignedTree Atom)) (t : Tree Atom) → expanded_for outcome ≡ tree t
    → (s : SignedTree Atom) × (outcome ≡ tree s) × (t ≡ expansion s) × (nodes t ≤ most_labels)
expanded_tree (refused number place) t e = no_tree e
expanded_tree (tree s) t e =
    let (same, small) = expansion_pick s t (ltb most_labels (nodes (expansion s))) refl e in
    (s, refl, same, small)

-- a tree of at most 2,047 nodes is what its signs come to
pub expanded_small : (s : SignedTree Atom) → nodes (expansion s) ≤ most_labels
    → expanded_for (tree s) ≡ tree (expansion s)
expanded_small s small = rw (le-ltb most_labels (nodes (expansion s)) small) refl

-- a larger one is 17
pub expanded_large : (s : SignedTree Atom) → most_labels < nodes (expansion s)
    → expanded_for (tree s) ≡ refused too_many_nodes 0
expanded_large s large = rw (lt-ltb most_labels (nodes (expansion s)) large) refl

-- an expression has the tree t exactly when it has at most 1,024 bytes and is written so
pub expanded_exactly : (syntax : Syntax) (bytes : List ℕ) (t : Tree Atom) → (expanded syntax bytes ≡ tree t)
    ↔ ((length bytes ≤ longest_expression) × WrittenTree syntax bytes t)
unfolding expanded
expanded_exactly syntax bytes t = (
  λ e. let (s, scans, same, small) = expanded_tree (scanned syntax bytes) t e in
      let (few, spelled) = (scanned_exactly syntax bytes s).0 scans in
      (few, record { signs = s; spelled = spelled; stands = same; small = small }),
  λ (few, w). ap expanded_for ((scanned_exactly syntax bytes w.signs).1 (few, w.spelled))
      ∙ expanded_small w.signs (rw w.stands at w.small) ∙ ap tree (sym w.stands),
)

-- a refusal by the bytes alone: one of the scanner's, or 17 at place 0
pub record TreeRefusal (syntax : Syntax) (number place : ℕ) : Type 0 where
  pub least : 1 ≤ number
  pub most : number ≤ too_many_nodes
  pub named : Refusal syntax number place ⊎ ((number ≡ too_many_nodes) × (place ≡ 0))
  pub inside : place ≤ longest_expression

-- what an outcome that is refused comes from: the same refusal, or a tree that is too large
pub data RefusedFrom (number place : ℕ) : Outcome (SignedTree Atom) → Type 0 where
  by_form : RefusedFrom number place (refused number place)
  by_size : {s : SignedTree Atom} → number ≡ too_many_nodes → place ≡ 0 → most_labels < nodes (expansion s)
      → RefusedFrom number place (tree s)

refused_pick : (s : SignedTree Atom) (number place : ℕ) (large : Bool)
    → ltb most_labels (nodes (expansion s)) ≡ large
    → cond large (refused too_many_nodes 0) (tree (expansion s)) ≡ refused number place
    → RefusedFrom number place (tree s)
refused_pick s number place true large e =
    let same : too_many_nodes ≡ number = cc in
    let here : 0 ≡ place = cc in
    by_size (sym same) (sym here) (ltb-true most_labels (nodes (expansion s)) large)
refused_pick s number place false large e = no_tree (sym e)

refused_from : (outcome : Outcome (SignedTree Atom)) (number place : ℕ) → expanded_for outcome ≡ refused number place
    → RefusedFrom number place outcome
refused_from (refused other there) number place e =
    let same : other ≡ number = cc in
    let here : there ≡ place = cc in
    rw (same, here) by_form
refused_from (tree s) number place e = refused_pick s number place (ltb most_labels (nodes (expansion s))) refl e

-- the scanner's refusals are at most 16
form_most : {syntax : Syntax} {number place : ℕ} → Refusal syntax number place → number ≤ too_many_nodes
form_most r =
    ⊎_elim (λ few. omega (arith, few)) (⊎_elim (λ same. omega (arith, same)) (λ same. omega (arith, same))) r.named

refusal_from : (syntax : Syntax) (bytes : List ℕ) {number place : ℕ} {outcome : Outcome (SignedTree Atom)}
    → scanned syntax bytes ≡ outcome → RefusedFrom number place outcome → TreeRefusal syntax number place
refusal_from syntax bytes {number} {place} scans by_form =
    let known = scanned_refusal syntax bytes number place scans in
    record { least = known.least; most = form_most known; named = inl known; inside = known.inside }
refusal_from syntax bytes scans (by_size number place large) =
    record {
      least = omega (arith, number);
      most = omega (arith, number);
      named = inr (number, place);
      inside = omega (arith, place);
    }

-- so is every refusal of an expression by its bytes alone
pub expanded_refusal : (syntax : Syntax) (bytes : List ℕ) (number place : ℕ)
    → expanded syntax bytes ≡ refused number place → TreeRefusal syntax number place
unfolding expanded
expanded_refusal syntax bytes number place e =
    refusal_from syntax bytes refl (refused_from (scanned syntax bytes) number place e)

-- a fault of form is what the scanner gives, and comes before 17
pub form_first : (syntax : Syntax) (bytes : List ℕ) (number place : ℕ) → scanned syntax bytes ≡ refused number place
    → expanded syntax bytes ≡ refused number place
unfolding expanded
form_first syntax bytes number place e = ap expanded_for e

-- an expression with no fault of form is refused by 17 exactly when the tree that its signs stand for has more than
-- 2,047 nodes
pub seventeen_exactly : (syntax : Syntax) (bytes : List ℕ) (s : SignedTree Atom) → length bytes ≤ longest_expression
    → Written syntax bytes s → (expanded syntax bytes ≡ refused too_many_nodes 0) ↔ (most_labels < nodes (expansion s))
unfolding expanded
seventeen_exactly syntax bytes s few w =
    let scans : scanned syntax bytes ≡ tree s = (scanned_exactly syntax bytes s).1 (few, w) in (
      λ e. larger (refused_from (tree s) too_many_nodes 0 (rw scans at e)),
      λ large. ap expanded_for scans ∙ expanded_large s large,
    )
  where
    larger : RefusedFrom too_many_nodes 0 (tree s) → most_labels < nodes (expansion s)
    larger (by_size number place large) = large

-- in the first syntax it is never given
never_large : (bytes : List ℕ) {number place : ℕ} {outcome : Outcome (SignedTree Atom)}
    → scanned first bytes ≡ outcome → RefusedFrom number place outcome → Refusal first number place
never_large bytes {number} {place} scans by_form = scanned_refusal first bytes number place scans
never_large bytes scans (by_size {s} number place large) =
    let (few, spelled) = (scanned_exactly first bytes s).0 scans in
    absurd (omega (arith, few, first_size spelled, large))

pub first_refusal : (bytes : List ℕ) (number place : ℕ) → expanded first bytes ≡ refused number place
    → Refusal first number place
unfolding expanded
first_refusal bytes number place e = never_large bytes refl (refused_from (scanned first bytes) number place e)

-- a tree has at most 2,047 nodes
pub expanded_size : (syntax : Syntax) (bytes : List ℕ) (t : Tree Atom) → expanded syntax bytes ≡ tree t
    → nodes t ≤ most_labels
expanded_size syntax bytes t e = ((expanded_exactly syntax bytes t).0 e).1.small
