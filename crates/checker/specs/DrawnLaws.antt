-- What is drawn from a written tree: its classes are counted and numbered, and a drawn outcome tells the scanner's.
use Rattle.std.specs.Prelude.{ℕ, ◌+◌, ◌*◌, ◌≤◌, ◌≡◌, refl, ◌↔◌, List, [], length}
use Rattle.std.proofs.Common.{ap, sym, ◌∙◌, arith}
use Rattle.language.specs.Tree.{Tree, leaf, catenation, union, star, nodes}
use Rattle.language.specs.SignedTree.{SignedTree}
use Rattle.language.specs.WithLeaves.{EveryLeaf, EverySignedLeaf}
use Rattle.language.proofs.WithLeavesLaws.{every_stands_for}
use Rattle.tree.specs.Limits.{longest_expression, most_labels}
use Rattle.tree.specs.Leaf.{Leaf}
use Rattle.operands.specs.Bytes.{Syntax, first, second}
use Rattle.operands.specs.Signs.{sign_means}
use Rattle.operands.specs.Scanner.{Atom, literal, one_of, no_text, Outcome, tree, refused}
use Rattle.checker.specs.Expanded.{expansion, expanded}
use Rattle.operands.specs.Grammar.{Level, Spells, itself, escaped, any_but_line_end, bracketed, group, no_sign, one_star, one_or_more, none_or_one, so_many, one_factor, next_factor, one_branch, next_branch}
use Rattle.operands.proofs.Sound.{no_tree}
use Rattle.operands.specs.FirstSyntax.{first_size}
use Rattle.operands.specs.Agree.{Refusal}
use Rattle.checker.specs.ExpandedLaws.{WrittenTree, TreeRefusal, expanded_exactly, expanded_refusal, first_refusal}
use Rattle.checker.specs.Drawn.{classes_of, recorded, drawn}
use Rattle.checker.specs.OneShape.{nodes_recorded}

-- a leaf that is no class
abbrev NoClass : Atom → Type 0
NoClass (literal b) = Unit {0}
NoClass (one_of class) = ⊥
NoClass no_text = Unit {0}

-- a tree with no class leaf has no classes
no_classes : (t : Tree Atom) → EveryLeaf NoClass t → classes_of t ≡ []
no_classes (leaf (literal b)) each = refl
no_classes (leaf no_text) each = refl
no_classes (catenation s t) each = rw (no_classes s each.0, no_classes t each.1)
no_classes (union s t) each = rw (no_classes s each.0, no_classes t each.1)
no_classes (star s) each = no_classes s each
no_classes (leaf (one_of _)) each = elim each [ ]

-- the two syntaxes are two
neither : first ≡ second → ⊥
neither e = let z : ◌≡◌ {A = ℕ} 0 1 = cc in omega arith

-- the first syntax writes no class
spells_no_class : {size depth : ℕ} {level : Level} {bytes rest : List ℕ} {s : SignedTree Atom}
    → Spells first size depth level bytes rest s → EverySignedLeaf NoClass s
spells_no_class (itself p at) = tt
spells_no_class (escaped p at) = tt
spells_no_class (any_but_line_end {b = b} p at) =
    let m = rw p at (sign_means first b) in absurd (neither m.0)
spells_no_class (bracketed {b = b} p at r) = let m = rw p at (sign_means first b) in absurd (neither m.0)
spells_no_class (group h r) = spells_no_class r
spells_no_class (no_sign r) = spells_no_class r
spells_no_class (one_star at r) = spells_no_class r
spells_no_class (one_or_more p at r) = spells_no_class r
spells_no_class (none_or_one p at r) = spells_no_class r
spells_no_class (so_many p at r q) = spells_no_class r
spells_no_class (one_factor r) = spells_no_class r
spells_no_class (next_factor at r q) = (spells_no_class r, spells_no_class q)
spells_no_class (one_branch r) = spells_no_class r
spells_no_class (next_branch at r q) = (spells_no_class r, spells_no_class q)

-- so its trees have none
pub first_has_no_class : {bytes : List ℕ} {t : Tree Atom} → WrittenTree first bytes t → classes_of t ≡ []
first_has_no_class w =
    ap classes_of w.stands
    ∙ no_classes (expansion w.signs)
    (every_stands_for NoClass no_text tt w.signs (spells_no_class w.spelled))

-- a drawn tree is that of a written one
pub drawn_tree : (outcome : Outcome (Tree Atom)) (t : Tree Leaf) → drawn outcome ≡ tree t
    → (s : Tree Atom) × (outcome ≡ tree s) × (t ≡ recorded s)
drawn_tree (tree s) t e = let same : recorded s ≡ t = cc in (s, refl, sym same)
drawn_tree (refused number place) t e = no_tree e

-- a refusal is drawn as it is
pub drawn_refused : (outcome : Outcome (Tree Atom)) (number place : ℕ) → drawn outcome ≡ refused number place
    → outcome ≡ refused number place
drawn_refused (tree s) number place e = no_tree (sym e)
drawn_refused (refused other there) number place e =
    let same : other ≡ number = cc in let here : there ≡ place = cc in rw (same, here)

-- the bytes are a written expression whose records have the tree t
pub record WrittenAs (syntax : Syntax) (bytes : List ℕ) (t : Tree Leaf) : Type 0 where
  pub written : Tree Atom
  pub spelled : WrittenTree syntax bytes written
  pub same : t ≡ recorded written

-- an expression is taken with the records' tree t exactly when it has at most 1,024 bytes and is written so
pub drawn_exactly : (syntax : Syntax) (bytes : List ℕ) (t : Tree Leaf) → (drawn (expanded syntax bytes) ≡ tree t)
    ↔ ((length bytes ≤ longest_expression) × WrittenAs syntax bytes t)
drawn_exactly syntax bytes t = (
  λ e. let (s, scans, same) = drawn_tree (expanded syntax bytes) t e in
      let (few, spelled) = (expanded_exactly syntax bytes s).0 scans in
      (few, record { written = s; spelled = spelled; same = same }),
  λ (few, w). ap drawn ((expanded_exactly syntax bytes w.written).1 (few, w.spelled)) ∙ ap tree (sym w.same),
)

-- its tree has at most 2,047 nodes
pub drawn_size : (syntax : Syntax) (bytes : List ℕ) (t : Tree Leaf) → drawn (expanded syntax bytes) ≡ tree t
    → nodes t ≤ most_labels
drawn_size syntax bytes t e =
    let (few, w) = (drawn_exactly syntax bytes t).0 e in
    let same : nodes t ≡ nodes (recorded w.written) = ap nodes w.same in
    omega (arith, w.spelled.small, nodes_recorded w.written)

-- in the first syntax it has fewer than two nodes for each byte
pub first_drawn_size : (bytes : List ℕ) (t : Tree Leaf) → drawn (expanded first bytes) ≡ tree t
    → nodes t + 1 ≤ 2 * length bytes
first_drawn_size bytes t e =
    let (few, w) = (drawn_exactly first bytes t).0 e in
    let same : nodes t ≡ nodes (recorded w.written) = ap nodes w.same in
    let stands : nodes w.written ≡ nodes (expansion w.spelled.signs) = ap nodes w.spelled.stands in
    omega (arith, first_size w.spelled.spelled, nodes_recorded w.written)

-- its refusals are those of the expression
pub drawn_refusal : (syntax : Syntax) (bytes : List ℕ) (number place : ℕ)
    → drawn (expanded syntax bytes) ≡ refused number place → TreeRefusal syntax number place
drawn_refusal syntax bytes number place e =
    expanded_refusal syntax bytes number place (drawn_refused (expanded syntax bytes) number place e)

-- in the first syntax the scanner's
pub first_drawn_refusal : (bytes : List ℕ) (number place : ℕ) → drawn (expanded first bytes) ≡ refused number place
    → Refusal first number place
first_drawn_refusal bytes number place e =
    first_refusal bytes number place (drawn_refused (expanded first bytes) number place e)
