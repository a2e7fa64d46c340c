-- The check and the write agree: what is written answers as the check does, or 9, or 15 after it, and that exactly
-- where the check refuses nothing and a buffer is short.
use Rattle.std.specs.Prelude.{ℕ, ◌*◌, ◌<◌, ◌≤◌, ◌≡◌, refl, Bool, true, false, cond, ◌↔◌, List, length, eqb, ltb, Result}
use Rattle.std.proofs.Common.{arith, ap, sym, ◌∙◌, ⊎_elim, ltb-true, ltb-false, lt-ltb, ne_eqb, eqb-true}
use Rattle.std.proofs.Math.Logic.Iff
use Rattle.language.specs.Tree.{Tree, nodes}
use Rattle.tree.specs.RefusalNumbers.{too_many_pieces, buffer_too_short, class_buffer_too_short, too_many_nodes}
use Rattle.tree.specs.Limits.{most_pieces, most_labels, longest_expression}
use Rattle.tree.specs.Cut.{Cut, Fits, pieces}
use Rattle.tree.specs.Least.{too_many_exactly}
use Rattle.operands.specs.Grammar.{Written}
use Rattle.operands.proofs.Sound.{no_tree}
use Rattle.language.specs.SignedTree.{SignedTree}
use Rattle.tree.specs.Layout.{record_size, class_record_size}
use Rattle.tree.specs.Records.{piece_count}
use Rattle.tree.specs.Lengths.{nodes_positive}
use Rattle.operands.specs.Bytes.{Syntax, first, second}
use Rattle.operands.specs.Scanner.{Atom, Outcome, tree, refused}
use Rattle.operands.specs.Agree.{Refusal}
use Rattle.checker.specs.Expanded.{expansion, expanded}
use Rattle.checker.specs.ExpandedLaws.{WrittenTree, TreeRefusal, expanded_exactly, expanded_refusal, seventeen_exactly}
use Rattle.checker.specs.Drawn.{classes_in, recorded, drawn}
use Rattle.checker.specs.DrawnLaws.{first_has_no_class}
use Rattle.reader.specs.Answer.{refusing_read, reading, answer_for, read_answered}
use Rattle.checker.specs.Checked.{CountedNumbers, refusing_counts, counting, counted_numbers, too_many, checked_for, checked}
use Rattle.reader.specs.SecondAnswer.{too_short, too_few_classes, pick_stored, second_answer_for, second_answered}
use Rattle.reader.proofs.SecondKept.{counts_injective}
use Rattle.tree.specs.declared.refusal.Refused.{Refused}
use Rattle.tree.specs.declared.counted.Counts.{Counts}
use Rattle.reader.specs.Check.{without_classes, after_check, after_second_check, Bufferless}

-- a refusal is not 0
refused_after : (number place room : ℕ) → 1 ≤ number
    → refusing_read number place ≡ after_check (refusing_counts number place) room
refused_after number place room h = rw (ne_eqb number 0 (λ e. omega arith))

refused_after_second : (number place room class_room : ℕ) → 1 ≤ number
    → refusing_counts number place ≡ after_second_check (refusing_counts number place) room class_room
refused_after_second number place room class_room h = rw (ne_eqb number 0 (λ e. omega arith))

-- of a tree: by the test for its pieces
tree_after : (t : Tree Atom) (room : ℕ) (many : Bool)
    → cond many (refusing_read too_many_pieces 0) (cond (ltb room (record_size * nodes (recorded t)))
    (refusing_read buffer_too_short 0) (reading (recorded t)))
    ≡ after_check (cond many (refusing_counts too_many_pieces 0) (counting t)) room
tree_after t room true = refl
tree_after t room false = refl

tree_after_second : (t : Tree Atom) (room class_room : ℕ) (many : Bool)
    → pick_stored many (too_short t room) (too_few_classes t class_room) (λ number. refusing_counts number 0)
    (counting t)
    ≡ after_second_check (cond many (refusing_counts too_many_pieces 0) (counting t)) room class_room
tree_after_second t room class_room true = refl
tree_after_second t room class_room false = refl

-- by the outcome
outcome_after : (outcome : Outcome (Tree Atom)) (room : ℕ)
    → ((number place : ℕ) → outcome ≡ refused number place → 1 ≤ number)
    → answer_for (drawn outcome) room ≡ after_check (checked_for outcome) room
outcome_after (refused number place) room h = refused_after number place room (h number place refl)
outcome_after (tree t) room h = tree_after t room (too_many t)

outcome_after_second : (outcome : Outcome (Tree Atom)) (room class_room : ℕ)
    → ((number place : ℕ) → outcome ≡ refused number place → 1 ≤ number)
    → second_answer_for outcome room class_room ≡ after_second_check (checked_for outcome) room class_room
outcome_after_second (refused number place) room class_room h =
    refused_after_second number place room class_room (h number place refl)
outcome_after_second (tree t) room class_room h = tree_after_second t room class_room (too_many t)

-- `read` answers as the check does, or 9
pub write_after_check : (bytes : List ℕ) (room : ℕ) → read_answered bytes room ≡ after_check (checked first bytes) room
write_after_check bytes room =
    outcome_after (expanded first bytes) room (λ number place e. (expanded_refusal first bytes number place e).least)

-- `read_second` answers as the check does, or 9, or 15 after it
pub second_write_after_check : (bytes : List ℕ) (room class_room : ℕ)
    → second_answered bytes room class_room ≡ after_second_check (checked second bytes) room class_room
second_write_after_check bytes room class_room =
    outcome_after_second (expanded second bytes) room class_room
    (λ number place e. (expanded_refusal second bytes number place e).least)

form_bufferless : {syntax : Syntax} {number place : ℕ} → Refusal syntax number place → Bufferless number
form_bufferless r =
    record {
      no_nine = λ e. ⊎_elim (λ few. omega (arith, few, e))
          (⊎_elim (λ same. omega (arith, same, e)) (λ same. omega (arith, same, e))) r.named;
      no_fifteen = λ e. ⊎_elim (λ few. omega (arith, few, e))
          (⊎_elim (λ same. omega (arith, same, e)) (λ same. omega (arith, same, e))) r.named;
    }

bufferless_named : {syntax : Syntax} {number place : ℕ} → TreeRefusal syntax number place → Bufferless number
bufferless_named r =
    record {
      no_nine = λ e. ⊎_elim (λ known. (form_bufferless known).no_nine e) (λ (same, here). omega (arith, same, e))
          r.named;
      no_fifteen = λ e. ⊎_elim (λ known. (form_bufferless known).no_fifteen e) (λ (same, here). omega (arith, same, e))
          r.named;
    }

bufferless_tree : (t : Tree Atom) (many : Bool)
    → Bufferless (cond many (refusing_counts too_many_pieces 0) (counting t)).refusal
bufferless_tree t true = record { no_nine = λ e. omega arith; no_fifteen = λ e. omega arith }
bufferless_tree t false = record { no_nine = λ e. omega arith; no_fifteen = λ e. omega arith }

bufferless_outcome : (syntax : Syntax) (bytes : List ℕ) (outcome : Outcome (Tree Atom))
    → expanded syntax bytes ≡ outcome
    → Bufferless (checked_for outcome).refusal
bufferless_outcome syntax bytes (refused number place) e =
    bufferless_named (expanded_refusal syntax bytes number place e)
bufferless_outcome syntax bytes (tree t) e = bufferless_tree t (too_many t)

pub check_bufferless : (syntax : Syntax) (bytes : List ℕ) → Bufferless (checked syntax bytes).refusal
check_bufferless syntax bytes = bufferless_outcome syntax bytes (expanded syntax bytes) refl

-- the two tests of storing, by their answers
nine_picks : (n : CountedNumbers) (room : ℕ) (none short : Bool) → Bufferless n.refusal
    → eqb n.refusal 0 ≡ none → ltb room (record_size * n.records) ≡ short
    → ((cond none (cond short (refusing_read buffer_too_short 0) (without_classes n)) (without_classes n)).refusal
    ≡ buffer_too_short) ↔ ((n.refusal ≡ 0) × (room < record_size * n.records))
nine_picks n room true true b e f =
    (λ h. (eqb-true n.refusal 0 e, ltb-true room _ f), λ h. refl)
nine_picks n room true false b e f = (
  λ h. absurd (b.no_nine h),
  λ (clear, short). absurd (omega (arith, ltb-false room (record_size * n.records) f, short)),
)
nine_picks n room false short b e f = (
  λ h. absurd (b.no_nine h),
  λ (clear, long). absurd (not_zero (rw clear at e)),
)
  where
    not_zero : eqb 0 0 ≡ false → ⊥
    not_zero e = let z : ◌≡◌ {A = ℕ} 0 1 = cc in omega arith

-- `read` gives 9 exactly when the check refuses nothing and the buffer is shorter than the records
pub nine_exactly : (bytes : List ℕ) (room : ℕ) → ((read_answered bytes room).refusal ≡ buffer_too_short)
    ↔ (((checked first bytes).refusal ≡ 0) × (room < record_size * (checked first bytes).records))
nine_exactly bytes room =
    let n = checked first bytes in
    rw (write_after_check bytes room)
    (nine_picks n room (eqb n.refusal 0) (ltb room (record_size * n.records))
    (check_bufferless first bytes) refl refl)

-- the three tests of the second storing, by their answers
module _ (n : CountedNumbers) (room class_room : ℕ) (b : Bufferless n.refusal) where
  -- what it answers
  abbrev answers : (none short few : Bool) → CountedNumbers
  answers none short few =
      cond none (cond short (refusing_counts buffer_too_short 0)
      (cond few (refusing_counts class_buffer_too_short 0) n)) n

  not_zero : {A : Type 0} → eqb n.refusal 0 ≡ false → n.refusal ≡ 0 → A
  not_zero e clear = let f : eqb 0 0 ≡ false = rw clear at e in let z : ◌≡◌ {A = ℕ} 0 1 = cc in absurd (omega arith)

  second_nine_picks : (none short few : Bool) → eqb n.refusal 0 ≡ none → ltb room (record_size * n.records) ≡ short
      → ((answers none short few).refusal ≡ buffer_too_short)
      ↔ ((n.refusal ≡ 0) × (room < record_size * n.records))
  second_nine_picks true true few e f = (λ h. (eqb-true n.refusal 0 e, ltb-true room _ f), λ h. refl)
  second_nine_picks true false true e f = (
    λ h. absurd (omega arith),
    λ (clear, short). absurd (omega (arith, ltb-false room (record_size * n.records) f, short)),
  )
  second_nine_picks true false false e f = (
    λ h. absurd (b.no_nine h),
    λ (clear, short). absurd (omega (arith, ltb-false room (record_size * n.records) f, short)),
  )
  second_nine_picks false short few e f = (λ h. absurd (b.no_nine h), λ (clear, long). not_zero e clear)

  fifteen_picks : (none short few : Bool) → eqb n.refusal 0 ≡ none → ltb room (record_size * n.records) ≡ short
      → ltb class_room (class_record_size * n.classes) ≡ few
      → ((answers none short few).refusal ≡ class_buffer_too_short)
      ↔ ((n.refusal ≡ 0) × (record_size * n.records ≤ room) × (class_room < class_record_size * n.classes))
  fifteen_picks true true few e f g = (
    λ h. absurd (omega arith),
    λ (clear, room-enough, short). absurd (omega (arith, ltb-true room (record_size * n.records) f, room-enough)),
  )
  fifteen_picks true false true e f g =
      (λ h. (eqb-true n.refusal 0 e, ltb-false room _ f, ltb-true class_room _ g), λ h. refl)
  fifteen_picks true false false e f g = (
    λ h. absurd (b.no_fifteen h),
    λ (clear, room-enough, short). absurd (omega (
      arith,
      ltb-false class_room (class_record_size * n.classes) g,
      short,
    )),
  )
  fifteen_picks false short few e f g =
      (λ h. absurd (b.no_fifteen h), λ (clear, room-enough, long). not_zero e clear)

-- `read_second` gives 9 exactly when the check refuses nothing and the record buffer is shorter than the records
pub second_nine_exactly : (bytes : List ℕ) (room class_room : ℕ)
    → ((second_answered bytes room class_room).refusal ≡ buffer_too_short)
    ↔ (((checked second bytes).refusal ≡ 0) × (room < record_size * (checked second bytes).records))
second_nine_exactly bytes room class_room =
    let n = checked second bytes in
    rw (second_write_after_check bytes room class_room)
    (second_nine_picks n room class_room (check_bufferless second bytes) (eqb n.refusal 0)
    (ltb room (record_size * n.records)) (ltb class_room (class_record_size * n.classes)) refl refl)

-- it gives 15 exactly when the check refuses nothing, the records fit, and the class buffer is shorter than the class
-- records
pub fifteen_exactly : (bytes : List ℕ) (room class_room : ℕ)
    → ((second_answered bytes room class_room).refusal ≡ class_buffer_too_short)
    ↔ (((checked second bytes).refusal ≡ 0) × (record_size * (checked second bytes).records ≤ room)
    × (class_room < class_record_size * (checked second bytes).classes))
fifteen_exactly bytes room class_room =
    let n = checked second bytes in
    rw (second_write_after_check bytes room class_room)
    (fifteen_picks n room class_room (check_bufferless second bytes) (eqb n.refusal 0)
    (ltb room (record_size * n.records)) (ltb class_room (class_record_size * n.classes)) refl refl refl)

-- a check of the first syntax counts no class
no_class_tree : (t : Tree Atom) (many : Bool) → classes_in t ≡ 0
    → (cond many (refusing_counts too_many_pieces 0) (counting t)).classes ≡ 0
no_class_tree t true e = refl
no_class_tree t false e = e

no_class_outcome : (bytes : List ℕ) (outcome : Outcome (Tree Atom)) → expanded first bytes ≡ outcome
    → (checked_for outcome).classes ≡ 0
no_class_outcome bytes (refused number place) e = refl
no_class_outcome bytes (tree t) e =
    no_class_tree t (too_many t) (ap length (first_has_no_class ((expanded_exactly first bytes t).0 e).1))

pub first_counts_no_class : (bytes : List ℕ) → (checked first bytes).classes ≡ 0
first_counts_no_class bytes = no_class_outcome bytes (expanded first bytes) refl

-- what a check answers is a refusal, or has a record
sure_tree : (t : Tree Atom) (many : Bool)
    → (cond many (refusing_counts too_many_pieces 0) (counting t)).refusal ≡ 0
    → (cond many (refusing_counts too_many_pieces 0) (counting t)).records ≡ 0 → ⊥
sure_tree t true e f = omega arith
sure_tree t false e f = omega (arith, nodes_positive (recorded t))

sure_check : (syntax : Syntax) (bytes : List ℕ) (outcome : Outcome (Tree Atom)) → expanded syntax bytes ≡ outcome
    → (checked_for outcome).refusal ≡ 0 → (checked_for outcome).records ≡ 0 → ⊥
sure_check syntax bytes (refused number place) scans e f =
    omega (arith, (expanded_refusal syntax bytes number place scans).least)
sure_check syntax bytes (tree t) scans e f = sure_tree t (too_many t) e f

-- two answers of a check that both fit its promise are equal
pub check_unique : (syntax : Syntax) (bytes : List ℕ) (r s : Result Counts Refused) → counted_numbers r ≡ checked syntax bytes
    → counted_numbers s ≡ checked syntax bytes → r ≡ s
check_unique syntax bytes r s e f =
    counts_injective r s (e ∙ sym f) (rw e (sure_check syntax bytes (expanded syntax bytes) refl))

-- of the answers to a tree, only the one for too many pieces is 8
eight_first : (t : Tree Atom) (many : Bool)
    → cond many (refusing_counts too_many_pieces 0) (counting t) ≡ refusing_counts too_many_pieces 0 → many ≡ true
eight_first t true e = refl
eight_first t false e = absurd (omega (arith, ap (λ (n : CountedNumbers). n.refusal) e))

-- in both syntaxes an expression with no fault in its writing or length, and at most 2,047 nodes, is refused as 8
-- exactly when every cut of its tree with pieces of at most 15 nodes has more than 128 pieces
pub check_too_large_exactly : (syntax : Syntax) (bytes : List ℕ) (t : Tree Atom) → length bytes ≤ longest_expression
    → WrittenTree syntax bytes t → (checked syntax bytes ≡ refusing_counts too_many_pieces 0)
    ↔ ((c : Cut (recorded t)) → Fits (recorded t) c → most_pieces < pieces (recorded t) c)
check_too_large_exactly syntax bytes t few w =
    let scans : expanded syntax bytes ≡ tree t = (expanded_exactly syntax bytes t).1 (few, w) in
    let r = recorded t in (
      λ e. (too_many_exactly r).0 (ltb-true most_pieces (piece_count r) (eight_first t (too_many t) (rw scans at e))),
      λ many. rw (scans, lt-ltb most_pieces (piece_count r) ((too_many_exactly r).1 many)),
    )

-- a check answers 17 where the expression comes to 17
seventeen_outcome : (outcome : Outcome (Tree Atom))
    → (checked_for outcome ≡ refusing_counts too_many_nodes 0) ↔ (outcome ≡ refused too_many_nodes 0)
seventeen_outcome (refused number place) = (
  λ e. let same : number ≡ too_many_nodes = ap (λ (n : CountedNumbers). n.refusal) e in
      let here : place ≡ 0 = ap (λ (n : CountedNumbers). n.place) e in
      rw (same, here) refl,
  λ e. ap checked_for e,
)
seventeen_outcome (tree t) = (λ e. absurd (by_test (too_many t) e), λ e. no_tree (sym e))
  where
    by_test : (many : Bool)
        → cond many (refusing_counts too_many_pieces 0) (counting t) ≡ refusing_counts too_many_nodes 0 → ⊥
    by_test true e = omega (arith, ap (λ (n : CountedNumbers). n.refusal) e)
    by_test false e = omega (arith, ap (λ (n : CountedNumbers). n.refusal) e)

-- in both syntaxes an expression with no fault of form is refused as 17 exactly when the tree that its signs stand for
-- has more than 2,047 nodes
pub check_seventeen_exactly : (syntax : Syntax) (bytes : List ℕ) (s : SignedTree Atom)
    → length bytes ≤ longest_expression → Written syntax bytes s
    → (checked syntax bytes ≡ refusing_counts too_many_nodes 0) ↔ (most_labels < nodes (expansion s))
check_seventeen_exactly syntax bytes s few w =
    Iff.trans (seventeen_outcome (expanded syntax bytes)) (seventeen_exactly syntax bytes s few w)
