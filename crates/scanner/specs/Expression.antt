-- What reading a whole expression gives: the labels of the tree that it stands for, or the first refusal of 1 to 7, 14
-- and 16.
use Rattle.std.specs.Prelude.{ℕ, ◌<◌, ◌≤◌, ◌≡◌, refl, Bool, true, false, cond, List, [], ◌∷◌, length, take, Result, Ok, Err}
use Rattle.std.proofs.Common.{arith, ap, sym, ◌∙◌, lt-ltb, le-ltb}
use Rattle.language.specs.Tree.{Tree, nodes}
use Rattle.language.specs.PlacedTree.{PlacedTree, unplaced, places as tree_places, placed_with_leaves}
use Rattle.language.specs.PlacedStandsFor.{placed_stands_for}
use Rattle.language.proofs.PlacedLaws.{unplaced_stands_for, places_leaves, unplaced_leaves, placed_stands_for_leaves}
use Rattle.language.specs.SignedTree.{SignedTree}
use Rattle.language.specs.StandsFor.{stands_for}
use Rattle.language.specs.SignedSize.{capped}
use Rattle.language.proofs.WithLeavesLaws.{nodes_leaves, every_stands_for}
use Rattle.tree.specs.RefusalNumbers.{expression_empty, expression_too_long, closing_without_group}
use Rattle.tree.specs.Refusing.{refusal_number}
use Rattle.tree.specs.declared.refusal.Refused.{Refused}
use Rattle.tree.specs.Limits.{longest_expression, most_labels}
use Rattle.tree.specs.Leaf.{Leaf}
use Rattle.tree.specs.Records.{labels}
use Rattle.repeats.specs.Noted.{noted, noted_labels, noted_places}
use Rattle.operands.specs.Bytes.{Syntax}
use Rattle.operands.specs.LeavesPlaced.{atom_at, LeafPlaced, written_at, LeavesPlaced, signs_at}
use Rattle.operands.specs.Scanner.{Atom, no_text, tree, refused, due, nothing, scan, scanned}
use Rattle.operands.specs.Grammar.{united}
use Rattle.operands.specs.Stopping.{closes_united}
use Rattle.operands.specs.Surroundings.{scan_from, Fails, accepts, closes_none}
use Rattle.operands.specs.Reading.{whole_tree, Whole}

-- the expression has a tree of signs, and the labels are those of the tree that it stands for, while there is room; or
-- its places: one more than there is room for says that it has more nodes
pub record ExpressionRead (syntax : Syntax) (places : Bool) (bytes later : List ℕ) (total : ℕ) : Type 0 where
  pub signs : SignedTree Atom
  pub scans : scanned syntax bytes ≡ tree signs
  pub read : PlacedTree Leaf
  pub stands : placed_with_leaves (atom_at bytes) read ≡ placed_stands_for no_text signs
  pub placed : LeavesPlaced bytes (unplaced read)
  pub counted : total ≡ capped most_labels (nodes (unplaced read))
  pub written : total ≤ most_labels → take total later ≡ noted places read

-- the expression is refused
pub record ExpressionRefused (syntax : Syntax) (bytes : List ℕ) (number place : ℕ) : Type 0 where
  pub scans : scanned syntax bytes ≡ refused number place

-- what reading a whole expression answers
abbrev pub ExpressionAnswer : Syntax → (places : Bool) → (bytes : List ℕ) → (total : ℕ) → (later : List ℕ)
    → Result (Unit {0}) Refused → Type 0
ExpressionAnswer syntax places bytes total later (Ok _) = ExpressionRead syntax places bytes later total
ExpressionAnswer syntax places bytes total later (Err fault) =
    ExpressionRefused syntax bytes (refusal_number fault.refusal) fault.place

-- no bytes
pub empty : (syntax : Syntax) (bytes : List ℕ) → length bytes ≡ 0 → ExpressionRefused syntax bytes expression_empty 0
unfolding scanned
empty syntax [] e = record { scans = refl }
empty syntax (b ∷ bytes) e = absurd (omega arith)

-- too many bytes
pub too_long : (syntax : Syntax) (bytes : List ℕ) → longest_expression < length bytes
    → ExpressionRefused syntax bytes expression_too_long longest_expression
unfolding scanned
too_long syntax [] h = absurd (omega arith)
too_long syntax (b ∷ bytes) h =
    record {
      scans = ap (λ (t : Bool). cond t (refused expression_too_long longest_expression) (scan syntax
          (b ∷ bytes) 0 due nothing []))
          (lt-ltb longest_expression (length (b ∷ bytes)) h);
    }

-- else the scan decides
sized : (syntax : Syntax) (bytes : List ℕ) → (length bytes ≡ 0 → ⊥) → length bytes ≤ longest_expression
    → scanned syntax bytes
    ≡ scan_from syntax bytes 0 due nothing []
unfolding scanned scan_from
sized syntax [] some h = absurd (some refl)
sized syntax (b ∷ bytes) some h = ap (λ (t : Bool). cond t (refused expression_too_long longest_expression) (scan syntax
    (b ∷ bytes) 0 due nothing []))
    (le-ltb longest_expression (length (b ∷ bytes)) h)

module _ (syntax : Syntax) (bytes : List ℕ) (some : length bytes ≡ 0
    → ⊥) (few : length bytes ≤ longest_expression) where
  -- the union that the expression is was refused
  pub faulty : {number place : ℕ} → Fails syntax united bytes 0 0 number place
      → ExpressionRefused syntax bytes number place
  faulty f = record { scans = sized syntax bytes some few ∙ f.onward nothing [] refl }

  module _ {places : Bool} {next total : ℕ} {earlier later : List ℕ}
      (w : Whole syntax places united bytes 0 0 0 earlier next total later) where
    -- a `)` with no group open
    pub unopened : next < length bytes → ExpressionRefused syntax bytes closing_without_group next
    unopened h =
        record {
          scans = sized syntax bytes some few
              ∙ closes_none syntax bytes next w.went.leads h (closes_united syntax bytes next w.stops h);
        }

    -- the end
    pub accepted : next ≡ length bytes → ExpressionRead syntax places bytes later total
    accepted e =
        let r = w.went in
        record {
          signs = signs_at bytes r.read;
          scans = sized syntax bytes some few ∙ accepts syntax bytes next r.leads e;
          read = whole_tree r.read;
          stands = sym (placed_stands_for_leaves (atom_at bytes) Leaf.empty_text r.read);
          placed = rw (unplaced_stands_for Leaf.empty_text r.read)
              (every_stands_for (LeafPlaced bytes) Leaf.empty_text tt r.read r.placed);
          counted = omega (arith, r.labelled.counted);
          written = r.labelled.written;
        }

-- where labels are noted: a tree that is the written one but for its classes, which hold their places, and its labels
pub record LabelsRead (syntax : Syntax) (bytes later : List ℕ) (total : ℕ) : Type 0 where
  pub signs : SignedTree Atom
  pub scans : scanned syntax bytes ≡ tree signs
  pub read : Tree Leaf
  pub stands : written_at bytes read ≡ stands_for no_text signs
  pub placed : LeavesPlaced bytes read
  pub counted : total ≡ capped most_labels (nodes read)
  pub written : total ≤ most_labels → take total later ≡ labels read

pub labels_read : {syntax : Syntax} {bytes later : List ℕ} {total : ℕ}
    → ExpressionRead syntax false bytes later total → LabelsRead syntax bytes later total
labels_read {bytes = bytes} w =
    record {
      signs = w.signs;
      scans = w.scans;
      read = unplaced w.read;
      stands = sym (unplaced_leaves (atom_at bytes) w.read) ∙ ap unplaced w.stands
          ∙ unplaced_stands_for no_text w.signs;
      placed = w.placed;
      counted = w.counted;
      written = λ h. w.written h ∙ noted_labels w.read;
    }

-- where places are noted: those of the tree that the expression stands for
pub record PlacesRead (syntax : Syntax) (bytes later : List ℕ) (total : ℕ) : Type 0 where
  pub signs : SignedTree Atom
  pub scans : scanned syntax bytes ≡ tree signs
  pub counted : total ≡ capped most_labels (nodes (stands_for no_text signs))
  pub written : total ≤ most_labels → take total later ≡ tree_places (placed_stands_for no_text signs)

pub places_read : {syntax : Syntax} {bytes later : List ℕ} {total : ℕ}
    → ExpressionRead syntax true bytes later total → PlacesRead syntax bytes later total
places_read {bytes = bytes} w =
    let same = sym (unplaced_leaves (atom_at bytes) w.read) ∙ ap unplaced w.stands
    ∙ unplaced_stands_for no_text w.signs in
    record {
      signs = w.signs;
      scans = w.scans;
      counted = w.counted
          ∙ ap (capped most_labels) (sym (nodes_leaves (atom_at bytes) (unplaced w.read)) ∙ ap nodes same);
      written = λ h. w.written h ∙ noted_places w.read ∙ sym (places_leaves (atom_at bytes) w.read)
          ∙ ap tree_places w.stands;
    }
