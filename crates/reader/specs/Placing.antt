-- Reading an expression once more, for its places: they stand in the scratch, one for each record.
use Rattle.std.specs.Prelude.{ℕ, ◌≤◌, ◌≡◌, true, List, Result, Ok, Err}
use Rattle.std.proofs.Math.Path.{ap, sym}
use Rattle.std.proofs.Common.{◌∙◌, arith}
use Rattle.std.proofs.Math.ListN.{take}
use Rattle.language.specs.Tree.{Tree, nodes}
use Rattle.language.specs.SignedTree.{SignedTree}
use Rattle.tree.specs.Limits.{most_labels}
use Rattle.operands.specs.Bytes.{Syntax}
use Rattle.operands.specs.Scanner.{Atom, tree, scanned}
use Rattle.operands.proofs.Sound.{no_tree}
use Rattle.operands.specs.LeavesPlaced.{written_at}
use Rattle.scanner.specs.Expression.{ExpressionAnswer, PlacesRead, places_read}
use Rattle.tree.specs.declared.refusal.Refused.{Refused}
use Rattle.checker.specs.Expanded.{expansion, expanded}
use Rattle.checker.specs.ExpandedLaws.{expanded_tree, expanded_size}
use Rattle.checker.specs.OneShape.{nodes_recorded}
use Rattle.reader.specs.PlacesIn.{places_for, places_in}
use Rattle.checker.specs.Counted.{ReadingCounted, counts_are}

-- the expression has a tree of so many nodes
pub record PlacesDue (syntax : Syntax) (bytes : List ℕ) (count : ℕ) : Type 0 where
  pub stands_for : Tree Atom
  pub scans : expanded syntax bytes ≡ tree stands_for
  pub counted : count ≡ nodes stands_for

-- so it has where it was read and counted
pub due_counted : {syntax : Syntax} {bytes later : List ℕ} {records pieces classes : ℕ}
    → ReadingCounted syntax bytes later records pieces classes → PlacesDue syntax bytes records
due_counted {bytes = bytes} c =
    record {
      stands_for = written_at bytes c.read;
      scans = c.scans;
      counted = (counts_are c).counted ∙ nodes_recorded (written_at bytes c.read);
    }

-- there is room for a place for each node
pub due_few : {syntax : Syntax} {bytes : List ℕ} {count : ℕ} → PlacesDue syntax bytes count → count ≤ most_labels
due_few {syntax} {bytes} due = omega (arith, due.counted, expanded_size syntax bytes due.stands_for due.scans)

module _ (syntax : Syntax) (bytes later : List ℕ) {count : ℕ} (due : PlacesDue syntax bytes count) where
  -- it is read again, and the scratch begins with its places
  same_signs : (s u : SignedTree Atom) → scanned syntax bytes ≡ tree s → scanned syntax bytes ≡ tree u → s ≡ u
  same_signs s u p q = cc (p, q)

  read_again : {total : ℕ} → PlacesRead syntax bytes later total → take count later ≡ places_in syntax bytes
  unfolding expanded places_in
  read_again {total} w =
      let (s, scans, same, small) = expanded_tree (scanned syntax bytes) due.stands_for due.scans in
      let signs : w.signs ≡ s = same_signs w.signs s w.scans scans in
      let size : nodes (expansion w.signs) ≡ count =
      ap (λ (u : SignedTree Atom). nodes (expansion u)) signs ∙ ap nodes (sym same) ∙ sym due.counted in
      let all_of : total ≡ count = omega (arith, w.counted, size, due.counted, small) in
      ap (λ (n : ℕ). take n later) (sym all_of)
      ∙ w.written (omega (arith, w.counted, size, due.counted, small)) ∙ ap places_for (sym w.scans)

  -- whatever is answered: it is not refused, since it was not before
  pub placed_again : (total : ℕ) (r : Result (Unit {0}) Refused) → ExpressionAnswer syntax true bytes total later r
      → take count later ≡ places_in syntax bytes
  unfolding expanded
  placed_again total (Ok _) a = read_again (places_read a)
  placed_again total (Err fault) a =
      let (s, scans, same, small) = expanded_tree (scanned syntax bytes) due.stands_for due.scans in
      no_tree (sym a.scans ∙ scans)
