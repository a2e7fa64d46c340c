-- What is measured of a tree is measured of every tree of its shape; so of the records' tree, once the classes of the
-- tree with places are numbered.
use Rattle.std.specs.Prelude.{ℕ, ◌≡◌, refl, List, [], ◌∷◌, ◌++◌, map, get_or}
use Rattle.std.proofs.Common.{ap, ◌∙◌}
use Rattle.std.proofs.lemmas.List.{map-append}
use Rattle.language.specs.Tree.{Tree, nodes}
use Rattle.tree.specs.Leaf.{Leaf}
use Rattle.tree.specs.Cut.{open_size}
use Rattle.tree.specs.Numbering.{Nodewise, Walker, at_left, at_right}
use Rattle.tree.specs.Records.{labels}
use Rattle.tree.specs.Postorder.{labels_injective}
use Rattle.cutting.specs.Seats.{Seat, seats_by, cut_edges}
use Rattle.cutting.specs.Measured.{SlotsHold, Measured}
use Rattle.operands.specs.LeavesPlaced.{written_at}
use Rattle.checker.specs.Drawn.{recorded}
use Rattle.checker.specs.OneShape.{
  OneShape,
  leaves,
  catenations,
  unions,
  stars,
  alike_nodes,
  alike_open,
  alike_cuts,
  recorded_alike,
  written_alike,
}

-- of one shape with the same tree
alike_both : {A B C : Type 0} {s : Tree A} {t : Tree B} {u : Tree C} → OneShape s t → OneShape t u → OneShape s u
alike_both leaves leaves = leaves
alike_both (catenations p q) (catenations r v) = catenations (alike_both p r) (alike_both q v)
alike_both (unions p q) (unions r v) = unions (alike_both p r) (alike_both q v)
alike_both (stars p) (stars r) = stars (alike_both p r)

-- lists that are the same part by part
two_and_one : {xs us ys vs : List ℕ} {m n : ℕ} → xs ≡ us → ys ≡ vs → m ≡ n
    → xs ++ ys ++ (m ∷ []) ≡ us ++ vs ++ (n ∷ [])
two_and_one p q r = rw (p, q, r)

one_and_one : {xs us : List ℕ} {m n : ℕ} → xs ≡ us → m ≡ n → xs ++ (m ∷ []) ≡ us ++ (n ∷ [])
one_and_one p r = rw (p, r)

-- a number that trees of one shape have in common
module _ (f : Tree Leaf → ℕ) (common : (s t : Tree Leaf) → OneShape s t → f s ≡ f t) where
  -- it, of each seat's tree
  abbrev each : List Seat → List ℕ
  each xs = map (λ (x : Seat). f x.tree) xs

  -- the seats of such trees have it in common, one by one
  alike_seats : {s t : Tree Leaf} → OneShape s t → (x y : Nodewise Walker) → each (seats_by s x) ≡ each (seats_by t y)
  alike_seats leaves x y = ap (λ (n : ℕ). n ∷ []) (common _ _ leaves)
  alike_seats (catenations p q) x y =
      simp map-append (two_and_one (alike_seats p (at_left x) (at_left y)) (alike_seats q (at_right x) (at_right y))
      (common _ _ (catenations p q)))
  alike_seats (unions p q) x y =
      simp map-append (two_and_one (alike_seats p (at_left x) (at_left y)) (alike_seats q (at_right x) (at_right y))
      (common _ _ (unions p q)))
  alike_seats (stars p) x y =
      simp map-append (one_and_one (alike_seats p (at_left x) (at_left y)) (common _ _ (stars p)))

  -- so the slots hold it for both
  alike_slots : {s t : Tree Leaf} {i : ℕ} {slots : List ℕ} → OneShape s t → SlotsHold f s i slots
      → SlotsHold f t i slots
  alike_slots a h =
      record {
        slot = λ j low. h.slot j low ∙ ap (λ (ns : List ℕ). get_or (0 ∷ ns) j 0) (alike_seats a _ _);
      }

-- what is measured of one is measured of the other
measured_alike : {s t : Tree Leaf} {sizes opens cuts : List ℕ} {i : ℕ} → OneShape s t
    → Measured (labels s) sizes opens cuts i → Measured (labels t) sizes opens cuts i
measured_alike {s} {t} a m =
    record {
      sized = λ u e. alike_slots nodes (λ v w a. alike_nodes a) (rw (labels_injective t u e) at a)
          (m.sized s refl);
      opened = λ u e. alike_slots open_size (λ v w a. alike_open a) (rw (labels_injective t u e) at a)
          (m.opened s refl);
      counted = λ u e. alike_slots cut_edges (λ v w a. alike_cuts a) (rw (labels_injective t u e) at a)
          (m.counted s refl);
    }

-- the tree with places was measured, and so the tree of the records is
pub measured_numbered : (bytes : List ℕ) (p : Tree Leaf) {sizes opens cuts : List ℕ} {i : ℕ}
    → Measured (labels p) sizes opens cuts i
    → Measured (labels (recorded (written_at bytes p))) sizes opens cuts i
measured_numbered bytes p m =
    measured_alike (alike_both (written_alike bytes p) (recorded_alike (written_at bytes p) 0)) m
