-- Sets of states that are taken as one step to the same marks, and so do bytes that no leaf tells apart.
use Rattle.std.specs.Prelude.{ℕ, ◌↔◌}
use Rattle.std.proofs.Math.Logic.Iff
use Rattle.language.specs.Tree.{Tree}
use Rattle.language.specs.Meaning.{Meaning}
use Rattle.language.specs.Automaton.{State, accepting, States, Reads, at_leaf, Stepped}
use Rattle.language.specs.Simulation.{◌⊆◌, closed_more}
use Rattle.language.specs.TakenAsOne.{LeafStart, TakenAsOne, NotToldApart}

module _ {A : Type 0} (M : Meaning A) where
  -- a set is taken as one with itself
  pub taken_same : (t : Tree A) (X : States) → TakenAsOne M t X X
  taken_same t X = record { starts = λ p leaf. Iff.rfl; accepts = Iff.rfl }

  -- in either order
  pub taken_back : {t : Tree A} {X Y : States} → TakenAsOne M t X Y → TakenAsOne M t Y X
  taken_back one = record { starts = λ p leaf. Iff.symm (one.starts p leaf); accepts = Iff.symm one.accepts }

  -- and along a third
  pub taken_along : {t : Tree A} {X Y Z : States} → TakenAsOne M t X Y → TakenAsOne M t Y Z → TakenAsOne M t X Z
  taken_along one other = record {
    starts = λ p leaf. Iff.trans (one.starts p leaf) (other.starts p leaf);
    accepts = Iff.trans one.accepts other.accepts;
  }

  -- sets with the same marks are taken as one
  pub taken_alike : (t : Tree A) {X Y : States} → ((p : State) → X p ↔ Y p) → TakenAsOne M t X Y
  taken_alike t alike = record { starts = λ p leaf. alike p; accepts = alike accepting }

  -- not told apart: each byte from itself, in either order, and along a third
  pub told_same : (t : Tree A) (b : ℕ) → NotToldApart M t b b
  told_same t b p q = Iff.rfl

  pub told_back : (t : Tree A) (b c : ℕ) → NotToldApart M t b c → NotToldApart M t c b
  told_back t b c alike p q = Iff.symm (alike p q)

  pub told_along : (t : Tree A) (b c d : ℕ) → NotToldApart M t b c → NotToldApart M t c d → NotToldApart M t b d
  told_along t b c d alike other p q = Iff.trans (alike p q) (other p q)

  -- a byte steps to no more than one that no leaf tells apart from it
  stepped_within : (t : Tree A) (b c : ℕ) → NotToldApart M t b c → (X : States)
      → Stepped M t b X ⊆ Stepped M t c X
  stepped_within t b c alike X = closed_more M t (λ q (p, marked, reads). (p, marked, (alike p q).0 reads))

  -- the result on bytes: those that no leaf tells apart step to the same marks
  pub stepped_by_either : (t : Tree A) (b c : ℕ) → NotToldApart M t b c → (X : States) (q : State)
      → Stepped M t b X q ↔ Stepped M t c X q
  stepped_by_either t b c alike X q =
      (stepped_within t b c alike X q, stepped_within t c b (told_back t b c alike) X q)

-- where a leaf that takes a byte has not the empty text
module _ {A : Type 0} (M : Meaning A) (either : (a : A) (b : ℕ) → M.Takes a b → M.HasEmpty a → ⊥) where
  -- a transition that reads begins where a leaf does
  reads_from_leaf : {b : ℕ} {t : Tree A} {p q : State} → Reads M b t p q → LeafStart M t p
  reads_from_leaf {b} (at_leaf {a} takes) = either a b takes
  reads_from_leaf (Reads.catenation_left reads) = reads_from_leaf reads
  reads_from_leaf (Reads.catenation_right reads) = reads_from_leaf reads
  reads_from_leaf (Reads.union_left reads) = reads_from_leaf reads
  reads_from_leaf (Reads.union_right reads) = reads_from_leaf reads
  reads_from_leaf (Reads.star_inside reads) = reads_from_leaf reads

  -- so a set steps to no more than one that is taken as one with it
  taken_within : {t : Tree A} {X Y : States} → TakenAsOne M t X Y → (b : ℕ) → Stepped M t b X ⊆ Stepped M t b Y
  taken_within {t} one b =
      closed_more M t (λ q (p, marked, reads). (p, (one.starts p (reads_from_leaf reads)).0 marked, reads))

  -- the result on sets: those that are taken as one step to the same marks
  pub stepped_from_either : {t : Tree A} {X Y : States} → TakenAsOne M t X Y → (b : ℕ) (q : State)
      → Stepped M t b X q ↔ Stepped M t b Y q
  stepped_from_either one b q = (taken_within one b q, taken_within (taken_back M one) b q)
