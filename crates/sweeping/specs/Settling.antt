-- When the words of a piece and of its child pieces are settled: each child piece is, and is joined to its stand-in.
use Rattle.std.specs.Prelude.{ℕ, suc, ◌+◌, ◌-◌, ◌≡◌, refl, ◌↔◌, List, [], ◌∷◌, ◌++◌, get_or, drop}
use Rattle.std.proofs.Common.{arith, sym, ap, ◌∙◌, subst, get_or-drop, drop-drop}
use Rattle.std.proofs.Math.Logic.Iff
use Rattle.language.specs.Automaton.{State, start, accepting, left, right, Empty, here, step}
use Rattle.language.specs.Nested.{Nested, leaf, catenation, union, star, below, Has, OwnEmpty}
use Rattle.language.specs.Simulation.{SettledBy}
use Rattle.language.specs.Settled.{Wire, Settled}
use Rattle.language.proofs.Unmoved.{settled_agree}
use Rattle.tree.specs.Leaf.{Leaf, byteless}
use Rattle.tables.specs.Words.{Bit, width, run, Holds}
use Rattle.tables.specs.Plan.{Closes}
use Rattle.closing.specs.EachPieceClosed.{EachClosed, EachClosedBelow, closed_same}
use Rattle.closing.specs.Passes.Transitions.{transition_own}
use Rattle.sweeping.specs.Swept.{ChildPiece, children_of, child_run}
use Rattle.closing.specs.BitsOfWords.Spots.{bit_at, bit_of}
use Rattle.closing.specs.Within.{own_has}
use Rattle.sweeping.specs.PartPlaces.{
  StandsAt,
  place_in,
  place_whole,
  catenation_left,
  catenation_right,
  union_left,
  union_right,
  star_inside,
}
use Rattle.sweeping.specs.Visiting.{own_holds, accepting_holds, part_at, child_holds, stand_holds}

-- the child piece x, its stand-in's start numbered i, its run at f
abbrev child_at : ℕ → ℕ → Nested Leaf → ChildPiece
child_at i f x = record { stand = i; from = f; tree = x }

-- P holds of each child piece
abbrev pub EachChild : (ChildPiece → Type 0) → List ChildPiece → Type 0
EachChild P [] = Unit {0}
EachChild P (c ∷ cs) = P c × EachChild P cs

pub each_append : (P : ChildPiece → Type 0) (cs ds : List ChildPiece)
    → EachChild P (cs ++ ds) ↔ (EachChild P cs × EachChild P ds)
each_append P [] ds = (λ h. (tt, h), λ h. h.1)
each_append P (c ∷ cs) ds = (
  λ h. let (some, others) = (each_append P cs ds).0 h.1 in ((h.0, some), others),
  λ h. (h.0.0, (each_append P cs ds).1 (h.0.1, h.1)),
)

pub each_map : {P Q : ChildPiece → Type 0} (cs : List ChildPiece) → ((c : ChildPiece) → P c → Q c) → EachChild P cs
    → EachChild Q cs
each_map [] f h = tt
each_map (c ∷ cs) f h = (f c h.0, each_map cs f h.1)

-- the run of each child piece is closed piece by piece: so all words below are
pub closed_of_children : (x : Nested Leaf) (i f : ℕ) (words : List ℕ)
    → EachChild (λ c. EachClosed c.tree (child_run c words)) (children_of x i f)
    → EachClosedBelow x (drop f words)
closed_of_children (leaf a) i f words each = tt
closed_of_children (catenation x y) i f words each =
    let (some, others) = (each_append (λ c. EachClosed c.tree (child_run c words)) (children_of x (i + 1) f)
    (children_of y (i + (1 + width x)) (f + run x))).0 each in (
      closed_of_children x (i + 1) f words some,
      subst (EachClosedBelow y) (sym (drop-drop (run x) f words))
          (closed_of_children y (i + (1 + width x)) (f + run x) words others),
    )
closed_of_children (union x y) i f words each =
    let (some, others) = (each_append (λ c. EachClosed c.tree (child_run c words)) (children_of x (i + 1) f)
    (children_of y (i + (1 + width x)) (f + run x))).0 each in (
      closed_of_children x (i + 1) f words some,
      subst (EachClosedBelow y) (sym (drop-drop (run x) f words))
          (closed_of_children y (i + (1 + width x)) (f + run x) words others),
    )
closed_of_children (star x) i f words each = closed_of_children x (i + 1) f words each
closed_of_children (below x) i f words each =
    closed_same x (child_run (child_at i f x) words) (drop f words)
    (λ o l. part_at (child_at i f x) words o l ∙ sym (get_or-drop f words o 0)) each.0

-- a closed own word is settled under the own tree's transitions
own_settled : (x : Nested Leaf) (words : List ℕ) → Closes x (get_or words 0 0) (get_or words 0 0)
    → SettledBy (OwnEmpty byteless x) (Holds x words)
own_settled x words closes p q e m =
    let (o, o') = transition_own x e in
    (own_holds x words q (own_has x q o') o').1
    ((closes.exactly q o').1 (p, o, (own_holds x words p (own_has x p o) o).0 m, step e here))

-- the child piece c is settled, its start is marked where its stand-in's is, and its stand-in's accepting state where
-- its own is
pub record JoinedChild (words : List ℕ) (c : ChildPiece) : Type 0 where
  pub down : Bit (get_or words 0 0) c.stand → Bit (get_or words c.from 0) 0
  pub up : Bit (get_or words c.from 0) (width c.tree - 1) → Bit (get_or words 0 0) (c.stand + 1)
  pub settled : Settled byteless c.tree (Holds c.tree (child_run c words))

module _ (whole : Nested Leaf) (words : List ℕ) (closes : Closes whole (get_or words 0 0) (get_or words 0 0)) where
  -- the part x of the piece, at e, whose own transitions are the piece's
  settled_part : (x : Nested Leaf) (e : State → State) (i n f : ℕ) → StandsAt whole x e i n → f ≡ suc n
      → ((p q : State) → OwnEmpty byteless x p q → OwnEmpty byteless whole (e p) (e q))
      → EachChild (JoinedChild words) (children_of x i f) → Settled byteless x (λ p. Holds whole words (e p))
  settled_part (leaf a) e i n f place from stands each = wires
    where
      wires : (p q : State) → Wire byteless (leaf a) p q → Holds whole words (e p) → Holds whole words (e q)
      wires p q (Wire.leaf_past has) m = own_settled whole words closes _ _ (stands _ _ (Empty.leaf_past has)) m
  settled_part (catenation x y) e i n f place from stands each = (
    wires,
    settled_part x (λ p. e (left p)) (i + 1) n f (place_in (i + 1) n refl (omega arith) place (catenation_left x y))
        from (λ p q t. stands _ _ (Empty.catenation_left t)) split.0,
    settled_part y (λ p. e (right p)) (i + (1 + width x)) (n + run x) (f + run x)
        (place_in (i + (1 + width x)) (n + run x) refl refl place (catenation_right x y)) (omega arith)
        (λ p q t. stands _ _ (Empty.catenation_right t)) split.1,
  )
    where
      split : EachChild (JoinedChild words) (children_of x (i + 1) f)
          × EachChild (JoinedChild words) (children_of y (i + (1 + width x)) (f + run x))
      split = (each_append (JoinedChild words) (children_of x (i + 1) f)
          (children_of y (i + (1 + width x)) (f + run x))).0 each

      wires : (p q : State) → Wire byteless (catenation x y) p q → Holds whole words (e p) → Holds whole words (e q)
      wires p q Wire.catenation_in m = own_settled whole words closes _ _ (stands _ _ Empty.catenation_in) m
      wires p q Wire.catenation_over m = own_settled whole words closes _ _ (stands _ _ Empty.catenation_over) m
      wires p q Wire.catenation_out m = own_settled whole words closes _ _ (stands _ _ Empty.catenation_out) m
  settled_part (union x y) e i n f place from stands each = (
    wires,
    settled_part x (λ p. e (left p)) (i + 1) n f (place_in (i + 1) n refl (omega arith) place (union_left x y)) from
        (λ p q t. stands _ _ (Empty.union_left t)) split.0,
    settled_part y (λ p. e (right p)) (i + (1 + width x)) (n + run x) (f + run x)
        (place_in (i + (1 + width x)) (n + run x) refl refl place (union_right x y)) (omega arith)
        (λ p q t. stands _ _ (Empty.union_right t)) split.1,
  )
    where
      split : EachChild (JoinedChild words) (children_of x (i + 1) f)
          × EachChild (JoinedChild words) (children_of y (i + (1 + width x)) (f + run x))
      split = (each_append (JoinedChild words) (children_of x (i + 1) f)
          (children_of y (i + (1 + width x)) (f + run x))).0 each

      wires : (p q : State) → Wire byteless (union x y) p q → Holds whole words (e p) → Holds whole words (e q)
      wires p q Wire.union_in_left m = own_settled whole words closes _ _ (stands _ _ Empty.union_in_left) m
      wires p q Wire.union_in_right m = own_settled whole words closes _ _ (stands _ _ Empty.union_in_right) m
      wires p q Wire.union_out_left m = own_settled whole words closes _ _ (stands _ _ Empty.union_out_left) m
      wires p q Wire.union_out_right m = own_settled whole words closes _ _ (stands _ _ Empty.union_out_right) m
  settled_part (star x) e i n f place from stands each = (
    wires,
    settled_part x (λ p. e (left p)) (i + 1) n f (place_in (i + 1) n refl (omega arith) place (star_inside x))
        from (λ p q t. stands _ _ (Empty.star_inside t)) each,
  )
    where
      wires : (p q : State) → Wire byteless (star x) p q → Holds whole words (e p) → Holds whole words (e q)
      wires p q Wire.star_in m = own_settled whole words closes _ _ (stands _ _ Empty.star_in) m
      wires p q Wire.star_past m = own_settled whole words closes _ _ (stands _ _ Empty.star_past) m
      wires p q Wire.star_out m = own_settled whole words closes _ _ (stands _ _ Empty.star_out) m
      wires p q Wire.star_back m = own_settled whole words closes _ _ (stands _ _ Empty.star_back) m
  settled_part (below x) e i n f place from stands each =
      (wires, settled_agree byteless x (λ q h. Iff.symm (inside q h)) each.0.settled)
    where
      inside : (q : State) → Has x q → Holds whole words (e (left q)) ↔ Holds x (child_run (child_at i f x) words) q
      inside = child_holds whole e (child_at i f x) n place from words

      first : get_or (child_run (child_at i f x) words) 0 0 ≡ get_or words f 0
      first = part_at (child_at i f x) words 0 (omega arith) ∙ ap (λ (o : ℕ). get_or words o 0) (omega arith)

      wires : (p q : State) → Wire byteless (below x) p q → Holds whole words (e p) → Holds whole words (e q)
      wires p q Wire.pass_down m =
          (inside start tt).1 ((own_holds x (child_run (child_at i f x) words) start tt tt).1 ((bit_of 0 first).1
          (each.0.down
          ((bit_at (get_or words 0 0) (omega arith)).0
          ((stand_holds whole e (child_at i f x) n place from words start 0 tt refl).0 m)))))
      wires p q Wire.pass_up m =
          (stand_holds whole e (child_at i f x) n place from words accepting 1 tt refl).1
          (each.0.up
          ((bit_of (width x - 1) first).0
          ((accepting_holds x (child_run (child_at i f x) words)).0 ((inside accepting tt).0 m))))

  -- all child pieces of the piece are joined: so the words are settled
  pub settled_words : EachChild (JoinedChild words) (children_of whole 0 1)
      → Settled byteless whole (Holds whole words)
  settled_words each = settled_part whole (λ p. p) 0 0 1 (place_whole whole) refl (λ p q t. t) each

-- a single piece has no child pieces
each_none : (P : ChildPiece → Type 0) (x : Nested Leaf) (i f : ℕ) → run x ≡ 0 → EachChild P (children_of x i f)
each_none P (leaf a) i f alone = tt
each_none P (catenation x y) i f alone =
    (each_append P (children_of x (i + 1) f) (children_of y (i + (1 + width x)) (f + run x))).1
    (each_none P x (i + 1) f (omega arith), each_none P y (i + (1 + width x)) (f + run x) (omega arith))
each_none P (union x y) i f alone =
    (each_append P (children_of x (i + 1) f) (children_of y (i + (1 + width x)) (f + run x))).1
    (each_none P x (i + 1) f (omega arith), each_none P y (i + (1 + width x)) (f + run x) (omega arith))
each_none P (star x) i f alone = each_none P x (i + 1) f alone
each_none P (below x) i f alone = absurd (omega arith)

-- so its word is settled where it is closed
pub settled_alone : (x : Nested Leaf) (words : List ℕ) → run x ≡ 0 → Closes x (get_or words 0 0) (get_or words 0 0)
    → Settled byteless x (Holds x words)
settled_alone x words alone closes = settled_words x words closes (each_none (JoinedChild words) x 0 1 alone)
