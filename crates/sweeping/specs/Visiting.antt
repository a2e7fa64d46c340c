-- What visiting one child piece after the other makes of the words is what the sweep makes of the marks that they hold.
use Rattle.std.specs.Prelude.{ℕ, suc, ◌+◌, ◌-◌, ◌≤◌, ◌<◌, ◌≡◌, ◌⊎◌, ◌↔◌, List, [], ◌∷◌, ◌++◌, length, drop, set}
use Rattle.std.proofs.Common.{arith, sym, ◌∙◌, get_or-take, get_or-set_same, get_or-set_other}
use Rattle.std.proofs.Math.Path.{refl, ap, subst}
use Rattle.std.proofs.Math.Logic.Iff
use Rattle.std.proofs.Math.Logic.{inl, inr, ⊎_elim}
use Rattle.std.proofs.Math.ListN.{get_or}
use Rattle.std.proofs.Math.Seq.{get_or-drop}
use Rattle.language.specs.Automaton.{State, start, accepting, left, right, States, here}
use Rattle.language.specs.Nested.{
  Nested,
  leaf,
  catenation,
  union,
  star,
  below,
  own as own-tree,
  Has,
  Down,
  Up,
  Visit,
  Sweep,
  OwnClosed,
}
use Rattle.language.specs.Same.{Agree}
use Rattle.language.proofs.Same.{up_more_in, visit_more_in, sweep_same}
use Rattle.tree.specs.Leaf.{Leaf, byteless}
use Rattle.tables.specs.Words.{Bit, width, run, Own, number, Holds}
use Rattle.tables.specs.Plan.{Closes}
use Rattle.closing.specs.BitsOfWords.Numbers.{number_accepting}
use Rattle.sweeping.specs.Swept.{passed, ChildPiece, children_of, child_run, started, Visited, Visits}
use Rattle.sweeping.specs.Passing.{bit_passed}
use Rattle.closing.specs.BitsOfWords.Spots.{
  Spot,
  own,
  under,
  shift,
  enter,
  spot,
  SetAt,
  holds_held,
  SpotWithin,
  spot_within,
  own_spot,
  Under,
  under_enter,
  under_shift,
  own_or_under,
  InFirstWord,
  first_start,
  held_at,
  bit_at,
  bit_of,
  iff_either,
}
use Rattle.closing.specs.Within.{own_has, path_own, begins, closed_within, sweep_extends}
use Rattle.sweeping.specs.PartPlaces.{
  Outside,
  StandsAt,
  place_in,
  place_whole,
  catenation_left,
  catenation_right,
  union_left,
  union_right,
  star_inside,
}

-- a state of the top piece is marked exactly when the bit of its number is set
pub own_holds : {A : Type 0} (x : Nested A) (words : List ℕ) (q : State) → Has x q → Own x q
    → Holds x words q ↔ Bit (get_or words 0 0) (number x q)
own_holds x words q h o = (
  λ m. subst (λ (s : Spot). SetAt s words) (own_spot x q o) ((holds_held x words q h).0 m),
  λ b. (holds_held x words q h).1 (subst (λ (s : Spot). SetAt s words) (sym (own_spot x q o)) b),
)

-- the top piece's accepting state is its last
pub accepting_holds : {A : Type 0} (x : Nested A) (words : List ℕ)
    → Holds x words accepting ↔ Bit (get_or words 0 0) (width x - 1)
accepting_holds x words =
    Iff.trans (own_holds x words accepting tt tt) (bit_at (get_or words 0 0) (omega (arith, number_accepting x)))

held_under : (s : Spot) (before after : List ℕ) → Under s → ((o : ℕ) → get_or before (suc o) 0 ≡ get_or after (suc o) 0)
    → SetAt s before → SetAt s after
held_under (own b) before after u same h = absurd u
held_under (under o b) before after u same h = subst (λ (w : ℕ). Bit w b) (same o) h

-- a state below the top piece is marked as before, where the words below are as before
under_holds : {A : Type 0} (x : Nested A) (before after : List ℕ) (q : State) → Has x q → Under (spot x q)
    → ((o : ℕ) → get_or before (suc o) 0 ≡ get_or after (suc o) 0) → Holds x before q → Holds x after q
under_holds x before after q h u same m =
    (holds_held x after q h).1 (held_under (spot x q) before after u same ((holds_held x before q h).0 m))

module _ (x : Nested Leaf) (before after : List ℕ) (closes : Closes x (get_or before 0 0) (get_or after 0 0))
    (same : (o : ℕ) → get_or before (suc o) 0 ≡ get_or after (suc o) 0) where
  to_closed : (q : State) → Has x q → Holds x after q → OwnClosed byteless x (Holds x before) q
  to_closed q h m = ⊎_elim inside (λ u. (q, under_holds x after before q h u (λ o. sym (same o)) m, here))
      (own_or_under x q h)
    where
      inside : Own x q → OwnClosed byteless x (Holds x before) q
      inside o =
          let (p, o', b, way) = (closes.exactly q o).0 ((own_holds x after q h o).0 m) in
          (p, (own_holds x before p (own_has x p o') o').1 b, way)

  from_closed : (q : State) → Has x q → OwnClosed byteless x (Holds x before) q → Holds x after q
  from_closed q h (p, m, way) = ⊎_elim inside outside (own_or_under x q h)
    where
      inside : Own x q → Holds x after q
      inside o =
          let o' : Own x p = ⊎_elim (λ e. subst (Own x) (sym e) o) (λ both. both.0) (path_own x way) in
          (own_holds x after q h o).1
          ((closes.exactly q o).1 (p, o', (own_holds x before p (own_has x p o') o').0 m, way))

      outside : Under (spot x q) → Holds x after q
      outside u =
          ⊎_elim (λ e. under_holds x before after q h u same (subst (Holds x before) e m))
          (λ both. absurd (subst Under (own_spot x q both.1) u)) (path_own x way)

  -- closing the own word closes the marks
  pub closed_holds : Agree x (Holds x after) (OwnClosed byteless x (Holds x before))
  closed_holds q h = (to_closed q h, from_closed q h)

-- an entry of a child piece's run
pub part_at : (c : ChildPiece) (words : List ℕ) (o : ℕ) → o < 1 + run c.tree
    → get_or (child_run c words) o 0 ≡ get_or words (c.from + o) 0
part_at c words o l = get_or-take (1 + run c.tree) (drop c.from words) o 0 l ∙ get_or-drop c.from words o 0

-- the first entry of a child's run with its start passed down
pub started_own : (c : ChildPiece) (words : List ℕ) → c.from < length words
    → get_or (started c words) 0 0 ≡ passed (get_or words 0 0) c.stand (get_or (child_run c words) 0 0) 0
started_own c words room =
    part_at c changed 0 (omega arith) ∙ ap (λ (o : ℕ). get_or changed o 0) (omega arith)
    ∙ get_or-set_same words c.from given 0 room
    ∙ ap (λ (w : ℕ). passed (get_or words 0 0) c.stand w 0) (ap (λ (o : ℕ). get_or words o 0) (omega arith)
    ∙ sym (part_at c words 0 (omega arith)))
  where
    given : ℕ
    given = passed (get_or words 0 0) c.stand (get_or words c.from 0) 0

    changed : List ℕ
    changed = set words c.from given

-- the others are as before
pub started_below : (c : ChildPiece) (words : List ℕ) (o : ℕ) → suc o < 1 + run c.tree
    → get_or (started c words) (suc o) 0
    ≡ get_or (child_run c words) (suc o) 0
started_below c words o l =
    part_at c (set words c.from given) (suc o) l ∙ get_or-set_other words c.from (c.from + suc o) given 0
    (λ e. omega arith) ∙ sym (part_at c words (suc o) l)
  where
    given : ℕ
    given = passed (get_or words 0 0) c.stand (get_or words c.from 0) 0

module _ (c : ChildPiece) (i n k : ℕ) (from : c.from ≡ suc n) where
  part_held : (s : Spot) (words : List ℕ) → SpotWithin k (run c.tree) s
      → SetAt s (child_run c words) ↔ SetAt (shift i n (enter s)) words
  part_held (own b) words l = bit_of b (part_at c words 0 (omega arith) ∙ ap (λ (o : ℕ). get_or words o 0) (omega arith))
  part_held (under o b) words l =
      bit_of b (part_at c words (suc o) (omega arith) ∙ ap (λ (o' : ℕ). get_or words o' 0) (omega arith))

  started_held : (s : Spot) (words : List ℕ) → SpotWithin k (run c.tree) s → c.from < length words
      → SetAt s (started c words) ↔ (SetAt s (child_run c words)
      ⊎ (InFirstWord s × Bit (get_or words 0 0) c.stand))
  started_held (own b) words l room =
      Iff.trans (bit_of b (started_own c words room))
      (bit_passed (get_or words 0 0) c.stand (get_or (child_run c words) 0 0) 0 b)
  started_held (under o b) words l room =
      Iff.trans (bit_of b (started_below c words o (omega arith))) (inl, ⊎_elim (λ h. h) (λ h. absurd h.0))

-- the child piece c stands at e in the piece of x
module _ (x : Nested Leaf) (e : State → State) (c : ChildPiece) (n : ℕ)
    (place : StandsAt x (below c.tree) e c.stand n)
    (from : c.from ≡ suc n) where
  -- a state of a child piece is marked exactly when the child's run holds it
  pub child_holds : (words : List ℕ) (p : State) → Has c.tree p → Holds x words (e (left p))
      ↔ Holds c.tree (child_run c words) p
  child_holds words p h =
      Iff.trans (holds_held x words (e (left p)) ((place.has (left p)).1 h))
      (Iff.trans (held_at words (place.spots (left p) h))
      (Iff.trans (Iff.symm
      (part_held c c.stand n (width c.tree) from (spot c.tree p) words (spot_within c.tree p h)))
      (Iff.symm (holds_held c.tree (child_run c words) p h))))

  -- a state of the stand-in is marked exactly when its bit is set
  pub stand_holds : (words : List ℕ) (q : State) (b : ℕ) → Has (below c.tree) q → spot (below c.tree) q ≡ own b
      → Holds x words (e q) ↔ Bit (get_or words 0 0) (c.stand + b)
  stand_holds words q b h at =
      Iff.trans (holds_held x words (e q) ((place.has q).1 h))
      (held_at words (place.spots q h ∙ ap (shift c.stand n) at))

  -- the start passed down
  pub down_holds : (words : List ℕ) → c.from < length words
      → Agree c.tree (Holds c.tree (started c words)) (Down e (Holds x words))
  down_holds words room p h =
      Iff.trans (holds_held c.tree (started c words) p h)
      (Iff.trans (started_held c c.stand n (width c.tree) from (spot c.tree p) words
      (spot_within c.tree p h) room)
      (iff_either (Iff.symm (Iff.trans (child_holds words p h) (holds_held c.tree (child_run c words) p h)))
      (Iff.and (first_start c.tree p h, λ s. subst (λ (q : State). InFirstWord (spot c.tree q)) (sym s) refl)
      (Iff.symm (Iff.trans (stand_holds words start 0 tt refl) (bit_at (get_or words 0 0) (omega arith)))))))

  -- the words after the visit but for the closing: the own word with the accepting state passed up, and the words below
  module _ (before after : List ℕ) (visited : Visited x c before after) (room : c.from < length before) where
    raised : List ℕ
    raised = passed (get_or after c.from 0) (width c.tree - 1) (get_or before 0 0) (c.stand + 1) ∷ drop 1 after

    raised_below : (o : ℕ) → get_or raised (suc o) 0 ≡ get_or after (suc o) 0
    unfolding raised
    raised_below o = get_or-drop 1 after o 0 ∙ ap (λ (k : ℕ). get_or after k 0) (omega arith)

    -- a bit of the own word
    raised_bit : (b : ℕ)
        → Bit (get_or raised 0 0) b
        ↔ (Bit (get_or before 0 0) b ⊎ ((b ≡ c.stand + 1) × Bit (get_or after c.from 0) (width c.tree - 1)))
    unfolding raised
    raised_bit b = bit_passed (get_or after c.from 0) (width c.tree - 1) (get_or before 0 0) (c.stand + 1) b

    -- a state of the child piece
    raised_child : (p : State) → Has c.tree p → Holds x raised (e (left p)) ↔ Holds c.tree (child_run c after) p
    raised_child p h =
        Iff.trans (same_below (e (left p)) ((place.has (left p)).1 h)
        (subst Under (sym (place.spots (left p) h))
        (under_shift (enter (spot c.tree p)) c.stand n (under_enter (spot c.tree p)))))
        (child_holds after p h)
      where
        same_below : (q : State) → Has x q → Under (spot x q) → Holds x raised q ↔ Holds x after q
        same_below q h u = (
          under_holds x raised after q h u raised_below,
          under_holds x after raised q h u (λ o. sym (raised_below o)),
        )

    -- the child's accepting state
    accepting_bit : Holds c.tree (child_run c after) accepting ↔ Bit (get_or after c.from 0) (width c.tree - 1)
    accepting_bit =
        Iff.trans (accepting_holds c.tree (child_run c after))
        (bit_of (width c.tree - 1) (part_at c after 0 (omega arith) ∙ ap (λ (k : ℕ). get_or after k 0) (omega arith)))

    -- no mark of the child piece is lost
    child_extends : (p : State) → Has c.tree p → Holds c.tree (child_run c before) p
        → Holds c.tree (child_run c after) p
    child_extends p h m =
        (visited.swept.marks p h).1 (sweep_extends c.tree (Holds c.tree (started c before)) p
        ((down_holds before room p h).1 (inl ((child_holds before p h).1 m))))

    -- a state apart from the child piece and its stand-in
    held_apart : (s : Spot) → Outside c.stand 2 n (1 + run c.tree) s → SetAt s raised ↔ SetAt s before
    held_apart (own b) out =
        Iff.trans (raised_bit b)
        (⊎_elim (λ h. h) (λ h. absurd (⊎_elim (λ l. omega (arith, h.0)) (λ l. omega (arith, h.0)) out)), inl)
    held_apart (under o b) out =
        bit_of b (raised_below o
        ∙ visited.others (suc o) (omega arith) (⊎_elim (λ l. inl (omega arith)) (λ l. inr (omega arith)) out))

    apart_holds : (q : State) → Has x q → Outside c.stand 2 n (1 + run c.tree) (spot x q)
        → Holds x raised q ↔ Holds x before q
    apart_holds q h out =
        Iff.trans (holds_held x raised q h) (Iff.trans (held_apart (spot x q) out) (Iff.symm (holds_held x before q h)))

    up : States
    up = Up e (Holds c.tree (child_run c after)) (Holds x before)

    to_up : (p : State) → Has (below c.tree) p → Holds x raised (e p) → up (e p)
    unfolding up
    to_up start h m =
        ⊎_elim (λ b. inl ((stand_holds before start 0 tt refl).1 b)) (λ b. absurd (omega (arith, b.0)))
        ((raised_bit (c.stand + 0)).0 ((stand_holds raised start 0 tt refl).0 m))
    to_up accepting h m =
        ⊎_elim (λ b. inl ((stand_holds before accepting 1 tt refl).1 b)) (λ b. inr (inr (refl, accepting_bit.1 b.1)))
        ((raised_bit (c.stand + 1)).0 ((stand_holds raised accepting 1 tt refl).0 m))
    to_up (left p) h m = inr (inl (p, refl, (raised_child p h).0 m))
    to_up (right p) h m = absurd h

    kept : (p : State) → Has (below c.tree) p → Holds x before (e p) → Holds x raised (e p)
    kept start h m =
        (stand_holds raised start 0 tt refl).1
        ((raised_bit (c.stand + 0)).1 (inl ((stand_holds before start 0 tt refl).0 m)))
    kept accepting h m =
        (stand_holds raised accepting 1 tt refl).1
        ((raised_bit (c.stand + 1)).1 (inl ((stand_holds before accepting 1 tt refl).0 m)))
    kept (left p) h m = (raised_child p h).1 (child_extends p h ((child_holds before p h).0 m))
    kept (right p) h m = absurd h

    inside : (q p : State) → Has x q → q ≡ e p → Has (below c.tree) p
    inside q p h at = (place.has p).0 (subst (Has x) at h)

    from_up : (q : State) → Has x q → up q → Holds x raised q
    unfolding up
    from_up q h =
        ⊎_elim
        (λ m. ⊎_elim
        (λ (p, at). subst (Holds x raised) (sym at) (kept p (inside q p h at) (subst (Holds x before) at m)))
        (λ out. (apart_holds q h out).1 m) (place.apart q h))
        (⊎_elim (λ (p, at, m). subst (Holds x raised) (sym at) ((raised_child p (inside q (left p) h at)).1 m))
        (λ m. subst (Holds x raised) (sym m.0)
        ((stand_holds raised accepting 1 tt refl).1
        ((raised_bit (c.stand + 1)).1 (inr (refl, accepting_bit.0 m.1))))))

    up_holds : Agree x (Holds x raised) up
    unfolding up
    up_holds q h = (
      λ m. ⊎_elim (λ (p, at). subst up (sym at) (to_up p (inside q p h at) (subst (Holds x raised) at m)))
          (λ out. inl ((apart_holds q h out).0 m)) (place.apart q h),
      from_up q h,
    )

    swept_marks : Agree c.tree (Holds c.tree (child_run c after))
        (Sweep byteless c.tree (Down e (Holds x before)))
    swept_marks p h = Iff.trans (visited.swept.marks p h) (sweep_same byteless c.tree (down_holds before room) p h)

    wanted : States
    wanted = Up e (Sweep byteless c.tree (Down e (Holds x before))) (Holds x before)

    up_wanted : Agree x up wanted
    unfolding up wanted
    up_wanted q h = (
      up_more_in e _ _ (Holds x before) (Holds x before) q (λ m. m) (λ p at. (swept_marks p (inside q (left p) h at)).0)
          (swept_marks accepting tt).0,
      up_more_in e _ _ (Holds x before) (Holds x before) q (λ m. m) (λ p at. (swept_marks p (inside q (left p) h at)).1)
          (swept_marks accepting tt).1,
    )

    closing : Closes x (get_or raised 0 0) (get_or after 0 0)
    unfolding raised
    closing = visited.closed

    -- what the visit makes of the marks
    pub visited_holds : Agree x (Holds x after)
        (Visit byteless (below c.tree) e (OwnClosed byteless x) (Holds x before))
    unfolding wanted
    visited_holds q h =
        Iff.trans (closed_holds x raised after closing raised_below q h) (
          closed_within x (Holds x raised) wanted (λ p k m. (up_wanted p k).0 ((up_holds p k).0 m)) q h,
          closed_within x wanted (Holds x raised) (λ p k m. (up_holds p k).1 ((up_wanted p k).1 m)) q h,
        )

-- the visits of one list of child pieces, and then of another
visits_split : (x : Nested Leaf) (cs ds : List ChildPiece) (before after : List ℕ) → Visits x (cs ++ ds) before after
    → (between : List ℕ) × Visits x cs before between × Visits x ds between after
visits_split x [] ds before after v = (before, refl, v)
visits_split x (c ∷ cs) ds before after (next, first, rest) =
    let (between, some, others) = visits_split x cs ds next after rest in
    (between, (next, first, some), others)

visits_length : (x : Nested Leaf) (cs : List ChildPiece) (before after : List ℕ) → Visits x cs before after
    → length after ≡ length before
visits_length x [] before after v = ap length (sym v)
visits_length x (c ∷ cs) before after (next, first, rest) = visits_length x cs next after rest ∙ first.same_length

visit_same : (whole x : Nested Leaf) (e : State → State) (i n : ℕ) → StandsAt whole x e i n → (M N : States)
    → Agree whole M N
    → Agree whole (Visit byteless x e (OwnClosed byteless whole) M) (Visit byteless x e (OwnClosed byteless whole) N)
visit_same whole x e i n place M N same q h = (
  visit_more_in byteless (own-tree whole) x e (Has whole) M N (begins whole) place.has (λ p k. (same p k).0) q h,
  visit_more_in byteless (own-tree whole) x e (Has whole) N M (begins whole) place.has (λ p k. (same p k).1) q h,
)

-- the visits of two parts, one after the other
then_visit : (whole y : Nested Leaf) (e : State → State) (i n : ℕ) → StandsAt whole y e i n → (M N K : States)
    → Agree whole M N
    → Agree whole K (Visit byteless y e (OwnClosed byteless whole) M)
    → Agree whole K (Visit byteless y e (OwnClosed byteless whole) N)
then_visit whole y e i n place M N K first second q h =
    Iff.trans (second q h) (visit_same whole y e i n place M N first q h)

-- the visits of the child pieces below a part of the piece make the marks those of its visit
pub visits_hold : (whole x : Nested Leaf) (e : State → State) (i n f : ℕ) → StandsAt whole x e i n → f ≡ suc n
    → (before after : List ℕ) → 1 + run whole ≤ length before
    → Visits whole (children_of x i f) before after
    → Agree whole (Holds whole after) (Visit byteless x e (OwnClosed byteless whole) (Holds whole before))
visits_hold whole (leaf a) e i n f place from before after room v =
    λ q h. subst (λ (words : List ℕ). Holds whole words q ↔ Holds whole before q) v Iff.rfl
visits_hold whole (catenation x y) e i n f place from before after room v =
    let (between, some, others) =
    visits_split whole (children_of x (i + 1) f) (children_of y (i + (1 + width x)) (f + run x)) before after v in
    let second : StandsAt whole y (λ p. e (right p)) (i + (1 + width x)) (n + run x) =
    place_in (i + (1 + width x)) (n + run x) refl refl place (catenation_right x y) in
    then_visit whole y (λ p. e (right p)) (i + (1 + width x)) (n + run x) second (Holds whole between)
    (Visit byteless x (λ p. e (left p)) (OwnClosed byteless whole) (Holds whole before)) (Holds whole after)
    (visits_hold whole x (λ p. e (left p)) (i + 1) n f
    (place_in (i + 1) n refl (omega arith) place (catenation_left x y)) from before between room some)
    (visits_hold whole y (λ p. e (right p)) (i + (1 + width x)) (n + run x) (f + run x) second (omega arith) between
    after
    (omega (arith, visits_length whole (children_of x (i + 1) f) before between some)) others)
visits_hold whole (union x y) e i n f place from before after room v =
    let (between, some, others) =
    visits_split whole (children_of x (i + 1) f) (children_of y (i + (1 + width x)) (f + run x)) before after v in
    let second : StandsAt whole y (λ p. e (right p)) (i + (1 + width x)) (n + run x) =
    place_in (i + (1 + width x)) (n + run x) refl refl place (union_right x y) in
    then_visit whole y (λ p. e (right p)) (i + (1 + width x)) (n + run x) second (Holds whole between)
    (Visit byteless x (λ p. e (left p)) (OwnClosed byteless whole) (Holds whole before)) (Holds whole after)
    (visits_hold whole x (λ p. e (left p)) (i + 1) n f (place_in (i + 1) n refl (omega arith) place (union_left x y))
    from before between room some)
    (visits_hold whole y (λ p. e (right p)) (i + (1 + width x)) (n + run x) (f + run x) second (omega arith) between
    after
    (omega (arith, visits_length whole (children_of x (i + 1) f) before between some)) others)
visits_hold whole (star x) e i n f place from before after room v =
    visits_hold whole x (λ p. e (left p)) (i + 1) n f (place_in (i + 1) n refl (omega arith) place (star_inside x)) from
    before after room v
visits_hold whole (below x) e i n f place from before after room (between, first, same) =
    subst (λ (words : List ℕ). Agree whole (Holds whole words)
    (Visit byteless (below x) e (OwnClosed byteless whole) (Holds whole before))) same
    (visited_holds whole e (record { stand = i; from = f; tree = x }) n place from before between first
    (omega (arith, place.seat.long)))

-- closing the own word, and then the visits of the child pieces one after the other, make the marks those of a sweep
pub sweep_holds : (x : Nested Leaf) (before begun after : List ℕ) → Closes x (get_or before 0 0) (get_or begun 0 0)
    → ((o : ℕ) → get_or before (suc o) 0 ≡ get_or begun (suc o) 0) → 1 + run x ≤ length begun
    → Visits x (children_of x 0 1) begun after
    → Agree x (Holds x after) (Sweep byteless x (Holds x before))
sweep_holds x before begun after closes same room v =
    then_visit x x (λ p. p) 0 0 (place_whole x) (Holds x begun) (OwnClosed byteless x (Holds x before)) (Holds x after)
    (closed_holds x before begun closes same) (visits_hold x x (λ p. p) 0 0 1 (place_whole x) refl begun after room v)
