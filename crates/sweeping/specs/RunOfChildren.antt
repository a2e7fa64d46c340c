-- The child pieces of a piece stand one after the other in its run: so a walk from word to word meets each once, from
-- left to right.
use Rattle.std.specs.Prelude.{ℕ, zero, suc, ◌+◌, ◌-◌, ◌^◌, ◌≤◌, ◌<◌, min, ◌≡◌, refl, ◌⊎◌, Bool, true, List, [], ◌∷◌, ◌++◌, length, get_or, drop, set}
use Rattle.std.proofs.Common.{arith, sym, ap, ◌∙◌, subst, inl, inr, ⊎_elim, append-nil, length-set, length-take, length-drop, ext_get_or, get_or-drop, get_or-set_same, get_or-set_other, drop-drop, drop-set-lt}
use Rattle.std.proofs.Math.Decide.{dec_lt}
use Rattle.std.proofs.Math.Seq.{append_snoc}
use Rattle.language.specs.Nested.{Nested, leaf, catenation, union, star, below}
use Rattle.language.specs.Settled.{Settled}
use Rattle.tree.specs.Limits.{most_states}
use Rattle.tree.specs.Leaf.{Leaf, byteless}
use Rattle.tables.specs.Words.{Bit, width, run, Holds, Clean}
use Rattle.tables.specs.Plan.{stand_of, ChildrenAt, Closes}
use Rattle.closing.specs.Passes.Laid.{Lays, NarrowBelow, lays}
use Rattle.closing.specs.EachPieceClosed.{EachClosed, EachClosedBelow, closed_same}
use Rattle.sweeping.specs.Swept.{
  Apart,
  InRows,
  Sweepable,
  Swept,
  ChildPiece,
  children_of,
  child_run,
  Visited,
  Visits,
}
use Rattle.closing.specs.WordClosed.{closes_again}
use Rattle.sweeping.specs.ClosedFromState.{closed_nearly}
use Rattle.closing.specs.BitsOfWords.Spots.{widths, Bounded, clean_words, below_power}
use Rattle.sweeping.specs.PartPlaces.{
  PartSeat,
  seat_in,
  place_whole,
  catenation_left,
  catenation_right,
  union_left,
  union_right,
  star_inside,
}
use Rattle.sweeping.specs.Visiting.{part_at, sweep_holds}
use Rattle.sweeping.specs.Settling.{
  EachChild,
  each_append,
  each_map,
  closed_of_children,
  JoinedChild,
  settled_words,
}

module _ (x : Nested Leaf) (c : ChildPiece) (n : ℕ) (seat : PartSeat x (below c.tree) c.stand n)
    (from : c.from ≡ suc n)
  where
    -- the widths of the child piece and of those below it, among the parent's
    seat_widths : (o : ℕ) → o < 1 + run c.tree → get_or (widths x) (n + o) 0
        ≡ get_or (width c.tree ∷ widths c.tree) o 0
    seat_widths o l = seat.same_widths o l

    -- a child's run has no bit past a last state, where the parent's has none
    pub part_clean : (words : List ℕ) → Clean x words → Clean c.tree (child_run c words)
    part_clean words clean = (clean_words c.tree (child_run c words)).1 (λ o l.
        below_power (part_at c words o l ∙ ap (λ (k : ℕ). get_or words k 0) (omega arith)) (sym (seat_widths o l))
        ((clean_words x words).0 clean (suc (n + o)) (omega (arith, seat.long))))

    -- a visit sets no bit past a last state
    pub visited_clean : (before after : List ℕ) → Visited x c before after → Clean x before → Clean x after
    visited_clean before after visited clean = (clean_words x after).1 each
      where
        elsewhere : (o : ℕ) → o < run x → (o < n) ⊎ (n + (1 + run c.tree) ≤ o)
            → get_or after (suc o) 0 < 2 ^ get_or (widths x) o 0
        elsewhere o l out =
            below_power (visited.others (suc o) (omega arith)
            (⊎_elim (λ h. inl (omega arith)) (λ h. inr (omega arith)) out)) refl
            ((clean_words x before).0 clean (suc o) (omega arith))

        within : (o : ℕ) → o < 1 + run c.tree → get_or after (suc (n + o)) 0 < 2 ^ get_or (widths x) (n + o) 0
        within o l =
            below_power (ap (λ (k : ℕ). get_or after k 0) (omega arith) ∙ sym (part_at c after o l)) (seat_widths o l)
            ((clean_words c.tree (child_run c after)).0 visited.swept.clean o l)

        each : Bounded (1 + run x) after (width x ∷ widths x)
        each zero l = visited.closed.clean
        each (suc o) l = elim (dec_lt o n) [
          | yes h ↦ elsewhere o (omega arith) (inl h)
          | no h ↦ elim (dec_lt o (n + (1 + run c.tree))) [
            | yes g ↦ subst (λ (k : ℕ). get_or after (suc k) 0 < 2 ^ get_or (widths x) k 0) (omega arith)
                (within (o - n) (omega arith))
            | no g ↦ elsewhere o (omega arith) (inr (omega arith))
          ]
        ]

-- a run is the same in words that are as many, and the same there
part_same : (c : ChildPiece) (before after : List ℕ) → length after ≡ length before
    → ((o : ℕ) → o < 1 + run c.tree → get_or after (c.from + o) 0 ≡ get_or before (c.from + o) 0)
    → child_run c after ≡ child_run c before
part_same c before after long same = ext_get_or 0 (child_run c after) (child_run c before) as_many each
  where
    as_many : length (child_run c after) ≡ length (child_run c before)
    as_many =
        length-take (1 + run c.tree) (drop c.from after)
        ∙ ap (min (1 + run c.tree)) (length-drop c.from after ∙ ap (λ (n : ℕ). n - c.from) long
        ∙ sym (length-drop c.from before))
        ∙ sym (length-take (1 + run c.tree) (drop c.from before))

    each : (o : ℕ) → o < length (child_run c after) → get_or (child_run c after) o 0 ≡ get_or (child_run c before) o 0
    each o l =
        let inside : o < 1 + run c.tree = omega (arith, length-take (1 + run c.tree) (drop c.from after)) in
        part_at c after o inside ∙ same o inside ∙ sym (part_at c before o inside)

-- a child piece that was gone through, as it stands in the words now: its start is marked, or waits for a mark of its
-- stand-in's; its accepting state was passed up; each piece of its run is closed in itself, and the run is settled
-- where all are said to be
pub record Gone (words : List ℕ) (waiting : ℕ) (settled : Bool) (at : ℕ) (c : ChildPiece) : Type 0 where
  pub behind : c.from + (1 + run c.tree) ≤ at
  pub after_own : 0 < c.from
  pub started : Bit (get_or words c.from 0) 0 ⊎ Bit waiting c.stand
  pub raised : Bit (get_or words c.from 0) (width c.tree - 1) → Bit (get_or words 0 0) (c.stand + 1)
  pub closed : EachClosed c.tree (child_run c words)
  pub at_rest : settled ≡ true → Settled byteless c.tree (Holds c.tree (child_run c words))

-- what one more child piece gone through adds: starts that wait still do, the own word loses no mark, and what was
-- behind is as before
pub record Further (before after : List ℕ) (waiting waiting' : ℕ) (settled settled' : Bool) (at : ℕ) : Type 0 where
  pub wait : (i : ℕ) → Bit waiting i → Bit waiting' i
  pub rest : settled' ≡ true → settled ≡ true
  pub own_kept : (i : ℕ) → Bit (get_or before 0 0) i → Bit (get_or after 0 0) i
  pub as_long : length after ≡ length before
  pub behind_kept : (o : ℕ) → 0 < o → o < at → get_or after o 0 ≡ get_or before o 0

gone_further : {before after : List ℕ} {waiting waiting' : ℕ} {settled settled' : Bool} {at at' : ℕ}
    → Further before after waiting waiting' settled settled' at → at ≤ at'
    → (c : ChildPiece) → Gone before waiting settled at c → Gone after waiting' settled' at' c
gone_further {before} {after} {settled' = settled'} {at = at} further on c gone = record {
  behind = omega (arith, gone.behind);
  after_own = gone.after_own;
  started = ⊎_elim (λ b. inl (subst (λ (w : ℕ). Bit w 0) (sym first) b)) (λ b. inr (further.wait c.stand b))
      gone.started;
  raised = λ b. further.own_kept (c.stand + 1)
      (gone.raised (subst (λ (w : ℕ). Bit w (width c.tree - 1)) first b));
  closed = subst (EachClosed c.tree) (sym run_same) gone.closed;
  at_rest = λ e. subst (λ (l : List ℕ). Settled byteless c.tree (Holds c.tree l)) (sym run_same)
      (gone.at_rest (further.rest e));
}
  where
    first : get_or after c.from 0 ≡ get_or before c.from 0
    first = further.behind_kept c.from gone.after_own (omega (arith, gone.behind))

    run_same : child_run c after ≡ child_run c before
    run_same = part_same c before after further.as_long
        (λ o l. further.behind_kept (c.from + o) (omega (arith, gone.after_own)) (omega (arith, gone.behind)))

module _ (rows : List ℕ) where
  -- the child piece c of x, whose top piece is piece 0 of the table, is where its numbers say, and its run is
  -- closed piece by piece
  pub record ChildStands (begun : List ℕ) (x : Nested Leaf) (c : ChildPiece) : Type 0 where
    pub place : ℕ
    pub placed : c.from ≡ suc place
    pub seat : PartSeat x (below c.tree) c.stand place
    pub stood : stand_of rows c.from ≡ c.stand
    pub laid : InRows rows c.tree c.from
    pub closed : EachClosed c.tree (child_run c begun)

  -- the child pieces stand one after the other, the first at `at`, and the last ends at `end`
  abbrev pub LinedUp : List ℕ → Nested Leaf → List ChildPiece → ℕ → ℕ → Type 0
  LinedUp begun x [] at end = at ≡ end
  LinedUp begun x (c ∷ cs) at end = (c.from ≡ at) × ChildStands begun x c
      × LinedUp begun x cs (at + (1 + run c.tree)) end

  chain_append : (begun : List ℕ) (x : Nested Leaf) (cs ds : List ChildPiece) (at between end : ℕ)
      → LinedUp begun x cs at between → LinedUp begun x ds between end → LinedUp begun x (cs ++ ds) at end
  chain_append begun x [] ds at between end first second =
      subst (λ (a : ℕ). LinedUp begun x ds a end) (sym first) second
  chain_append begun x (c ∷ cs) ds at between end (here, standing, rest) second =
      (here, standing, chain_append begun x cs ds (at + (1 + run c.tree)) between end rest second)

  chain_length : (begun : List ℕ) (x : Nested Leaf) (cs : List ChildPiece) (at end : ℕ)
      → LinedUp begun x cs at end
      → at ≤ end
  chain_length begun x [] at end e = omega arith
  chain_length begun x (c ∷ cs) at end (here, standing, rest) =
      omega (arith, chain_length begun x cs (at + (1 + run c.tree)) end rest)

  -- the child pieces below a part of the piece
  chain_of : (begun : List ℕ) (whole x : Nested Leaf) (i n f end : ℕ) → PartSeat whole x i n → f ≡ suc n
      → end ≡ f + run x → ChildrenAt rows x i f → NarrowBelow x → EachClosedBelow x (drop f begun)
      → LinedUp begun whole (children_of x i f) f end
  chain_of begun whole (leaf a) i n f end seat from ends at narrow closed = omega arith
  chain_of begun whole (catenation x y) i n f end seat from ends at narrow closed =
      chain_append begun whole (children_of x (i + 1) f) (children_of y (i + (1 + width x)) (f + run x)) f (f + run x)
      end
      (chain_of begun whole x (i + 1) n f (f + run x)
      (seat_in (i + 1) n refl (omega arith) seat (catenation_left x y).seat) from refl at.0 narrow.0
      closed.0)
      (chain_of begun whole y (i + (1 + width x)) (n + run x) (f + run x) end
      (seat_in (i + (1 + width x)) (n + run x) refl refl seat (catenation_right x y).seat) (omega arith)
      (omega arith) at.1 narrow.1 (subst (EachClosedBelow y) (drop-drop (run x) f begun) closed.1))
  chain_of begun whole (union x y) i n f end seat from ends at narrow closed =
      chain_append begun whole (children_of x (i + 1) f) (children_of y (i + (1 + width x)) (f + run x)) f (f + run x)
      end
      (chain_of begun whole x (i + 1) n f (f + run x)
      (seat_in (i + 1) n refl (omega arith) seat (union_left x y).seat) from refl at.0 narrow.0 closed.0)
      (chain_of begun whole y (i + (1 + width x)) (n + run x) (f + run x) end
      (seat_in (i + (1 + width x)) (n + run x) refl refl seat (union_right x y).seat) (omega arith) (omega arith)
      at.1 narrow.1 (subst (EachClosedBelow y) (drop-drop (run x) f begun) closed.1))
  chain_of begun whole (star x) i n f end seat from ends at narrow closed =
      chain_of begun whole x (i + 1) n f end (seat_in (i + 1) n refl (omega arith) seat (star_inside x).seat) from
      ends at narrow closed
  chain_of begun whole (below x) i n f end seat from ends at narrow closed = (refl, standing, omega arith)
    where
      standing : ChildStands begun whole (record { stand = i; from = f; tree = x })
      standing = record {
        place = n;
        placed = from;
        seat = seat;
        stood = at.0;
        laid = record { piece = at.1; children = at.2; narrow = narrow.0; narrow_below = narrow.1 };
        closed = closed_same x (drop f begun) (child_run (record { stand = i; from = f; tree = x }) begun)
            (λ o l. get_or-drop f begun o 0 ∙ sym (part_at (record { stand = i; from = f; tree = x }) begun o l)) closed;
      }

  -- the child piece c of x can be visited: its run stands at `at` in the words, the run of x's top piece, which is the
  -- piece 0 of the table
  pub record Visitable (x : Nested Leaf) (c : ChildPiece) (at : ℕ) (words : List ℕ) : Type 0 where
    pub here : c.from ≡ at
    pub after_own : 0 < at
    pub stood : stand_of rows at ≡ c.stand
    pub inside : c.stand + 1 < width x
    pub laid : InRows rows c.tree at
    pub room : at + (1 + run c.tree) ≤ length words
    pub lays : Lays rows x 0
    pub narrow : width x ≤ most_states
    pub own_clean : get_or words 0 0 < 2 ^ width x
    pub own_closed : Closes x (get_or words 0 0) (get_or words 0 0)
    pub child_clean : Clean c.tree (child_run c words)
    pub child_closed : EachClosed c.tree (child_run c words)

  module _ (x : Nested Leaf) where
    -- a sweep under way: the child pieces that are left stand from `at` on as at the beginning, and their visits are
    -- the last of the sweep's; the others were gone through
    pub record UnderWay (begun words : List ℕ) (at waiting : ℕ) (settled : Bool) : Type 0 where
      pub rest : List ChildPiece
      pub chain : LinedUp begun x rest at (length words)
      pub clean : Clean x words
      pub own_closed : Closes x (get_or words 0 0) (get_or words 0 0)
      pub ahead : (o : ℕ) → at ≤ o → get_or words o 0 ≡ get_or begun o 0
      pub so_far : (after : List ℕ) → Visits x rest words after → Visits x (children_of x 0 1) begun after
      pub behind : List ChildPiece
      pub all : children_of x 0 1 ≡ behind ++ rest
      pub gone : EachChild (Gone words waiting settled at) behind

    -- a child piece waits for its visit, after which the sweep is under way again
    pub record ChildWaiting (begun words : List ℕ) (at waiting : ℕ) (settled : Bool) : Type 0 where
      pub child : ChildPiece
      pub visitable : Visitable x child at words
      pub goes_on : (after : List ℕ) (waiting' : ℕ) (settled' : Bool) → Visited x child words after
          → Further words after waiting waiting' settled settled' at
          → Gone after waiting' settled' (at + (1 + run child.tree)) child
          → UnderWay begun after (at + (1 + run child.tree)) waiting' settled'

    module _ (begun : List ℕ) (sweepable : Sweepable rows x begun)
        (own_closed : Closes x (get_or begun 0 0) (get_or begun 0 0)) (settled : Bool) where
      -- where a sweep begins
      pub under_way : UnderWay begun begun 1 0 settled
      under_way = record {
        rest = children_of x 0 1;
        chain = chain_of begun x x 0 0 1 (length begun) (place_whole x).seat refl sweepable.whole_run
            sweepable.laid.children sweepable.laid.narrow_below sweepable.closed_below;
        clean = sweepable.clean;
        own_closed = own_closed;
        ahead = λ o l. refl;
        so_far = λ after v. v;
        behind = [];
        all = refl;
        gone = tt;
      }

    module _ (begun : List ℕ) (sweepable : Sweepable rows x begun) where
      module _ (words : List ℕ) (at waiting : ℕ) (settled : Bool) (same : length words ≡ length begun) where
        waiting_of : (rest : List ChildPiece) → LinedUp begun x rest at (length words)
            → (way : UnderWay begun words at waiting settled)
            → ((after : List ℕ) → Visits x rest words after → Visits x (children_of x 0 1) begun after)
            → children_of x 0 1 ≡ way.behind ++ rest
            → at < length words → ChildWaiting begun words at waiting settled
        waiting_of [] chain way so_far all l = absurd (omega arith)
        waiting_of (c ∷ cs) (here, standing, rest) way so_far all l = record {
          child = c;
          visitable = record {
            here = here;
            after_own = omega (arith, standing.placed);
            stood = subst (λ (a : ℕ). stand_of rows a ≡ c.stand) here standing.stood;
            inside = omega (arith, standing.seat.wide);
            laid = subst (InRows rows c.tree) here standing.laid;
            room = chain_length begun x cs (at + (1 + run c.tree)) (length words) rest;
            lays = lays sweepable.laid.piece;
            narrow = sweepable.laid.narrow;
            own_clean = way.clean.0;
            own_closed = way.own_closed;
            child_clean = part_clean x c standing.place standing.seat standing.placed words way.clean;
            child_closed = closed_same c.tree (child_run c begun) (child_run c words)
                (λ o h. part_at c begun o h ∙ sym (way.ahead (c.from + o) (omega (arith, here)))
                ∙ sym (part_at c words o h)) standing.closed;
          };
          goes_on = λ after waiting' settled' visited further gone. record {
            rest = cs;
            chain = subst (LinedUp begun x cs (at + (1 + run c.tree))) (sym visited.same_length) rest;
            clean = visited_clean x c standing.place standing.seat standing.placed words after visited
                way.clean;
            own_closed = closes_again visited.closed;
            ahead = λ o h. visited.others o (omega (arith, standing.placed, here)) (inr (omega (arith, here)))
                ∙ way.ahead o (omega arith);
            so_far = λ end v. so_far end (after, visited, v);
            behind = way.behind ++ (c ∷ []);
            all = all ∙ sym (append_snoc way.behind c cs);
            gone = (each_append (Gone after waiting' settled' (at + (1 + run c.tree))) way.behind (c ∷ [])).1
                (each_map way.behind (gone_further further (omega arith)) way.gone, (gone, tt));
          };
        }

        -- before the end a child piece waits
        pub waiting_child : (way : UnderWay begun words at waiting settled) → at < length words
            → ChildWaiting begun words at waiting settled
        waiting_child way l = waiting_of way.rest way.chain way way.so_far way.all l

      module _ (words : List ℕ) (at waiting : ℕ) (settled : Bool) (way : UnderWay begun words at waiting settled)
          (past : length words ≤ at) where
        none_left : (rest : List ChildPiece) → LinedUp begun x rest at (length words) → rest ≡ []
        none_left [] chain = refl
        none_left (c ∷ cs) (here, standing, rest) =
            absurd (omega (arith, chain_length begun x cs (at + (1 + run c.tree)) (length words) rest))

        nothing_left : way.rest ≡ []
        nothing_left = none_left way.rest way.chain

        -- at the end every child piece was visited
        pub all_visited : Visits x (children_of x 0 1) begun words
        all_visited =
            way.so_far words (subst (λ (rest : List ChildPiece). Visits x rest words words) (sym nothing_left) refl)

        all_gone : EachChild (Gone words waiting settled at) (children_of x 0 1)
        all_gone = subst (EachChild (Gone words waiting settled at))
            (sym (way.all ∙ ap (λ (rest : List ChildPiece). way.behind ++ rest) nothing_left
            ∙ append-nil way.behind))
            way.gone

        -- each piece is closed in itself
        pub all_closed : EachClosed x words
        all_closed = (
          way.own_closed,
          closed_of_children x 0 1 words (each_map (children_of x 0 1) (λ c gone. gone.closed) all_gone),
        )

        -- and where no start waits that is marked now, the words are settled
        pub all_settled : settled ≡ true → Apart (get_or words 0 0) waiting → Settled byteless x (Holds x words)
        all_settled e apart = settled_words x words way.own_closed (each_map (children_of x 0 1) joined all_gone)
          where
            joined : (c : ChildPiece) → Gone words waiting settled at c → JoinedChild words c
            joined c gone = record {
              down = λ b. ⊎_elim (λ m. m) (λ m. absurd (apart c.stand b m)) gone.started;
              up = gone.raised;
              settled = gone.at_rest e;
            }

    module _ (before : List ℕ) (closed : ℕ) (sweepable : Sweepable rows x before)
        (closes : Closes x (get_or before 0 0) closed) where
      own_is : get_or (set before 0 closed) 0 0 ≡ closed
      own_is = get_or-set_same before 0 closed 0 (omega (arith, sweepable.whole_run))

      pub begun_closed : Closes x (get_or (set before 0 closed) 0 0) (get_or (set before 0 closed) 0 0)
      begun_closed = subst (λ (w : ℕ). Closes x w w) (sym own_is) (closes_again closes)

      -- with the own word closed, the words are still a run to be swept
      pub closed_sweepable : Sweepable rows x (set before 0 closed)
      closed_sweepable = record {
        laid = sweepable.laid;
        whole_run = length-set before 0 closed ∙ sweepable.whole_run;
        clean = (clean_words x (set before 0 closed)).1 each;
        nearly = closed_nearly begun_closed;
        closed_below = subst (EachClosedBelow x) (sym (drop-set-lt 1 before 0 closed (omega arith)))
            sweepable.closed_below;
      }
        where
          each : Bounded (1 + run x) (set before 0 closed) (width x ∷ widths x)
          each zero l = below_power own_is refl closes.clean
          each (suc o) l = below_power (get_or-set_other before 0 (suc o) closed 0 (λ e. omega arith)) refl
              ((clean_words x before).0 sweepable.clean (suc o) l)

      -- the words at the end of a sweep
      pub swept : (words : List ℕ) (at waiting : ℕ) (settled : Bool)
          → UnderWay (set before 0 closed) words at waiting settled → length words ≤ at → Swept x before words
      swept words at waiting settled way l = record {
        marks = sweep_holds x before (set before 0 closed) words
            (subst (Closes x (get_or before 0 0)) (sym own_is) closes)
            (λ o. sym (get_or-set_other before 0 (suc o) closed 0 (λ e. omega arith)))
            (omega (arith, length-set before 0 closed, sweepable.whole_run))
            (all_visited (set before 0 closed) closed_sweepable words at waiting settled way l);
        clean = way.clean;
        each_closed = all_closed (set before 0 closed) closed_sweepable words at waiting settled way l;
      }
