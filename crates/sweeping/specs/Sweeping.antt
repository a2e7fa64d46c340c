-- What the steps of a sweep and of a visit make of the words, step by step: so that each need of their proofs is one
-- citation.
use Rattle.std.specs.Prelude.{ℕ, zero, suc, ◌+◌, ◌*◌, ◌-◌, ◌^◌, ◌≤◌, ◌<◌, Bool, true, ◌&&◌, ◌≡◌, refl, ◌⊎◌, List, ◌∷◌, ◌++◌, length, get_or, take, drop, set}
use Rattle.std.proofs.Common.{arith, sym, ap, ◌∙◌, subst, inl, inr, ⊎_elim, length-set, length-drop, length-append, get_or-take, get_or-drop, get_or-set_same, get_or-set_other, length-take-le, take_at, drop_at, drop-set-lt, get_or-append-add}
use Rattle.std.proofs.Math.ListN.{get_or-append}
use Rattle.language.specs.Automaton.{start}
use Rattle.language.specs.Nested.{Nested}
use Rattle.language.specs.Settled.{Settled}
use Rattle.tree.specs.Limits.{most_pieces}
use Rattle.tree.specs.Leaf.{Leaf, byteless}
use Rattle.tables.specs.Words.{word_bits, Bit, width, run, Holds, Clean}
use Rattle.tables.specs.Plan.{row_words, run_of, stand_of, top_of, Closes}
use Rattle.closing.specs.BitsOfWords.Numbers.{width_two}
use Rattle.closing.specs.Passes.Laid.{lays}
use Rattle.closing.specs.Passes.Closing.{ClosesAfter}
use Rattle.sweeping.specs.Passing.{bit_passed, passed_below}
use Rattle.sweeping.specs.Swept.{
  passed,
  NearlyClosed,
  Missed,
  Apart,
  AtRest,
  Quiet,
  Sweepable,
  TableSized,
  SweepReady,
  Swept,
  ChildPiece,
  child_run,
  started,
  Visited,
}
use Rattle.closing.specs.BitsOfWords.Spots.{widths, Bounded, clean_words, below_power}
use Rattle.sweeping.specs.Visiting.{part_at, started_own, started_below}
use Rattle.sweeping.specs.ClosedFromState.{ClosesFrom, passed_nearly, closes_keeps}
use Rattle.closing.specs.EachPieceClosed.{closed_below_same}
use Rattle.sweeping.specs.RunOfChildren.{
  Visitable,
  UnderWay,
  ChildWaiting,
  under_way,
  waiting_child,
  closed_sweepable,
  begun_closed,
  swept,
  all_settled,
}
use Rattle.closing.specs.BitsOfWords.Bits.{Tells, bit_zero}
use Rattle.closing.specs.BitsOfWords.Zero.{AllZero}
use Rattle.sweeping.specs.Idle.{Ended, finished}
use Rattle.sweeping.specs.RowsFrom.{rows_from, rows_length, in_rows_from}
use Rattle.sweeping.specs.Zeros.{told_both, told_same, zero_within, zeros_joined, zeros_over}
use Rattle.sweeping.specs.GoneThrough.{further, gone, visited_at_rest, settled_at_rest}

-- the words with ys in the place of m words from a on
abbrev put : ℕ → ℕ → List ℕ → List ℕ → List ℕ
put a m words ys = take a words ++ (ys ++ drop m (drop a words))

module _ (a m : ℕ) (words ys : List ℕ) (lent : length ys ≡ m) (room : a + m ≤ length words) where
  put_before : (o : ℕ) → o < a → get_or (put a m words ys) o 0 ≡ get_or words o 0
  put_before o l =
      get_or-append (take a words) (ys ++ drop m (drop a words)) 0 o
      (omega (arith, length-take-le a words (omega arith))) ∙ get_or-take a words o 0 l

  drop_put : drop a (put a m words ys) ≡ ys ++ drop m (drop a words)
  drop_put = drop_at (take a words) (ys ++ drop m (drop a words)) a (length-take-le a words (omega arith))

  put_part : take m (drop a (put a m words ys)) ≡ ys
  put_part = ap (take m) drop_put ∙ take_at ys (drop m (drop a words)) m lent

  put_length : length (put a m words ys) ≡ length words
  put_length =
      omega (
        arith,
        length-append (take a words) (ys ++ drop m (drop a words)),
        length-append ys (drop m (drop a words)),
        length-take-le a words (omega arith),
        length-drop m (drop a words),
        length-drop a words,
      )

  put_after : (o : ℕ) → a + m ≤ o → get_or (put a m words ys) o 0 ≡ get_or words o 0
  put_after o l =
      ap (λ (k : ℕ). get_or (put a m words ys) k 0) (omega arith)
      ∙ sym (get_or-drop a (put a m words ys) (m + (o - a - m)) 0)
      ∙ ap (λ (w : List ℕ). get_or w (m + (o - a - m)) 0) drop_put
      ∙ ap (λ (k : ℕ). get_or (ys ++ drop m (drop a words)) (k + (o - a - m)) 0) (sym lent)
      ∙ get_or-append-add ys (drop m (drop a words)) (o - a - m) 0 ∙ get_or-drop m (drop a words) (o - a - m) 0
      ∙ get_or-drop a words (m + (o - a - m)) 0
      ∙ ap (λ (k : ℕ). get_or words k 0) (omega arith)

-- the numbers of the child piece whose run begins at `at`, as they were read: those of bits and of words
pub record ChildRead (at : ℕ) (words : List ℕ) (stand ran : ℕ) : Type 0 where
  pub counted : 0 < ran
  pub within : at + ran ≤ length words
  pub stand_small : stand + 1 < word_bits

module _ (rows : List ℕ) (at : ℕ) (words : List ℕ) (stand ran : ℕ) (stand-is : stand ≡ stand_of rows at)
    (ran-is : ran ≡ run_of rows at) where
  -- where the next run begins
  abbrev next_run : ℕ
  next_run = at + ran

  module _ (x : Nested Leaf) (c : ChildPiece) (can : Visitable rows x c at words)
      (given : ℕ) (given_is : given ≡ passed (get_or words 0 0) stand (get_or words at 0) 0) where
    run_length : next_run - at ≡ 1 + run c.tree
    run_length = omega (arith, ran-is, can.laid.piece.ran)

    -- what is lent to the child's sweep
    pub lent_is : take (next_run - at) (drop at (set words at given)) ≡ started c words
    lent_is =
        ap (λ (m : ℕ). take m (drop at (set words at given))) run_length
        ∙ ap (λ (v : ℕ). take (1 + run c.tree) (drop at (set words at v)))
        (given_is ∙ ap (λ (s : ℕ). passed (get_or words 0 0) s (get_or words at 0) 0) (stand-is ∙ can.stood))
        ∙ ap (λ (a : ℕ).
        take (1 + run c.tree) (drop a (set words a (passed (get_or words 0 0) c.stand (get_or words a 0) 0))))
        (sym can.here)

    within : c.from + (1 + run c.tree) ≤ length words
    within = omega (arith, can.here, can.room)

    started_length : length (started c words) ≡ 1 + run c.tree
    started_length =
        length-take-le (1 + run c.tree) (drop c.from changed)
        (omega (arith, length-drop c.from changed, length-set words c.from value, within))
      where
        value : ℕ
        value = passed (get_or words 0 0) c.stand (get_or words c.from 0) 0

        changed : List ℕ
        changed = set words c.from value

    started_clean : Clean c.tree (started c words)
    started_clean = (clean_words c.tree (started c words)).1 each
      where
        each : Bounded (1 + run c.tree) (started c words) (width c.tree ∷ widths c.tree)
        each zero l =
            below_power (started_own c words (omega (arith, within))) refl
            (passed_below (get_or words 0 0) c.stand (get_or (child_run c words) 0 0) 0 (width c.tree)
            can.child_clean.0 (omega (arith, width_two c.tree)))
        each (suc o) l =
            below_power (started_below c words o l) refl
            ((clean_words c.tree (child_run c words)).0 can.child_clean (suc o) l)

    started_later : (o : ℕ) → 0 < o → o < 1 + run c.tree → get_or (started c words) o 0 ≡ get_or (child_run c words) o 0
    started_later zero l h = absurd (omega arith)
    started_later (suc o) l h = started_below c words o h

    -- the child's run can be swept
    pub lent_sweepable : Sweepable (rows_from rows at) c.tree
        (take (next_run - at) (drop at (set words at given)))
    lent_sweepable = subst (Sweepable (rows_from rows at) c.tree) (sym lent_is) (record {
      laid = in_rows_from rows at c.tree can.laid;
      whole_run = started_length;
      clean = started_clean;
      nearly = subst (NearlyClosed c.tree start) (sym (started_own c words (omega (arith, within))))
          (passed_nearly (get_or words 0 0) c.stand tt can.child_closed.0);
      closed_below = closed_below_same c.tree (drop 1 (child_run c words)) (drop 1 (started c words))
          (λ o l. get_or-drop 1 (child_run c words) o 0 ∙ sym (started_later (1 + o) (omega arith) (omega arith))
          ∙ sym (get_or-drop 1 (started c words) o 0)) can.child_closed.1;
    })

    pub lent_length : length (take (next_run - at) (drop at (set words at given))) ≡ 1 + run c.tree
    lent_length = lent_sweepable.whole_run

    -- which is shorter
    pub lent_shorter : length (take (next_run - at) (drop at (set words at given))) < length words
    lent_shorter = omega (arith, lent_length, can.room, can.after_own)

    pub lent_ready : (from to from' to' : ℕ) → from' ≡ from - at → to' ≡ to - at → TableSized rows words
        → ((o : ℕ) → at ≤ o → o < length words → (o < from) ⊎ (to ≤ o) → get_or words o 0 ≡ 0)
        → SweepReady (rows_from rows at) from' to'
        (take (next_run - at) (drop at (set words at given)))
    lent_ready from to from' to' from_is to_is sized ahead = record {
      sized = record {
        rows_sized = omega (arith, sized.rows_sized, lent_length, can.room, rows_length rows at);
        within = omega (arith, sized.within, lent_length, can.room);
      };
      tree = c.tree;
      sweepable = lent_sweepable;
      quiet = λ o l h out. ap (λ (ws : List ℕ). get_or ws o 0) lent_is ∙ started_later o l (omega (arith, lent_length))
          ∙ part_at c words o (omega (arith, lent_length)) ∙ ap (λ (a : ℕ). get_or words (a + o) 0) can.here
          ∙ ahead (at + o) (omega arith) (omega (arith, lent_length, can.room))
          (⊎_elim (λ g. inl (omega (arith, from_is))) (λ g. inr (omega (arith, to_is))) out);
    }

    -- the words after the child's sweep, after the own word is closed, and what was closed
    module _ (ys : List ℕ) (same : length ys ≡ length (take (next_run - at) (drop at (set words at given))))
        (swept : Swept c.tree (take (next_run - at) (drop at (set words at given))) ys)
        (top raised closed : ℕ) (top-is : top ≡ top_of rows at) where
      abbrev back : List ℕ
      back = put at (next_run - at) (set words at given) ys

      room : at + (next_run - at) ≤ length (set words at given)
      room = omega (arith, run_length, can.room, length-set words at given)

      lent : length ys ≡ next_run - at
      lent = same ∙ lent_length ∙ sym run_length

      back_length : length back ≡ length words
      back_length = put_length at (next_run - at) (set words at given) ys lent room ∙ length-set words at given

      back_own : get_or back 0 0 ≡ get_or words 0 0
      back_own = put_before at (next_run - at) (set words at given) ys lent room 0 can.after_own
          ∙ get_or-set_other words at 0 given 0 (λ e. omega (arith, can.after_own))

      back_others : (o : ℕ) → (o < c.from) ⊎ (c.from + (1 + run c.tree) ≤ o) → get_or back o 0 ≡ get_or words o 0
      back_others o = ⊎_elim
          (λ l. put_before at (next_run - at) (set words at given) ys lent room o (omega (arith, can.here))
          ∙ get_or-set_other words at o given 0 (λ e. omega (arith, can.here)))
          (λ l. put_after at (next_run - at) (set words at given) ys lent room o (omega (arith, can.here, run_length))
          ∙ get_or-set_other words at o given 0 (λ e. omega (arith, can.here)))

      -- what is closed has no bit past the last state
      module _ (raised_is : raised ≡ passed (get_or back at 0) top (get_or back 0 0) (stand + 1))
          (closes : ClosesAfter rows 0 raised (get_or back 0 0) closed) where
        raised_same : raised ≡ passed (get_or back at 0) (width c.tree - 1) (get_or words 0 0) (c.stand + 1)
        raised_same =
            raised_is ∙ ap (λ (i : ℕ). passed (get_or back at 0) i (get_or back 0 0) (stand + 1))
            (top-is ∙ can.laid.piece.topped)
            ∙ ap (λ (w : ℕ). passed (get_or back at 0) (width c.tree - 1) w (stand + 1)) back_own
            ∙ ap (λ (s : ℕ). passed (get_or back at 0) (width c.tree - 1) (get_or words 0 0) (s + 1))
            (stand-is ∙ can.stood)

        after_at : (o : ℕ) → 0 < o → get_or (set back 0 closed) o 0 ≡ get_or back o 0
        after_at o l = get_or-set_other back 0 o closed 0 (λ e. omega arith)

        raised_small : raised < 2 ^ width x
        raised_small =
            subst (λ (v : ℕ). v < 2 ^ width x) (sym raised_same)
            (passed_below (get_or back at 0) (width c.tree - 1) (get_or words 0 0) (c.stand + 1) (width x)
            can.own_clean can.inside)

        own_closes : Closes x raised closed
        own_closes =
            closes.closes x can.narrow can.lays raised_small
            (subst (λ (v : ℕ). Closes x v v) (sym back_own) can.own_closed)
            (λ i b. subst (λ (v : ℕ). Bit v i) (sym raised_is)
            ((bit_passed (get_or back at 0) top (get_or back 0 0) (stand + 1) i).1 (inl b)))

        pub after_part : child_run c (set back 0 closed) ≡ ys
        after_part =
            ap (take (1 + run c.tree))
            (drop-set-lt c.from back 0 closed (omega (arith, can.here, can.after_own)))
            ∙ ap (λ (a : ℕ). take (1 + run c.tree) (drop a back)) can.here
            ∙ ap (λ (m : ℕ). take m (drop at back)) (sym run_length)
            ∙ put_part at (next_run - at) (set words at given) ys lent room

        closed_from : raised ≡ passed (get_or (set back 0 closed) c.from 0) (width c.tree - 1) (get_or words 0 0)
            (c.stand + 1)
        closed_from =
            raised_same ∙ ap (λ (w : ℕ). passed w (width c.tree - 1) (get_or words 0 0) (c.stand + 1))
            (ap (λ (a : ℕ). get_or back a 0) (sym can.here)
            ∙ sym (after_at c.from (omega (arith, can.here, can.after_own))))

        -- the child piece was visited
        pub visited : Visited x c words (set back 0 closed)
        visited = record {
          swept = subst (λ (before : List ℕ). Swept c.tree before (child_run c (set back 0 closed))) lent_is
              (subst (Swept c.tree (take (next_run - at) (drop at (set words at given)))) (sym after_part) swept);
          closed = subst (λ (w : ℕ). Closes x w (get_or (set back 0 closed) 0 0)) closed_from
              (subst (Closes x raised) (sym (get_or-set_same back 0 closed 0 (omega (arith, back_length, can.room))))
              own_closes);
          same_length = length-set back 0 closed ∙ back_length;
          others = λ o l out. after_at o l ∙ back_others o out;
        }

        -- no bit of the own word is lost
        own_kept : (i : ℕ) → Bit (get_or words 0 0) i → Bit closed i
        own_kept i b =
            closes_keeps own_closes raised_small i (subst (λ (v : ℕ). Bit v i) (sym raised_same)
            ((bit_passed (get_or back at 0) (width c.tree - 1) (get_or words 0 0) (c.stand + 1) i).1 (inl b)))

        -- a word of the child's run
        lent_word : (o : ℕ) → o < next_run - at → get_or (set back 0 closed) (at + o) 0 ≡ get_or ys o 0
        lent_word o l =
            ap (λ (a : ℕ). get_or (set back 0 closed) (a + o) 0) (sym can.here)
            ∙ sym (part_at c (set back 0 closed) o (omega (arith, run_length)))
            ∙ ap (λ (w : List ℕ). get_or w o 0) after_part

        -- whether the words are 0 up to the next run, by what is said of those before it, of the child and of the own
        pub zeros_on : {zeroed below own : Bool} → Tells (AllZero at words) zeroed
            → Tells (AllZero (length (take (next_run - at) (drop at (set words at given)))) ys) below
            → Tells (closed ≡ 0) own → Tells (AllZero next_run (set back 0 closed)) (zeroed && below && own)
        zeros_on {zeroed} {below} {own} before child whole =
            told_same
            (zeros_joined at next_run words ys (set back 0 closed) closed can.after_own (omega arith)
            (get_or-set_same back 0 closed 0 (omega (arith, back_length, can.room))) (zero_within _ closed own_kept)
            (λ o l h. visited.others o l (inl (omega (arith, can.here)))) lent_word)
            (told_both
            (told_both before
            (subst (λ (m : ℕ). Tells (AllZero m ys) below) (lent_length ∙ sym run_length) child)) whole)

-- there is room for the child piece whose run begins at `at`, in the rows and in the words
pub record SweepRoom (rows : List ℕ) (at : ℕ) (words : List ℕ) : Type 0 where
  pub own_before : 0 < at
  pub few_words : length words ≤ most_pieces
  pub own_room : row_words * 0 + row_words ≤ length rows
  pub child_room : row_words * at + row_words ≤ length rows
  pub top_small : top_of rows at < word_bits

module _ (rows : List ℕ) where
  -- a sweep is under way, whatever tree the rows speak of
  pub record Sweeping (begun words : List ℕ) (at waiting : ℕ) (settled : Bool) : Type 0 where
    pub same_length : length words ≡ length begun
    pub ahead : (o : ℕ) → at ≤ o → get_or words o 0 ≡ get_or begun o 0
    pub each : (x : Nested Leaf) → Sweepable rows x begun
        → Closes x (get_or begun 0 0) (get_or begun 0 0)
        → UnderWay rows x begun words at waiting settled

  -- where it begins
  pub sweeping_begins : (begun : List ℕ) (settled : Bool) → Sweeping begun begun 1 0 settled
  sweeping_begins begun settled = record {
    same_length = refl;
    ahead = λ o l. refl;
    each = λ x can closed. under_way rows x begun can closed settled;
  }

  -- ahead there are still only the marks that there were
  pub quiet_ahead : (entry words : List ℕ) (closed at waiting : ℕ) (settled : Bool)
      → Sweeping (set entry 0 closed) words at waiting settled → (from to : ℕ) → Quiet from to entry
      → 0 < at → (o : ℕ) → at ≤ o → o < length words → (o < from) ⊎ (to ≤ o) → get_or words o 0 ≡ 0
  quiet_ahead entry words closed at waiting settled sweeping from to quiet after_own o l h out =
      sweeping.ahead o l ∙ get_or-set_other entry 0 o closed 0 (λ e. omega arith)
      ∙ quiet o (omega arith) (omega (arith, sweeping.same_length, length-set entry 0 closed)) out

  module _ (begun words : List ℕ) (at waiting : ℕ) (settled : Bool)
      (sweeping : Sweeping begun words at waiting settled)
      (before-end : at < length words) where
    -- before the end a child piece waits for its visit
    pub waits : (x : Nested Leaf) → Sweepable rows x begun
        → Closes x (get_or begun 0 0) (get_or begun 0 0)
        → ChildWaiting rows x begun words at waiting settled
    waits x can closed = waiting_child rows x begun can words at waiting settled
        sweeping.same_length (sweeping.each x can closed) before-end

    -- what going through a child piece has to tell
    pub record Went (after : List ℕ) (settled' : Bool) (x : Nested Leaf) (c : ChildPiece) : Type 0 where
      pub visited : Visited x c words after
      pub rests : settled' ≡ true → Settled byteless c.tree (Holds c.tree (child_run c after))

    module _ (stand ran : ℕ) (stand-is : stand ≡ stand_of rows at) (ran-is : ran ≡ run_of rows at)
        (from to : ℕ) (rest : AtRest (get_or words 0 0) stand (get_or words at 0) at (at + ran) from to)
        (quiet : (o : ℕ) → at ≤ o → o < length words → (o < from) ⊎ (to ≤ o) → get_or words o 0 ≡ 0)
        (x : Nested Leaf) (c : ChildPiece) (can : Visitable rows x c at words) where
      -- no word of a child piece at rest has a mark
      rest_zeros : (o : ℕ) → o < 1 + run c.tree → get_or words (at + o) 0 ≡ 0
      rest_zeros o l = ⊎_elim
          (λ h. ap (λ (i : ℕ). get_or words i 0) (omega (arith, h.1, ran-is, can.laid.piece.ran)) ∙ h.0)
          (λ out. quiet (at + o) (omega arith) (omega (arith, can.room))
          (⊎_elim (λ h. inl (omega (arith, ran-is, can.laid.piece.ran))) (λ h. inr (omega arith)) out))
          rest.elsewhere

      rest_unmarked : Bit (get_or words 0 0) c.stand → ⊥
      rest_unmarked b = rest.unmarked (subst (Bit (get_or words 0 0)) (sym (stand-is ∙ can.stood)) b)

      -- it is passed over
      pub passed_over : Went words settled x c
      passed_over = record {
        visited = visited_at_rest can rest_unmarked rest_zeros;
        rests = λ _. settled_at_rest can rest_unmarked rest_zeros;
      }

      -- and it is known of the words up to the next run whether they are 0
      pub zeros_passed : {zeroed : Bool} → Tells (AllZero at words) zeroed → Tells (AllZero (at + ran) words) zeroed
      zeros_passed =
          told_same
          (zeros_over at (at + ran) words (omega arith)
          (λ o l h. ap (λ (i : ℕ). get_or words i 0) (omega arith)
          ∙ rest_zeros (o - at) (omega (arith, ran-is, can.laid.piece.ran))))

    -- after the visit the sweep is under way
    pub sweeping_on : (stand ran : ℕ) → stand ≡ stand_of rows at → ran ≡ run_of rows at
        → (after : List ℕ) (waiting' : ℕ) (settled' : Bool) → (tree : Nested Leaf)
        → Sweepable rows tree begun → Closes tree (get_or begun 0 0) (get_or begun 0 0)
        → Missed (get_or words 0 0) stand waiting waiting' → (settled' ≡ true → settled ≡ true)
        → ((x : Nested Leaf) (c : ChildPiece) → Visitable rows x c at words → Went after settled' x c)
        → Sweeping begun after (at + ran) waiting' settled'
    sweeping_on stand ran stand-is ran-is after waiting' settled' tree able shut missed rest went =
        let here = waits tree able shut in
        let seen = (went tree here.child here.visitable).visited in
        record {
          same_length = seen.same_length ∙ sweeping.same_length;
          ahead = λ o l. seen.others o (omega (arith, here.visitable.after_own))
              (inr (omega (arith, here.visitable.here, here.visitable.laid.piece.ran, ran-is)))
              ∙ sweeping.ahead o (omega arith);
          each = λ x can closed.
              let w = waits x can closed in
              let told = went x w.child w.visitable in
              let missed' = subst (λ (s : ℕ). Missed (get_or words 0 0) s waiting waiting')
              (stand-is ∙ w.visitable.stood) missed in
              subst (λ (r : ℕ). UnderWay rows x begun after (at + r) waiting' settled')
              (sym (ran-is ∙ w.visitable.laid.piece.ran))
              (w.goes_on after waiting' settled' told.visited
              (further w.visitable after told.visited waiting waiting' missed' settled settled' rest)
              (gone w.visitable after told.visited waiting waiting' missed' settled settled' told.rests));
        }

    -- there is room for the child piece, in the rows and in the words
    pub room_for : (x : Nested Leaf) → Sweepable rows x begun
        → Closes x (get_or begun 0 0) (get_or begun 0 0)
        → TableSized rows words → SweepRoom rows at words
    room_for x can closed sized = let w = waits x can closed in record {
      own_before = w.visitable.after_own;
      few_words = omega (arith, sized.within);
      own_room = omega (arith, sized.rows_sized, sized.within);
      child_room = omega (arith, sized.rows_sized, sized.within);
      top_small = omega (arith, w.visitable.laid.piece.topped, w.visitable.laid.narrow);
    }

    -- and its numbers are those of bits and words
    pub read_for : (x : Nested Leaf) → Sweepable rows x begun → Closes x (get_or begun 0 0) (get_or begun 0 0)
        → (stand ran : ℕ) → stand ≡ stand_of rows at → ran ≡ run_of rows at
        → ChildRead at words stand ran
    read_for x can closed stand ran stand-is ran-is = let w = waits x can closed in record {
      counted = omega (arith, ran-is, w.visitable.laid.piece.ran);
      within = omega (arith, ran-is, w.visitable.laid.piece.ran, w.visitable.room);
      stand_small = omega (arith, stand-is, w.visitable.stood, w.visitable.inside, w.visitable.narrow);
    }

  module _ (entry : List ℕ) (closed : ℕ) (closes : ClosesFrom rows 0 (get_or entry 0 0) 0 closed)
      (x : Nested Leaf) (can : Sweepable rows x entry) where
    own_closed : Closes x (get_or entry 0 0) closed
    own_closed =
        closes.closes x start can.laid.narrow (lays can.laid.piece) can.clean.0 tt refl can.nearly

    -- with the own word closed, the words are still a run to be swept
    pub begun_sweepable : Sweepable rows x (set entry 0 closed)
    begun_sweepable = closed_sweepable rows x entry closed can own_closed

    pub own_begun : Closes x (get_or (set entry 0 closed) 0 0) (get_or (set entry 0 closed) 0 0)
    own_begun = begun_closed rows x entry closed can own_closed

    -- at the end the words are swept
    module _ (words : List ℕ) (at waiting : ℕ) (settled : Bool)
        (sweeping : Sweeping (set entry 0 closed) words at waiting settled) (past : length words ≤ at) where
      pub sweep_done : Swept x entry words
      sweep_done = swept rows x entry closed can own_closed words at waiting settled
          (sweeping.each x begun_sweepable own_begun) past

      -- and settled, where no start waits that is marked now
      pub sweep_settled : settled ≡ true → Apart (get_or words 0 0) waiting → Settled byteless x (Holds x words)
      sweep_settled = all_settled rows x (set entry 0 closed) begun_sweepable words at waiting
          settled (sweeping.each x begun_sweepable own_begun) past

    -- the same where the sweep ends before, with nothing marked in the own word nor ahead
    module _ (words : List ℕ) (at waiting : ℕ) (settled : Bool)
        (sweeping : Sweeping (set entry 0 closed) words at waiting settled)
        (unmarked : get_or words 0 0 ≡ 0) (none : (o : ℕ) → at ≤ o → o < length words → get_or words o 0 ≡ 0) where
      ended : Ended rows x (set entry 0 closed) begun_sweepable words settled
          sweeping.same_length unmarked
      ended = finished rows x (set entry 0 closed) begun_sweepable words settled
          sweeping.same_length unmarked at waiting none
          (sweeping.each x begun_sweepable own_begun)

      pub idle_done : Swept x entry words
      idle_done = swept rows x entry closed can own_closed words ended.at ended.waiting
          settled ended.way ended.past

      pub idle_settled : settled ≡ true → Settled byteless x (Holds x words)
      idle_settled e = all_settled rows x (set entry 0 closed) begun_sweepable words
          ended.at
          ended.waiting settled ended.way ended.past e
          (λ i b. absurd (bit_zero i (subst (λ (w : ℕ). Bit w i) unmarked b)))

  -- there are rows for words as many as before
  pub sized_same : (before after : List ℕ) → length after ≡ length before → TableSized rows before
      → TableSized rows after
  sized_same before after same sized = record {
    rows_sized = omega (arith, sized.rows_sized, same);
    within = omega (arith, sized.within, same);
  }
