-- Closing a set of marks is two sweeps of the words that hold it: so the words hold the marks of the plain simulation.
use Rattle.std.specs.Prelude.{ℕ, suc, ◌+◌, ◌≤◌, ◌≡◌, refl, ◌↔◌, List, ◌++◌, length, get_or, take, drop}
use Rattle.std.proofs.Common.{arith, sym, ◌∙◌, subst, ⊎_elim, get_or-take, get_or-drop, length-take-le, take_at, drop_at}
use Rattle.std.proofs.Math.Logic.Iff
use Rattle.std.proofs.Math.Seq.{length_front}
use Rattle.language.specs.Automaton.{State, start}
use Rattle.language.specs.Nested.{Nested, Has, Sweep}
use Rattle.language.specs.Settled.{Settled}
use Rattle.language.specs.Same.{Agree}
use Rattle.language.proofs.Same.{sweep_same}
use Rattle.language.proofs.Unmoved.{settled_agree, sweep_settled}
use Rattle.tree.specs.Leaf.{Leaf, byteless}
use Rattle.tables.specs.Words.{width, run, Holds, Clean}
use Rattle.tables.specs.Plan.{Closes}
use Rattle.closing.specs.EachPieceClosed.{EachClosedBelow, closed_below_same, closed_same}
use Rattle.sweeping.specs.Swept.{NearlyClosed, Quiet, InRows, Sweepable, TableSized, SweepReady, Swept}
use Rattle.sweeping.specs.ClosedFromState.{closed_nearly}
use Rattle.sweeping.specs.Settling.{settled_alone}
use Rattle.sweeping.specs.Sweeping.{sized_same}
use Rattle.closing.specs.BitsOfWords.Spots.{
  Spot,
  own,
  under,
  spot,
  SetAt,
  holds_held,
  SpotWithin,
  spot_within,
  clean_words,
  below_power,
  bit_of,
}

-- the first words hold what the words hold, where there is one for each piece
front_held : (s : Spot) (k m n : ℕ) (words : List ℕ) → n ≡ 1 + m → SpotWithin k m s
    → SetAt s (take n words) ↔ SetAt s words
front_held (own b) k m n words e l = bit_of b (get_or-take n words 0 0 (omega arith))
front_held (under o b) k m n words e l = bit_of b (get_or-take n words (suc o) 0 (omega arith))

pub front_holds : (x : Nested Leaf) (n : ℕ) (words : List ℕ) → n ≡ 1 + run x
    → Agree x (Holds x (take n words)) (Holds x words)
front_holds x n words e q h =
    Iff.trans (holds_held x (take n words) q h)
    (Iff.trans (front_held (spot x q) (width x) (run x) n words e (spot_within x q h))
    (Iff.symm (holds_held x words q h)))

-- and have no bit past a last state exactly when the words have none
pub front_clean : (x : Nested Leaf) (n : ℕ) (words : List ℕ) → n ≡ 1 + run x → Clean x (take n words) ↔ Clean x words
front_clean x n words e = (
  λ clean. (clean_words x words).1
      (λ o l. below_power (sym (get_or-take n words o 0 (omega arith))) refl ((clean_words x (take n words)).0 clean o l)),
  λ clean. (clean_words x (take n words)).1
      (λ o l. below_power (get_or-take n words o 0 (omega arith)) refl ((clean_words x words).0 clean o l)),
)

-- what two sweeps make of the words of x's pieces: the marks that they hold then are those of two sweeps
pub record SweptTwice (x : Nested Leaf) (before after : List ℕ) : Type 0 where
  pub marks : (q : State) → Has x q → Holds x after q ↔ Sweep byteless x (Sweep byteless x (Holds x before)) q
  pub clean : Clean x after

-- where there are no child pieces, a word that is closed in its piece is closed: two sweeps would change nothing
pub swept_alone : (x : Nested Leaf) (words : List ℕ) → run x ≡ 0 → Clean x words
    → Closes x (get_or words 0 0) (get_or words 0 0) → SweptTwice x words words
swept_alone x words alone clean closed = record {
  marks = λ q h. Iff.trans (Iff.symm (unmoved q))
      (sweep_same byteless x (λ p k. Iff.symm (unmoved p)) q h);
  clean = clean;
}
  where
    unmoved : (q : State) → Sweep byteless x (Holds x words) q ↔ Holds x words q
    unmoved q = sweep_settled byteless x (Holds x words) (settled_alone x words alone closed) q

module _ (rows : List ℕ) (count : ℕ) where
  -- the first words, one for each piece, hold marks of the tree that the rows speak of; each piece is closed in
  -- itself, but for the root's start
  pub record RunOf (x : Nested Leaf) (words : List ℕ) : Type 0 where
    pub laid : InRows rows x 0
    pub counted : count ≡ 1 + run x
    pub clean : Clean x words
    pub nearly : NearlyClosed x start (get_or words 0 0)
    pub closed_below : EachClosedBelow x (drop 1 words)

  -- there are rows for each piece that there may be, the words are enough, and below the first of them there are
  -- marks only from `from` up to `to`
  pub record Closable (from to : ℕ) (words : List ℕ) : Type 0 where
    pub sized : TableSized rows (take count words)
    pub enough : count ≤ length words
    pub tree : Nested Leaf
    pub on_run : RunOf tree words
    pub quiet : Quiet from to (take count words)

  -- what two sweeps make of the words: those of the pieces are swept twice, the others are as before
  pub record ClosedTwice (before after : List ℕ) : Type 0 where
    pub swept : (x : Nested Leaf) → RunOf x before → SweptTwice x before after
    pub others : drop count after ≡ drop count before

  module _ (words : List ℕ) (enough : count ≤ length words) where
    -- the first words can be swept
    pub run_sweepable : (x : Nested Leaf) → RunOf x words → Sweepable rows x
        (take count words)
    run_sweepable x on = record {
      laid = on.laid;
      whole_run = length-take-le count words enough ∙ on.counted;
      clean = (front_clean x count words on.counted).1 on.clean;
      nearly = subst (NearlyClosed x start) (sym (get_or-take count words 0 0 (omega (arith, on.counted))))
          on.nearly;
      closed_below = closed_below_same x (drop 1 words) (drop 1 (take count words))
          (λ o l. get_or-drop 1 words o 0 ∙ sym (get_or-take count words (1 + o) 0 (omega (arith, on.counted)))
          ∙ sym (get_or-drop 1 (take count words) o 0)) on.closed_below;
    }

    module _ (ys : List ℕ) (same : length ys ≡ length (take count words))
        (swept : (x : Nested Leaf) → Sweepable rows x (take count words)
        → Swept x (take count words) ys) where
      -- the words with the first words swept
      abbrev after : List ℕ
      after = ys ++ drop count words

      as_many : length ys ≡ count
      as_many = same ∙ length-take-le count words enough

      pub after_length : length after ≡ length words
      after_length = length_front words ys count same

      pub after_others : drop count after ≡ drop count words
      after_others = drop_at ys (drop count words) count as_many

      front : take count after ≡ ys
      front = take_at ys (drop count words) count as_many

      -- they are swept
      pub after_swept : (x : Nested Leaf) → RunOf x words → Swept x words after
      after_swept x on =
          let done : Swept x (take count words) (take count after) =
          subst (Swept x (take count words)) (sym front) (swept x (run_sweepable x on)) in
          record {
            marks = λ q h. Iff.trans (Iff.symm (front_holds x count after on.counted q h))
                (Iff.trans (done.marks q h) (sweep_same byteless x (front_holds x count words on.counted) q h));
            clean = (front_clean x count after on.counted).0 done.clean;
            each_closed =
                closed_same x (take count after) after (λ o l. get_or-take count after o 0 (omega (arith, on.counted)))
                done.each_closed;
          }

      -- and a run again
      pub after_run : (x : Nested Leaf) → RunOf x words → RunOf x after
      after_run x on = let done = after_swept x on in record {
        laid = on.laid;
        counted = on.counted;
        clean = done.clean;
        nearly = closed_nearly done.each_closed.0;
        closed_below = done.each_closed.1;
      }

      -- and settled, where the first words are
      pub after_settled : (x : Nested Leaf) → RunOf x words → Settled byteless x (Holds x ys)
          → Settled byteless x (Holds x after)
      after_settled x on settled =
          settled_agree byteless x (front_holds x count after on.counted)
          (subst (λ (l : List ℕ). Settled byteless x (Holds x l)) (sym front) settled)

  -- the first words are ready to be swept
  pub run_ready : (from to : ℕ) (words : List ℕ) → Closable from to words
      → SweepReady rows from to (take count words)
  run_ready from to words can =
      record {
        sized = can.sized;
        tree = can.tree;
        sweepable =
            run_sweepable words can.enough can.tree can.on_run;
        quiet = can.quiet;
      }

  module _ (from to : ℕ) (words ys : List ℕ) (can : Closable from to words)
      (same : length ys ≡ length (take count words))
      (swept : (x : Nested Leaf) → Sweepable rows x (take count words)
      → Swept x (take count words) ys) where
    -- once swept, the words can be swept again
    pub closable_again : Closable 0 count (ys ++ drop count words)
    closable_again = record {
      sized = sized_same rows (take count words) (take count (ys ++ drop count words))
          (length-take-le count (ys ++ drop count words)
          (omega (arith, can.enough, after_length words can.enough ys same swept))
          ∙ sym (length-take-le count words can.enough))
          can.sized;
      enough = omega (arith, can.enough, after_length words can.enough ys same swept);
      tree = can.tree;
      on_run = after_run words can.enough ys same swept can.tree can.on_run;
      quiet = λ o l h out. absurd (⊎_elim (λ g. omega arith)
          (λ g. omega (
            arith,
            length-take-le count (ys ++ drop count words)
                (omega (arith, can.enough, after_length words can.enough ys same swept)),
          )) out);
    }

    -- where one sweep settles the words, a second would change nothing
    pub closed_once : ((x : Nested Leaf) → Sweepable rows x (take count words)
        → Settled byteless x (Holds x ys)) → ClosedTwice words (ys ++ drop count words)
    closed_once settled = record {
      swept = λ x on. record {
        marks = λ q h. Iff.trans (Iff.symm
            (sweep_settled byteless x (Holds x (ys ++ drop count words)) (rests x on) q))
            (sweep_same byteless x (after_swept words can.enough ys same swept x on).marks q h);
        clean = (after_swept words can.enough ys same swept x on).clean;
      };
      others = after_others words can.enough ys same swept;
    }
      where
        rests : (x : Nested Leaf) → RunOf x words → Settled byteless x (Holds x (ys ++ drop count words))
        rests x on =
            after_settled words can.enough ys same swept x on (settled x (run_sweepable words can.enough x on))

    -- twice swept, the words are closed
    pub closed_twice : (zs : List ℕ) → length zs ≡ length (take count (ys ++ drop count words))
        → ((x : Nested Leaf) → Sweepable rows x (take count (ys ++ drop count words))
        → Swept x (take count (ys ++ drop count words)) zs)
        → ClosedTwice words (zs ++ drop count (ys ++ drop count words))
    closed_twice zs as_many again = record {
      swept = λ x on. record {
        marks = λ q h. Iff.trans ((second x on).marks q h)
            (sweep_same byteless x (after_swept words can.enough ys same swept x on).marks q h);
        clean = (second x on).clean;
      };
      others = after_others (ys ++ drop count words) closable_again.enough zs as_many again
          ∙ after_others words can.enough ys same swept;
    }
      where
        second : (x : Nested Leaf) → RunOf x words
            → Swept x (ys ++ drop count words) (zs ++ drop count (ys ++ drop count words))
        second x on = after_swept (ys ++ drop count words) closable_again.enough zs as_many again x
            (after_run words can.enough ys same swept x on)
