-- The layer inside: the marks of a start and of a step over the rows of a list, which are made once.
use Rattle.std.specs.Prelude.{ℕ, suc, ◌+◌, ◌*◌, ◌-◌, ◌≤◌, ◌<◌, ◌≡◌, refl, Bool, true, false, ◌↔◌, List, [], ◌∷◌, ◌++◌, length, get_or, take, drop, set, replicate}
use Rattle.std.proofs.Common.{arith, sym, ap, ◌∙◌, subst, ⊎_elim, add-one, length-append, length-drop, length-set, get_or-take, get_or-drop, ext_get_or, length-take-le, take_at, drop_at, drop-cons, take-suc}
use Rattle.std.proofs.Math.Logic.Iff
use Rattle.std.proofs.lemmas.List.{set_at}
use Rattle.std.proofs.Math.Seq.{append_snoc}
use Rattle.language.specs.Tree.{Tree}
use Rattle.language.specs.Automaton.{State, States, accepting, start, Started, Stepped, After, here}
use Rattle.language.specs.Nested.{Nested, whole, origin, Models, Has, Sweep}
use Rattle.language.specs.Same.{Agree}
use Rattle.language.proofs.Same.{models_same}
use Rattle.language.specs.Simulation.{◌⊆◌, stepped_more}
use Rattle.language.proofs.Acceptance.{accepts_exactly}
use Rattle.language.specs.Models.{StateOf, alike_models, models_alike, models_origins}
use Rattle.language.proofs.AlongText.{reached_state}
use Rattle.tree.specs.Limits.{most_pieces, most_states}
use Rattle.tree.specs.Leaf.{Leaf, meaning, byteless}
use Rattle.tree.specs.Records.{piece_count}
use Rattle.tree.specs.Nesting.{every_below}
use Rattle.tree.specs.Pieces.{cut_up, stated}
use Rattle.tables.specs.Words.{word_bits, Bit, width, run, Holds, Clean, Agreeing, SetOf}
use Rattle.tables.specs.Plan.{row_words, top_of, Planned, Closes}
use Rattle.closing.specs.BitsOfWords.Bits.{Tells, bit_zero, told_no, told_yes}
use Rattle.tables.specs.Tables.{Prepared, Roomy, Ready, Holding, Answered}
use Rattle.language.proofs.Unmoved.{sweep_none}
use Rattle.closing.specs.BitsOfWords.Zero.{AllZero}
use Rattle.closing.specs.BitsOfWords.AllZero.{zero_holds}
use Rattle.moving.specs.Spans.{Spans}
use Rattle.stepping.specs.Hold.{Hold, MarksOf}
use Rattle.closing.specs.EachPieceClosed.{EachClosed, EachClosedBelow}
use Rattle.sweeping.specs.Swept.{NearlyClosed, Quiet, InRows}
use Rattle.sweeping.specs.ClosedFromState.{closed_nearly}
use Rattle.planning.specs.Given.{small_narrow}
use Rattle.closing.specs.Passes.Laid.{LaysEach, NarrowBelow, lays_each}
use Rattle.stepping.specs.SharedStates.Low.{checkable}
use Rattle.stepping.specs.SharedStates.WordsChecked.{Checkable}
use Rattle.moving.specs.WordsMovedClosed.{MovedClosed, moved_length, moved_others, moved_keeps, moved_within, moved_each_closed, moved_clean}
use Rattle.sweeping.specs.Twice.{RunOf, Closable, SweptTwice, ClosedTwice, swept_alone, front_holds, front_clean}
use Rattle.sweeping.specs.Simulated.{laid_whole, closed_step, accepting_bit}
use Rattle.stepping.specs.Texts.{all_words, holding_first, holding_next, accepting_answer}
use Rattle.sweeping.specs.Visiting.{accepting_holds}

-- lists of so few pieces take few rows, and those of so many half the largest number
abbrev pub small_table_pieces : ℕ
small_table_pieces = 16

abbrev pub half_table_pieces : ℕ
half_table_pieces = 64

-- a test that tells a fact passes exactly when the fact holds
pub told_exactly : {P : Type 0} (answer : Bool) → Tells P answer → (answer ≡ true) ↔ P
told_exactly true told = (told.holds, λ p. refl)
told_exactly false told = (told.holds, λ p. absurd (told.fails refl p))

-- words with the same first words hold the same marks
same_front : (x : Nested Leaf) (n : ℕ) (v w : List ℕ) → n ≡ 1 + run x → take n v ≡ take n w
    → Agree x (Holds x v) (Holds x w)
same_front x n v w e same q has =
    Iff.trans (Iff.symm (front_holds x n v e q has))
    (Iff.trans (subst (λ (l : List ℕ). Holds x (take n v) q ↔ Holds x l q) same (λ h. h, λ h. h))
    (front_holds x n w e q has))

-- and have no bit past a last state alike
same_clean : (x : Nested Leaf) (n : ℕ) (v w : List ℕ) → n ≡ 1 + run x → take n v ≡ take n w → Clean x w → Clean x v
same_clean x n v w e same clean = (front_clean x n v e).0 (subst (Clean x) (sym same) ((front_clean x n w e).1 clean))

-- lists that agree from n on
pub ext_drop : (n : ℕ) (v w : List ℕ) → length v ≡ length w → ((k : ℕ) → n ≤ k → get_or v k 0 ≡ get_or w k 0)
    → drop n v ≡ drop n w
ext_drop n v w long same =
    ext_get_or 0 (drop n v) (drop n w) (simp length-drop (omega arith))
    (λ i inside. rw (get_or-drop n v i 0, get_or-drop n w i 0) (same (n + i) (omega arith)))

-- every piece of a tree's cut has at most 62 states
pub all_narrow : (t : Tree Leaf) → NarrowBelow (cut_up t)
all_narrow t = every_below small_narrow (cut_up t) (stated t).every_small.1

pub narrow : (t : Tree Leaf) → width (cut_up t) ≤ most_states
narrow t = small_narrow (cut_up t) (stated t).every_small.0

-- 128 words of zero, then the root's start marked
abbrev pub start_words : List ℕ
start_words = set (replicate most_pieces 0) 0 1

-- the start is among the marks to start with, so that their words are not all 0
pub some_started : (classes : List ℕ) (t : Tree Leaf) (after : List ℕ)
    → Models (cut_up t) (Holds (cut_up t) after) (Started (meaning classes) t) → AllZero (piece_count t) after → ⊥
some_started classes t after models zeros =
    zero_holds (cut_up t) after (rw (all_words t) zeros) start tt ((models start tt).1 (start, refl, here))

-- the marks to start with, and whether the accepting state is among them; the start always is
pub record Begun (classes : List ℕ) (t : Tree Leaf) (before after : List ℕ) (yes' : Bool) : Type 0 where
  pub hold : Hold t (Started (meaning classes) t) before after
  pub answer : (yes' ≡ true) ↔ Started (meaning classes) t accepting
  pub some : AllZero (piece_count t) after → ⊥

-- the marks after one more byte, from the set that the words held before, whether the accepting state is among them,
-- and whether nothing is left
pub record Advanced (classes : List ℕ) (t : Tree Leaf) (byte : ℕ) (before after : List ℕ) (yes' nothing : Bool) : Type 0
  where
    pub hold : Hold t (Stepped (meaning classes) t byte (SetOf (cut_up t) before)) before after
    pub answer : (yes' ≡ true) ↔ Stepped (meaning classes) t byte (SetOf (cut_up t) before) accepting
    pub left : (nothing ≡ true) ↔ AllZero (piece_count t) after

-- rows that are ready have a first one
pub first_row : {rows : List ℕ} {count : ℕ} → Ready rows count → row_words * 0 + row_words ≤ length rows
first_row ready = let tree = ready.of_tree in omega (arith, all_words tree.0, tree.1.counted, ready.roomy)

-- what closing makes of words that were moved, so that each piece is closed in itself: those of the pieces are swept
-- twice, the others are as before
pub record ClosedMoved (rows : List ℕ) (count : ℕ) (before after : List ℕ) : Type 0 where
  pub swept : (x : Nested Leaf) → RunOf rows count x before → Closes x (get_or before 0 0) (get_or before 0 0)
      → SweptTwice x before after
  pub others : drop count after ≡ drop count before

-- two sweeps close them
pub closed_moved : {rows : List ℕ} {count : ℕ} {before after : List ℕ} → ClosedTwice rows count before after
    → ClosedMoved rows count before after
closed_moved twice = record { swept = λ x on closed. twice.swept x on; others = twice.others }

-- a single piece is closed as it is
pub moved_alone : {rows words : List ℕ} {count : ℕ} → count ≡ 1 → ClosedMoved rows count words words
moved_alone {words = words} one = record {
  swept = λ x on closed. swept_alone x words (omega (arith, on.counted)) on.clean closed;
  others = refl;
}

-- where marks are left, the words are not all 0
pub some_left : {words : List ℕ} {count from to : ℕ} → Spans words count from to → 0 < to → AllZero count words → ⊥
some_left {to = to} spans some zeros = spans.some_last some (zeros (to - 1) (omega (arith, spans.within)))

-- the rows are those of a tree of which the words are marks, but for agreement
pub record Running (rows : List ℕ) (count : ℕ) (words : List ℕ) : Type 0 where
  pub ready : Ready rows count
  pub enough : count ≤ length words
  pub clean : Clean (cut_up ready.of_tree.0) words

-- 128 words that are clean for every tree that the rows are of can be stepped
pub running : {rows words : List ℕ} {count : ℕ} → Ready rows count
    → length words ≡ most_pieces
    → ((t : Tree Leaf) → Prepared t rows count → Clean (cut_up t) words)
    → Running rows count words
running ready long clean =
    let prepared = ready.of_tree.1 in
    record {
      ready = ready;
      enough = omega (arith, prepared.counted, prepared.few);
      clean =
          clean ready.of_tree.0 prepared;
    }

module _ {t : Tree Leaf} {rows : List ℕ} {count : ℕ}
    (prepared : Prepared t rows count) where
  -- there is a word for each piece
  pub prepared_count : count ≡ 1 + run (cut_up t)
  prepared_count = prepared.counted ∙ sym (all_words t)

  -- its rows are those of every piece
  laid_pieces : LaysEach rows (cut_up t)
  laid_pieces = lays_each rows (cut_up t) prepared.planned

  -- the rows speak of every piece
  pub prepared_laid : InRows rows (cut_up t) 0
  prepared_laid = laid_whole rows (cut_up t) prepared.planned (narrow t) (all_narrow t)

  -- words that are clean, and closed piece by piece but for the root's start, are the run of the pieces
  pub prepared_run : {words : List ℕ} → Clean (cut_up t) words → NearlyClosed (cut_up t) start (get_or words 0 0)
      → EachClosedBelow (cut_up t) (drop 1 words)
      → RunOf rows count (cut_up t) words
  prepared_run clean nearly closed = record {
    laid = prepared_laid;
    counted = prepared_count;
    clean = clean;
    nearly =
        nearly;
    closed_below = closed;
  }

  -- and can be closed
  pub prepared_closable : {words : List ℕ} {from to : ℕ} → Roomy count rows
      → count ≤ length words
      → RunOf rows count (cut_up t) words
      → Quiet from to (take count words) → Closable rows count from to words
  prepared_closable {words} roomy enough on quiet = record {
    sized = record {
      rows_sized = omega (arith, length-take-le count words enough, roomy);
      within = omega (arith, length-take-le count words enough, prepared.counted, prepared.few);
    };
    enough = enough;
    tree = cut_up t;
    on_run = on;
    quiet = quiet;
  }

  -- the last state of the top piece is its accepting state, and its bit is one of the word
  pub top_low : top_of rows 0 < word_bits
  top_low = omega (arith, prepared.planned.0.topped, narrow t)

  -- the bit of the last state of the top piece tells whether the accepting state is marked
  pub answer_told : (words : List ℕ) (X : States) (yes' : Bool) → Models (cut_up t) (Holds (cut_up t) words) X
      → (top : ℕ) → top ≡ top_of rows 0 → Tells (Bit (get_or words 0 0) top) yes' → (yes' ≡ true) ↔ X accepting
  answer_told words X yes' models top top-is told =
      Iff.trans (told_exactly yes' told)
      (Iff.trans (same_bit (top-is ∙ prepared.planned.0.topped)) (accepting_bit (cut_up t) words X models))
    where
      same_bit : {i j : ℕ} → i ≡ j → Bit (get_or words 0 0) i ↔ Bit (get_or words 0 0) j
      same_bit e = (subst (λ (i : ℕ). Bit (get_or words 0 0) i) e, subst (λ (i : ℕ). Bit (get_or words 0 0) i) (sym e))

  -- whether words are marks can be tested
  pub prepared_checkable : {words : List ℕ} → Roomy count rows → count ≤ length words → Checkable rows words count
  prepared_checkable {words} roomy enough =
      checkable rows (cut_up t) count prepared.planned (sym prepared_count) (narrow t) (all_narrow t) words roomy
      enough

  -- and what the test tells
  pub prepared_told : (words : List ℕ) {answer : Bool}
      → ((x : Nested Leaf) → Planned rows x → 1 + run x ≡ count → Tells (Clean x words × Agreeing x words) answer)
      → Tells (Clean (cut_up t) words × Agreeing (cut_up t) words) answer
  prepared_told words tells = tells (cut_up t) prepared.planned (sym prepared_count)

  -- and the first of them put into the lent words
  pub begun_copy : {classes words marks lent after : List ℕ} {yes' : Bool} → Begun classes t words marks yes'
      → count ≤ length marks → count ≤ length lent → after ≡ take count marks ++ drop count lent
      → Begun classes t lent after yes'
  begun_copy {classes} {words} {marks} {lent} {after} marked enough room put =
      let x = cut_up t in
      let front : length (take count marks) ≡ count = length-take-le count marks enough in
      let same : take count after ≡ take count marks = ap (take count) put
      ∙ take_at (take count marks) (drop count lent) count front in
      let models : Models x (Holds x after) (Started (meaning classes) t) =
      models_same x (Started (meaning classes) t) (same_front x count after marks prepared_count same)
      marked.hold.marks in
      record {
        hold = record {
          marks = models;
          clean = same_clean x count after marks prepared_count same marked.hold.clean;
          others = subst (λ (n : ℕ). drop n after ≡ drop n lent) prepared.counted
              (ap (drop count) put ∙ drop_at (take count marks) (drop count lent) count front);
          same_length = ap length put ∙ length-append (take count marks) (drop count lent)
              ∙ omega (arith, front, length-drop count lent);
        };
        answer = marked.answer;
        some = some_started classes t after models;
      }

  module _ {classes : List ℕ} {byte : ℕ} {before moved : List ℕ}
      (went : MovedClosed rows classes before moved byte count) (clean : Clean (cut_up t) before) where
    -- words that were moved are closed piece by piece
    moved_closed : EachClosed (cut_up t) moved
    moved_closed = moved_each_closed went (cut_up t) laid_pieces (omega (arith, prepared_count)) (narrow t)
        (all_narrow t) clean

    -- and are the run of the pieces
    pub moved_run : RunOf rows count (cut_up t) moved
    moved_run = prepared_run
        (moved_clean went (cut_up t) laid_pieces (omega (arith, prepared_count)) (narrow t) (all_narrow t) clean)
        (closed_nearly moved_closed.0) moved_closed.1

  -- from words moved along the byte, and closed
  pub advanced : {classes : List ℕ} (byte : ℕ) (before moved after : List ℕ) (yes' nothing : Bool) → MarksOf t before
      → MovedClosed rows classes before moved byte count → ClosedMoved rows count moved after
      → length after ≡ length moved → (top : ℕ) → top ≡ top_of rows 0 → Tells (Bit (get_or after 0 0) top) yes'
      → Tells (AllZero count after) nothing → Advanced classes t byte before after yes' nothing
  advanced {classes} byte before moved after yes' nothing marks went closed long top top-is told left =
      let x = cut_up t in
      let room : 1 + run x ≤ count = omega (arith, prepared_count) in
      let swept = closed.swept x (moved_run went marks.clean) (moved_closed went marks.clean).0 in
      let models : Models x (Holds x after) (Stepped (meaning classes) t byte (SetOf x before)) =
      subst (λ (s : Tree Leaf). Models x (Holds x after) (Stepped (meaning classes) s byte (SetOf x before)))
      (stated t).same_tree
      (closed_step x moved after swept classes byte (Holds x before) (SetOf x before)
      (alike_models x (Holds x before) marks.agreeing)
      (moved_keeps went x laid_pieces room (narrow t) (all_narrow t) marks.clean)
      (moved_within went x laid_pieces room (narrow t) (all_narrow t) marks.clean))
      in
      record {
        hold = record {
          marks = models;
          clean = swept.clean;
          others = subst (λ (n : ℕ). drop n after ≡ drop n before) prepared.counted
              (closed.others ∙ ext_drop count moved before (moved_length went) (moved_others went));
          same_length = long ∙ moved_length went;
        };
        answer = answer_told after (Stepped (meaning classes) t byte (SetOf x before)) yes' models top top-is told;
        left = told_exactly nothing (subst (λ (n : ℕ). Tells (AllZero n after) nothing) prepared.counted left);
      }

  -- where no word has a mark after the move, closing makes none
  pub advanced_none : {classes : List ℕ} {byte from to : ℕ} {before moved : List ℕ} → MarksOf t before
      → MovedClosed rows classes before moved byte count → Spans moved count from to → to ≡ 0
      → Advanced classes t byte before moved false true
  advanced_none {byte = byte} {before = before} {moved = moved} marks went spans none =
      let zeros : AllZero count moved = λ k h. spans.none_after k (omega arith) h in
      let empty : (x : Nested Leaf) → RunOf rows count x moved → (q : State) → Has x q → Holds x moved q → ⊥ =
      λ x on. zero_holds x moved (subst (λ (n : ℕ). AllZero n moved) on.counted zeros) in
      advanced byte before moved moved false true marks went
      record {
        swept = λ x on closed. record {
          marks = λ q h. (
            λ held. absurd (empty x on q h held),
            λ m. absurd (sweep_none byteless x (Sweep byteless x (Holds x moved))
                (sweep_none byteless x (Holds x moved) (empty x on)) q h m),
          );
          clean = on.clean;
        };
        others = refl;
      }
      refl (top_of rows 0) refl
      (told_no (λ b. bit_zero (top_of rows 0)
      (subst (λ (v : ℕ). Bit v (top_of rows 0)) (zeros 0 (omega (arith, prepared_count))) b)))
      (told_yes zeros)

-- words that hold the marks after a text are marks
pub holding_marks : {classes : List ℕ} {t : Tree Leaf} {w words : List ℕ} → Holding classes t w words → MarksOf t words
holding_marks {classes} {t} {w} {words} holding = record {
  clean = holding.clean;
  agreeing = models_alike (cut_up t) (Holds (cut_up t) words)
      (After (meaning classes) t w (Started (meaning classes) t))
      holding.modelled;
}

-- after the start the words hold the marks after the empty text
pub answered_first : {classes : List ℕ} {t : Tree Leaf} {before after : List ℕ} {yes' : Bool}
    → Begun classes t before after yes'
    → Answered classes t [] after yes'
answered_first {classes} {t} begins =
    record {
      holding = holding_first begins.hold.marks begins.hold.clean;
      answer =
          Iff.trans begins.answer (accepts_exactly (meaning classes) t []);
    }

-- words of which the first are put in the place of others answer the same
pub answered_copy : {classes : List ℕ} {t : Tree Leaf} {rows w after : List ℕ} {count : ℕ}
    {yes' : Bool}
    (from to : List ℕ) → Prepared t rows count
    → count ≤ length from → after ≡ take count from ++ drop count to → Answered classes t w from yes'
    → Answered classes t w after yes'
answered_copy {classes} {t} {w = w} {after = after} {count = count} from to prepared enough put answered =
    let x = cut_up t in
    let same : take count after ≡ take count from =
    ap (take count) put ∙ take_at (take count from) (drop count to) count (length-take-le count from enough)
    in
    record {
      holding = record {
        modelled = models_same x (After (meaning classes) t w (Started (meaning classes) t))
            (same_front x count after from (prepared_count prepared) same) answered.holding.modelled;
        clean = same_clean x count after from (prepared_count prepared) same answered.holding.clean;
      };
      answer = answered.answer;
    }

-- after one more byte they hold the marks after one more byte
pub answered_next : {classes : List ℕ} {t : Tree Leaf} {w before after : List ℕ} {b : ℕ} {yes' nothing : Bool}
    → Holding classes t w before
    → Advanced classes t b before after yes' nothing → Answered classes t (w ++ (b ∷ [])) after yes'
answered_next {classes} {t} {w} {before} {after} {b} {yes'} {nothing} holding went =
    let x = cut_up t in
    let X = After (meaning classes) t w (Started (meaning classes) t) in
    let states : X ⊆ StateOf (whole x) = subst (λ (s : Tree Leaf). X ⊆ StateOf s) (sym (stated t).same_tree)
    (reached_state (meaning classes) t w) in
    let same : (p : State) → X p ↔ SetOf x before p = models_origins x (Holds x before) X holding.modelled states in
    let stepped : (p : State) → Stepped (meaning classes) t b (SetOf x before) p ↔ Stepped (meaning classes) t b X p =
    λ p. (
      stepped_more (meaning classes) t b (λ q. (same q).1) p,
      stepped_more (meaning classes) t b (λ q. (same q).0) p,
    ) in
    let held : Holding classes t (w ++ (b ∷ [])) after =
    holding_next holding (λ q has. Iff.trans (went.hold.marks q has) (stepped (origin x q)))
    went.hold.clean in
    record {
      holding = held;
      answer = Iff.trans went.answer
          (Iff.trans (Iff.symm (went.hold.marks accepting tt))
          (Iff.trans (accepting_holds x after) (accepting_answer held)));
    }

-- words that were moved can be closed, where the marks are from `from` up to `to`
pub moved_closable : {rows classes : List ℕ} {count byte from to : ℕ} {before moved : List ℕ}
    → Running rows count before → MovedClosed rows classes before moved byte count → Spans moved count from to
    → Closable rows count from to moved
moved_closable {count = count} {moved = moved} running went spans =
    let prepared = running.ready.of_tree.1 in
    let enough : count ≤ length moved = omega (arith, moved_length went, running.enough) in
    prepared_closable prepared running.ready.roomy enough (moved_run prepared went running.clean)
    (λ o l h out. let inside : o < count = omega (arith, length-take-le count moved enough) in
    get_or-take count moved o 0 inside
    ∙ ⊎_elim (λ g. spans.none_before o (omega arith)) (λ g. spans.none_after o (omega arith) inside) out)

-- the first i of `count` words are put in the place of the old ones
pub record Copying (from old : List ℕ) (count : ℕ) (new : List ℕ) (i : ℕ) : Type 0 where
  pub so_far : i ≤ count
  pub enough : count ≤ length from
  pub room : count ≤ length old
  pub put : new ≡ take i from ++ drop i old
  pub long : length new ≡ length old

-- before the first
pub copying_none : {from old : List ℕ} {count : ℕ} → count ≤ length from → count ≤ length old
    → Copying from old count old 0
copying_none enough room = record { so_far = omega arith; enough = enough; room = room; put = refl; long = refl }

-- one more
pub copying_next : {from old new : List ℕ} {count i : ℕ} → Copying from old count new i → i < count
    → Copying from old count (set new i (get_or from i 0)) (i + 1)
copying_next {from} {old} {new} {count} {i} h inside = record {
  so_far = omega arith;
  enough = h.enough;
  room = h.room;
  put = ap (λ (l : List ℕ). set l i (get_or from i 0)) h.put
      ∙ ap (λ (l : List ℕ). set (take i from ++ l) i (get_or from i 0)) (drop-cons old i 0 (omega (arith, h.room)))
      ∙ set_at (take i from) (get_or old i 0) (drop (suc i) old) (get_or from i 0) i
      (length-take-le i from (omega (arith, h.enough)))
      ∙ sym (append_snoc (take i from) (get_or from i 0) (drop (suc i) old))
      ∙ ap (λ (l : List ℕ). l ++ drop (suc i) old) (sym (take-suc from i 0 (omega (arith, h.enough))))
      ∙ ap (λ (n : ℕ). take n from ++ drop n old) (sym (add-one i));
  long = length-set new i (get_or from i 0) ∙ h.long;
}

-- after the last
pub copying_done : {from old new : List ℕ} {count i : ℕ} → Copying from old count new i → count ≤ i
    → new ≡ take count from ++ drop count old
copying_done {from} {old} {count = count} {i = i} h past =
    let all : i ≡ count = omega (arith, h.so_far) in
    h.put ∙ ap (λ (n : ℕ). take n from ++ drop n old) all
