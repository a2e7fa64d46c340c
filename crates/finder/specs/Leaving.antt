-- Words that hold the marks after a text are what a start or a step leaves: so what these promise is shown by a test on
-- words.
use Rattle.std.specs.Prelude.{ℕ, zero, suc, ◌<◌, ◌≡◌, refl, Bool, true, false, ◌&&◌, ◌↔◌, List, [], ◌∷◌, ◌++◌, length, get_or, drop, eqb}
use Rattle.std.proofs.Common.{arith, sym, ◌∙◌, subst, drop_of_length-le, eqb-true, eq-eqb}
use Rattle.std.proofs.lemmas.Bool.{false≢true}
use Rattle.std.proofs.Math.Logic.Iff
use Rattle.language.specs.Tree.{Tree}
use Rattle.language.specs.Automaton.{State, States, accepting, Started, Stepped, After}
use Rattle.language.specs.Nested.{Nested, origin}
use Rattle.language.proofs.Acceptance.{accepts_exactly}
use Rattle.language.proofs.AlongText.{after_step, reached_state}
use Rattle.language.specs.Models.{StateOf, models_origins}
use Rattle.language.specs.Simulation.{◌⊆◌, stepped_more}
use Rattle.tree.specs.Leaf.{Leaf, meaning}
use Rattle.tree.specs.Records.{Good, piece_count}
use Rattle.tree.specs.Pieces.{cut_up, stated}
use Rattle.tables.specs.Words.{Holds, SetOf}
use Rattle.tables.specs.Tables.{Holding, Answered}
use Rattle.marks.specs.Answer.{marking}
use Rattle.marks.specs.Promise.{Classed, Starts, started, Steps, stepped}
use Rattle.closing.specs.BitsOfWords.Zero.{AllZero}
use Rattle.stepping.specs.Inner.{some_started, holding_marks}

-- a word for each piece and no more
abbrev pub AsMany : Tree Leaf → List ℕ → Type 0
AsMany t words = length words ≡ piece_count t

-- whether all words are 0
abbrev pub all_zero : List ℕ → Bool
all_zero [] = true
all_zero (word ∷ words) = eqb word 0 && all_zero words

-- it is what the words of the pieces are
zero_first : (word : ℕ) (words : List ℕ) (test rest : Bool) → (test ≡ true) ↔ (word ≡ 0)
    → (rest ≡ true) ↔ AllZero (length words) words
    → (test && rest ≡ true) ↔ AllZero (suc (length words)) (word ∷ words)
zero_first word words true rest first others = (
  λ e. λ k h. at k (first.0 refl) (others.0 e) h,
  λ zeros. others.1 (λ k h. zeros (suc k) (omega arith)),
)
  where
    at : (k : ℕ) → word ≡ 0 → AllZero (length words) words → k < suc (length words) → get_or (word ∷ words) k 0 ≡ 0
    at zero e zeros h = e
    at (suc k) e zeros h = zeros k (omega arith)
zero_first word words false rest first others = (
  λ e. absurd (false≢true e),
  λ zeros. absurd (false≢true (first.1 (zeros 0 (omega arith)))),
)

all_zero_exactly : (words : List ℕ) → (all_zero words ≡ true) ↔ AllZero (length words) words
all_zero_exactly [] = (λ e. λ k h. absurd (omega arith), λ zeros. refl)
all_zero_exactly (word ∷ words) =
    zero_first word words (eqb word 0) (all_zero words) (eqb-true word 0, eq-eqb word 0) (all_zero_exactly words)

-- words past the pieces are as before where there are none
no_others : (t : Tree Leaf) (before after : List ℕ) → AsMany t before → AsMany t after
    → drop (piece_count t) after ≡ drop (piece_count t) before
no_others t before after e f =
    drop_of_length-le after {i = piece_count t} (omega arith)
    ∙ sym (drop_of_length-le before {i = piece_count t} (omega arith))

-- a step from the set that the words hold marks what the plain simulation marks after one more byte
same_set : (classes : List ℕ) (t : Tree Leaf) (w : List ℕ) (b : ℕ) (before : List ℕ) → Holding classes t w before
    → (p : State)
    → After (meaning classes) t (w ++ (b ∷ [])) (Started (meaning classes) t) p
    ↔ Stepped (meaning classes) t b (SetOf (cut_up t) before) p
same_set classes t w b before holding p =
    let x : Nested Leaf = cut_up t in
    let X : States = After (meaning classes) t w (Started (meaning classes) t) in
    let same : (q : State) → X q ↔ SetOf x before q =
    models_origins x (Holds x before) X holding.modelled
    (subst (λ (s : Tree Leaf). X ⊆ StateOf s) (sym (stated t).same_tree) (reached_state (meaning classes) t w)) in
    rw (after_step (meaning classes) t w b (Started (meaning classes) t))
    (stepped_more (meaning classes) t b (λ q. (same q).0) p, stepped_more (meaning classes) t b (λ q. (same q).1) p)

module _ {list classes : List ℕ} {t : Tree Leaf} (good : Good list t) (classed : Classed classes t)
    (before after : List ℕ) (accepts : Bool)
    (lent : AsMany t before) (left : AsMany t after) where
  -- the words that hold the marks before the first byte are what a start leaves
  pub starts_by : Answered classes t [] after accepts → Starts list classes before after (marking accepts false)
  starts_by a =
      started (record {
        t = t;
        good = good;
        classed = classed;
        enough = omega arith;
        hold = record {
          marks = a.holding.modelled;
          clean = a.holding.clean;
          others = no_others t before after lent left;
          same_length = left ∙ sym lent;
        };
        marks = refl;
        answer = Iff.trans a.answer (Iff.symm (accepts_exactly (meaning classes) t []));
        left = (
          λ e. absurd (false≢true e),
          λ zeros. absurd (some_started classes t after a.holding.modelled zeros),
        );
      })

  -- those that hold the marks after one more byte are what a step leaves
  pub steps_by : (w : List ℕ) (b : ℕ) → Holding classes t w before → Answered classes t (w ++ (b ∷ [])) after accepts
      → Steps list classes b before after (marking accepts (all_zero after))
  steps_by w b from a =
      let same = same_set classes t w b before from in
      stepped (record {
        made = record {
          t = t;
          good = good;
          classed = classed;
          enough = omega arith;
          hold = record {
            marks = λ q has. Iff.trans (a.holding.modelled q has) (same (origin (cut_up t) q));
            clean = a.holding.clean;
            others = no_others t before after lent left;
            same_length = left ∙ sym lent;
          };
          marks = refl;
          answer =
              Iff.trans a.answer (Iff.trans (Iff.symm (accepts_exactly (meaning classes) t (w ++ (b ∷ []))))
              (same accepting));
          left = rw left at (all_zero_exactly after);
        };
        from_marks = holding_marks from;
      })
