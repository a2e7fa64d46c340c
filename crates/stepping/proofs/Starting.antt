-- The layer inside: the marks of a start and of a step over the rows of a list, which are made once.
use Rattle.std.specs.Prelude.{ℕ, zero, suc, ◌≤◌, ◌<◌, ◌≡◌, refl, Bool, List, length, get_or, drop, set, replicate}
use Rattle.std.proofs.Common.{arith, sym, ap, ◌∙◌, subst, get_or-take, length-take-le}
use Rattle.language.specs.Tree.{Tree}
use Rattle.language.specs.Automaton.{Started}
use Rattle.language.specs.Nested.{Nested, Models}
use Rattle.tree.specs.Limits.{most_pieces}
use Rattle.tree.specs.Leaf.{Leaf, meaning}
use Rattle.tree.specs.Pieces.{cut_up, stated}
use Rattle.tables.specs.Words.{Bit, Holds}
use Rattle.tables.specs.Plan.{top_of}
use Rattle.closing.specs.BitsOfWords.Bits.{Tells}
use Rattle.tables.specs.Tables.{Prepared, Ready}
use Rattle.sweeping.specs.Twice.{Closable, ClosedTwice}
use Rattle.sweeping.specs.Simulated.{StartMarked, start_holds, start_clean, start_nearly, start_closed, closed_start}
use Rattle.stepping.specs.Inner.{ext_drop, start_words, some_started, Begun, prepared_count, prepared_run, prepared_closable, answer_told}

zeros : (n o : ℕ) → ◌≡◌ {A = ℕ} (get_or (replicate n 0) o 0) 0
zeros zero o = refl
zeros (suc n) zero = refl
zeros (suc n) (suc o) = zeros n o

begins_zero : (o : ℕ) → 0 < o → get_or start_words o 0 ≡ 0
begins_zero zero l = absurd (omega arith)
begins_zero (suc o) l = zeros 127 o

pub begins_marked : (x : Nested Leaf) → StartMarked x start_words
begins_marked x = record { first = refl; others = λ o inside. zeros 127 o }

module _ {t : Tree Leaf} {rows : List ℕ} {count : ℕ}
    (prepared : Prepared t rows count) where
  -- from 128 words of zero, with the root's start alone marked, closed twice
  pub begun : (classes words after : List ℕ) (yes' : Bool) → words ≡ replicate most_pieces 0
      → ClosedTwice rows count (set words 0 1) after → length after ≡ length words
      → (top : ℕ) → top ≡ top_of rows 0 → Tells (Bit (get_or after 0 0) top) yes' → Begun classes t words after yes'
  begun classes words after yes' zero_words closed long top top-is told =
      let x = cut_up t in
      let starts = begins_marked x in
      let twice = subst (λ (l : List ℕ). ClosedTwice rows count (set l 0 1) after) zero_words closed in
      let swept = twice.swept x
      (prepared_run prepared (start_clean x start_words starts) (start_nearly x start_words starts)
      (start_closed x start_words starts)) in
      let models : Models x (Holds x after) (Started (meaning classes) t) =
      subst (λ (s : Tree Leaf). Models x (Holds x after) (Started (meaning classes) s)) (stated t).same_tree
      (closed_start x start_words after swept classes (start_holds x start_words starts)) in
      let past : drop count start_words ≡ drop count (replicate most_pieces 0) = ext_drop count start_words _ refl
      (λ k h. begins_zero k (omega (arith, prepared_count prepared)) ∙ sym (zeros most_pieces k)) in
      record {
        hold = record {
          marks = models;
          clean = swept.clean;
          others = subst (λ (n : ℕ). drop n after ≡ drop n words) prepared.counted
              (twice.others ∙ past ∙ ap (drop count) (sym zero_words));
          same_length = long;
        };
        answer = answer_told prepared after (Started (meaning classes) t) yes' models top top-is told;
        some = some_started classes t after models;
      }

-- words with the root's start alone marked can be closed
pub start_closable : {rows : List ℕ} {count : ℕ} → Ready rows count
    → Closable rows count 0 0 start_words
start_closable {count = count} ready =
    let x = cut_up ready.of_tree.0 in
    let prepared = ready.of_tree.1 in
    let enough : count ≤ most_pieces = omega (arith, prepared.counted, prepared.few) in
    prepared_closable prepared ready.roomy enough
    (prepared_run prepared (start_clean x start_words (begins_marked x)) (start_nearly x start_words (begins_marked x))
    (start_closed x start_words (begins_marked x)))
    (λ o l h out. get_or-take count start_words o 0 (omega (arith, length-take-le count start_words enough))
    ∙ begins_zero o l)
