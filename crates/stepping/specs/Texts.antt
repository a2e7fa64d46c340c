-- The words after a text: how they come from those after the text without its last byte, when they say that the text is
-- in the language, and when they say that no longer text is.
use Rattle.std.specs.Prelude.{ℕ, ◌+◌, ◌-◌, ◌≡◌, ◌↔◌, List, [], ◌∷◌, ◌++◌, get_or}
use Rattle.std.proofs.Common.{sym, subst, arith}
use Rattle.std.proofs.Math.Logic.Iff
use Rattle.language.specs.Tree.{Tree}
use Rattle.language.specs.Automaton.{State, accepting, States, Started, Stepped, After}
use Rattle.language.specs.Nested.{Nested, Models}
use Rattle.language.proofs.Acceptance.{accepts_exactly}
use Rattle.language.specs.Models.{origin_onto}
use Rattle.language.proofs.AlongText.{after_step, reached_state, none_longer}
use Rattle.tree.specs.Leaf.{Leaf, meaning, Matches}
use Rattle.tree.specs.Records.{piece_count}
use Rattle.tree.specs.Pieces.{cut_up, stated}
use Rattle.tables.specs.Words.{Bit, width, run, Holds, Clean}
use Rattle.tables.specs.Tables.{Holding}
use Rattle.closing.specs.BitsOfWords.Numbers.{number_accepting}
use Rattle.closing.specs.BitsOfWords.Zero.{AllZero}
use Rattle.closing.specs.BitsOfWords.AllZero.{zero_holds}
use Rattle.closing.specs.BitsOfWords.Spots.{bit_at, held_at, holds_held, own_spot}

-- there is a word for each piece of a tree
pub all_words : (t : Tree Leaf) → 1 + run (cut_up t) ≡ piece_count t
all_words t = (stated t).all_pieces

module _ {classes : List ℕ} {t : Tree Leaf} {w words : List ℕ} (holding : Holding classes t w words) where
  -- where the words of the pieces are 0, no state is marked after the text
  pub none_marked : AllZero (piece_count t) words → (p : State)
      → After (meaning classes) t w (Started (meaning classes) t) p → ⊥
  none_marked zeros p reached =
      let (q, has, stands) = origin_onto (cut_up t) p
      (rw (stated t).same_tree (reached_state (meaning classes) t w p reached)) in
      zero_holds (cut_up t) words (rw (all_words t) zeros) q has ((holding.modelled q has).1 (rw stands reached))

  -- and no text that begins with it is in the language
  pub nothing_left : AllZero (piece_count t) words → (v : List ℕ) → Matches classes t (w ++ v) → ⊥
  nothing_left zeros v = none_longer (meaning classes) t w v (none_marked zeros)

  -- the last state of piece 0 is the root's accepting state: it is marked exactly when the text is in the language
  pub accepting_answer : Bit (get_or words 0 0) (width (cut_up t) - 1) ↔ Matches classes t w
  accepting_answer =
      let x : Nested Leaf = cut_up t in
      Iff.trans (bit_at (get_or words 0 0) (omega (arith, number_accepting x)))
      (Iff.trans (held_at words (sym (own_spot x accepting tt)))
      (Iff.trans ((holds_held x words accepting tt).1, (holds_held x words accepting tt).0)
      (Iff.trans (holding.modelled accepting tt) (accepts_exactly (meaning classes) t w))))

  -- after one byte more they hold what a step with it marks
  pub holding_next : {b : ℕ} {later : List ℕ}
      → Models (cut_up t) (Holds (cut_up t) later)
      (Stepped (meaning classes) t b (After (meaning classes) t w (Started (meaning classes) t)))
      → Clean (cut_up t) later
      → Holding classes t (w ++ (b ∷ [])) later
  holding_next {b} {later} models clean =
      record {
        modelled = subst (λ (X : States). Models (cut_up t) (Holds (cut_up t) later) X)
            (sym (after_step (meaning classes) t w b (Started (meaning classes) t))) models;
        clean = clean;
      }

-- before the first byte they hold what the start marks
pub holding_first : {classes : List ℕ} {t : Tree Leaf} {words : List ℕ} → Models (cut_up t) (Holds (cut_up t) words)
    (Started (meaning classes) t)
    → Clean (cut_up t) words → Holding classes t [] words
holding_first models clean = record { modelled = models; clean = clean }
