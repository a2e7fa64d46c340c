-- The plain simulation along a text: in two parts, one byte further, where no mark is left, and that it marks states
-- that there are.
use Rattle.std.specs.Prelude.{ℕ, ◌≡◌, refl, List, [], ◌∷◌, ◌++◌}
use Rattle.std.proofs.Common.{subst}
use Rattle.language.specs.Tree.{Tree}
use Rattle.language.specs.Meaning.{Meaning}
use Rattle.language.specs.Language.{Language}
use Rattle.language.specs.Automaton.{State, accepting, States, Started, Stepped, After}
use Rattle.language.specs.Simulation.{◌⊆◌, none_left}
use Rattle.language.proofs.Acceptance.{accepts_exactly}
use Rattle.language.specs.Models.{StateOf, started_state, stepped_state}

module _ {A : Type 0} (M : Meaning A) (t : Tree A) where
  -- after one text and then another
  after_append : (v w : List ℕ) (X : States) → After M t (v ++ w) X ≡ After M t w (After M t v X)
  after_append [] w X = refl
  after_append (b ∷ v) w X = after_append v w (Stepped M t b X)

  -- after one byte more: a step with that byte
  pub after_step : (w : List ℕ) (b : ℕ) (X : States) → After M t (w ++ (b ∷ [])) X
      ≡ Stepped M t b (After M t w X)
  after_step w b X = after_append w (b ∷ []) X

  -- where no mark is left, none comes back
  after_none : (w : List ℕ) (X : States) → ((p : State) → X p → ⊥) → (p : State) → After M t w X p → ⊥
  after_none [] X none = none
  after_none (b ∷ w) X none = after_none w (Stepped M t b X) (none_left M t b none)

  -- the marks after a text are states that there are, where those before it were
  after_state : (w : List ℕ) (X : States) → X ⊆ StateOf t → After M t w X ⊆ StateOf t
  after_state [] X states = states
  after_state (b ∷ w) X states = after_state w (Stepped M t b X) (stepped_state M t b X)

  -- so the marks after a text from the start are
  pub reached_state : (w : List ℕ) → After M t w (Started M t) ⊆ StateOf t
  reached_state w = after_state w (Started M t) (started_state M t)

  -- where no mark is left after w, no text that begins with w lies in the language
  pub none_longer : (w v : List ℕ) → ((p : State) → After M t w (Started M t) p → ⊥) → Language M t (w ++ v) → ⊥
  none_longer w v none longer =
      after_none v (After M t w (Started M t)) none accepting
      (subst (λ (X : States). X accepting) (after_append w v (Started M t)) ((accepts_exactly M t (w ++ v)).1 longer))
