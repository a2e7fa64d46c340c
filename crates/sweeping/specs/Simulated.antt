-- Start and step on words: what the words hold after the closing is what the plain simulation marks.
use Rattle.std.specs.Prelude.{ℕ, zero, suc, ◌+◌, ◌-◌, ◌≤◌, ◌<◌, ◌≡◌, refl, ◌↔◌, List, ◌∷◌, get_or, drop}
use Rattle.std.proofs.Common.{arith, sym, ap, ◌∙◌, subst, inr, get_or-drop, pow_pos}
use Rattle.std.proofs.Math.Logic.Iff
use Rattle.std.proofs.Math.Pow.{pow-lt}
use Rattle.language.specs.Automaton.{State, start, accepting, States, PathOf, Started, Stepped}
use Rattle.language.specs.Nested.{Nested, whole, Has, origin, Models, Move, OwnEmpty}
use Rattle.language.specs.Same.{MoreIn, Agree}
use Rattle.language.proofs.Same.{sweep_same, models_same}
use Rattle.language.specs.Settled.{Settled}
use Rattle.language.proofs.SameEmpty.{started_same}
use Rattle.language.proofs.Sweeps.{sweeps_start, sweeps_step_closed}
use Rattle.tree.specs.Limits.{most_states}
use Rattle.tree.specs.Leaf.{Leaf, meaning, byteless}
use Rattle.tables.specs.Words.{Bit, width, run, number, Holds, Clean}
use Rattle.tables.specs.Plan.{Planned}
use Rattle.closing.specs.Passes.Laid.{NarrowBelow}
use Rattle.closing.specs.BitsOfWords.Numbers.{width_two, number_injective}
use Rattle.closing.specs.BitsOfWords.Bits.{bit_zero, bit_power}
use Rattle.closing.specs.EachPieceClosed.{EachClosedBelow, zeros_closed}
use Rattle.sweeping.specs.Swept.{NearlyClosed, InRows}
use Rattle.closing.specs.BitsOfWords.Spots.{
  Spot,
  own,
  under,
  spot,
  SetAt,
  holds_held,
  SpotWithin,
  spot_within,
  InFirstWord,
  first_start,
  Bounded,
  clean_words,
  below_power,
  widths,
}
use Rattle.sweeping.specs.Visiting.{accepting_holds}
use Rattle.sweeping.specs.Twice.{SweptTwice}

-- the rows speak of all pieces of x, from piece 0 on
pub laid_whole : (rows : List ℕ) (x : Nested Leaf) → Planned rows x → width x ≤ most_states → NarrowBelow x
    → InRows rows x 0
laid_whole rows x planned narrow narrow_below = record {
  piece = planned.0;
  children = planned.1;
  narrow = narrow;
  narrow_below = narrow_below;
}

-- the words with only the root's start marked
pub record StartMarked (x : Nested Leaf) (words : List ℕ) : Type 0 where
  pub first : get_or words 0 0 ≡ 1
  pub others : (o : ℕ) → o < run x → get_or words (suc o) 0 ≡ 0

module _ (x : Nested Leaf) (words : List ℕ) (marked : StartMarked x words) where
  first_held : (s : Spot) → SpotWithin (width x) (run x) s → SetAt s words ↔ InFirstWord s
  first_held (own b) l = (
    λ h. (bit_power 0 b).0 (subst (λ (w : ℕ). Bit w b) marked.first h),
    λ h. subst (λ (w : ℕ). Bit w b) (sym marked.first) ((bit_power 0 b).1 h),
  )
  first_held (under o b) l = (λ h. bit_zero b (subst (λ (w : ℕ). Bit w b) (marked.others o l) h), λ h. absurd h)

  -- they hold the start and nothing else
  pub start_holds : Agree x (Holds x words) (λ q. q ≡ start)
  start_holds q h =
      Iff.trans (holds_held x words q h)
      (Iff.trans (first_held (spot x q) (spot_within x q h)) (
        first_start x q h,
        λ e. subst (λ (p : State). InFirstWord (spot x p)) (sym e) refl,
      ))

  -- and no bit past a last state
  pub start_clean : Clean x words
  start_clean = (clean_words x words).1 each
    where
      each : Bounded (1 + run x) words (width x ∷ widths x)
      each zero l = below_power marked.first refl (pow-lt {i = 0} {j = width x} (omega (arith, width_two x)))
      each (suc o) l = below_power (marked.others o (omega arith)) refl (pow_pos (get_or (widths x) o 0))

  -- the root's word is closed but for what the start reaches
  pub start_nearly : NearlyClosed x start (get_or words 0 0)
  start_nearly = record {
    reached = λ p q o o' b way.
        let same : p ≡ start =
        number_injective x p start o tt
        ((bit_power 0 (number x p)).0 (subst (λ (w : ℕ). Bit w (number x p)) marked.first b)) in
        inr (
          subst (λ (s : State). Bit (get_or words 0 0) (number x s)) same b,
          subst (λ (s : State). PathOf (OwnEmpty byteless x) s q) same way,
        );
  }

  -- and the words of the other pieces, which are 0, are closed
  pub start_closed : EachClosedBelow x (drop 1 words)
  start_closed =
      zeros_closed x (drop 1 words) (λ o l. get_or-drop 1 words o 0 ∙ ap (λ (k : ℕ). get_or words k 0) (omega arith)
      ∙ marked.others o l)

module _ (x : Nested Leaf) (before after : List ℕ) (closed : SweptTwice x before after) where
  -- from the root's start, the closing is the start of the plain simulation, by any class records
  pub closed_start : (classes : List ℕ) → Agree x (Holds x before) (λ q. q ≡ start)
      → Models x (Holds x after) (Started (meaning classes) (whole x))
  closed_start classes begins q h =
      Iff.trans (closed.marks q h)
      (Iff.trans (sweep_same byteless x (sweep_same byteless x begins) q h)
      (Iff.trans (sweeps_start byteless x q h)
      (started_same byteless (meaning classes) (λ a. Iff.rfl) (whole x) (origin x q))))

  -- after a move along the byte b, with some of the closing done already, the closing is a step of the plain simulation
  pub closed_step : (classes : List ℕ) (b : ℕ) (marks X : States) → Models x marks X
      → MoreIn (Has x) (Move (meaning classes) b x marks) (Holds x before)
      → ((Z : States) → Settled byteless x Z → MoreIn (Has x) (Move (meaning classes) b x marks) Z
      → MoreIn (Has x) (Holds x before) Z)
      → Models x (Holds x after) (Stepped (meaning classes) (whole x) b X)
  closed_step classes b marks X models more within =
      models_same x (Stepped (meaning classes) (whole x) b X) closed.marks
      (sweeps_step_closed byteless (meaning classes) (λ a. Iff.rfl) b x marks X (Holds x before) models more within)

-- the bit of the top piece's last state says whether the accepting state is in the set that the words hold
pub accepting_bit : (x : Nested Leaf) (words : List ℕ) (X : States) → Models x (Holds x words) X
    → Bit (get_or words 0 0) (width x - 1) ↔ X accepting
accepting_bit x words X models = Iff.trans (Iff.symm (accepting_holds x words)) (models accepting tt)
