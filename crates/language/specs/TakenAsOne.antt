-- What a step and an answer look at: the starts of leaves, the byte, and the root's accepting state. Sets of states
-- that agree there are taken as one, and bytes that no leaf tells apart are too.
use Rattle.std.specs.Prelude.{ℕ, ◌↔◌}
use Rattle.language.specs.Tree.{Tree, leaf, catenation, union, star}
use Rattle.language.specs.Meaning.{Meaning}
use Rattle.language.specs.Automaton.{State, start, accepting, left, right, States, Reads}

module _ {A : Type 0} (M : Meaning A) where
  -- p is the start of a leaf of t, other than one that has the empty text
  abbrev pub LeafStart : Tree A → State → Type 0
  LeafStart (leaf a) start = M.HasEmpty a → ⊥
  LeafStart (leaf a) accepting = ⊥
  LeafStart (leaf a) (left p) = ⊥
  LeafStart (leaf a) (right p) = ⊥
  LeafStart (catenation s t) start = ⊥
  LeafStart (catenation s t) accepting = ⊥
  LeafStart (catenation s t) (left p) = LeafStart s p
  LeafStart (catenation s t) (right p) = LeafStart t p
  LeafStart (union s t) start = ⊥
  LeafStart (union s t) accepting = ⊥
  LeafStart (union s t) (left p) = LeafStart s p
  LeafStart (union s t) (right p) = LeafStart t p
  LeafStart (star s) start = ⊥
  LeafStart (star s) accepting = ⊥
  LeafStart (star s) (left p) = LeafStart s p
  LeafStart (star s) (right p) = ⊥

  -- two sets of states are taken as one: they agree on the starts of leaves and on the root's accepting state
  pub record TakenAsOne (t : Tree A) (X Y : States) : Type 0 where
    pub starts : (p : State) → LeafStart t p → X p ↔ Y p
    pub accepts : X accepting ↔ Y accepting

  -- no leaf tells the bytes b and c apart: a transition that reads one reads the other
  abbrev pub NotToldApart : Tree A → ℕ → ℕ → Type 0
  NotToldApart t b c = (p q : State) → Reads M b t p q ↔ Reads M c t p q
