-- What the leaves of a tree mean. Language, automaton, walks and sweeps take a meaning as a parameter: a new kind of
-- leaf brings its own meaning, and no new theory.
use Rattle.std.specs.Prelude.{ℕ}

pub record Meaning (A : Type 0) : Type 1 where
  -- the one-byte texts that a leaf has: the bytes that it takes
  pub Takes : A → ℕ → Type 0
  -- whether a leaf has the empty text
  pub HasEmpty : A → Type 0
