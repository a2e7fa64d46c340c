-- The tree of an expression. Which leaves there are is left open: a leaf holds an A, and its meaning is a parameter.
use Rattle.std.specs.Prelude.{ℕ, ◌+◌}

pub data Tree (A : Type 0) : Type 0 where
  leaf : A → Tree A
  catenation : Tree A → Tree A → Tree A
  union : Tree A → Tree A → Tree A
  star : Tree A → Tree A

-- how many nodes a tree has
abbrev pub nodes : {A : Type 0} → Tree A → ℕ
nodes (leaf a) = 1
nodes (catenation s t) = nodes s + nodes t + 1
nodes (union s t) = nodes s + nodes t + 1
nodes (star s) = nodes s + 1
