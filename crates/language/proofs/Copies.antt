-- A state of the uncut automaton and its copies in the cut one: a node's own state, and those of the stand-ins of its
-- piece.
use Rattle.language.specs.Meaning.{Meaning}
use Rattle.language.specs.Automaton.{left, right, States, Empty}
use Rattle.language.specs.Nested.{Nested, leaf, catenation, union, star, below, whole, origin}
use Rattle.language.specs.Simulation.{SettledBy}
use Rattle.language.specs.Settled.{Wire, Settled}

module _ {A : Type 0} (M : Meaning A) where
  -- the other way round, each empty transition of the cut automaton is an empty one of the uncut automaton, or leads to
  -- a copy of the same state
  wires_origin : (x : Nested A) (X : States) → SettledBy (Empty M (whole x)) X
      → SettledBy (Wire M x) (λ q. X (origin x q))
  wires_origin (leaf a) X closed p q (Wire.leaf_past has) = closed _ _ (Empty.leaf_past has)
  wires_origin (catenation x y) X closed p q Wire.catenation_in = closed _ _ Empty.catenation_in
  wires_origin (catenation x y) X closed p q Wire.catenation_over = closed _ _ Empty.catenation_over
  wires_origin (catenation x y) X closed p q Wire.catenation_out = closed _ _ Empty.catenation_out
  wires_origin (union x y) X closed p q Wire.union_in_left = closed _ _ Empty.union_in_left
  wires_origin (union x y) X closed p q Wire.union_in_right = closed _ _ Empty.union_in_right
  wires_origin (union x y) X closed p q Wire.union_out_left = closed _ _ Empty.union_out_left
  wires_origin (union x y) X closed p q Wire.union_out_right = closed _ _ Empty.union_out_right
  wires_origin (star x) X closed p q Wire.star_in = closed _ _ Empty.star_in
  wires_origin (star x) X closed p q Wire.star_past = closed _ _ Empty.star_past
  wires_origin (star x) X closed p q Wire.star_out = closed _ _ Empty.star_out
  wires_origin (star x) X closed p q Wire.star_back = closed _ _ Empty.star_back
  wires_origin (below x) X closed p q Wire.pass_down = λ m. m
  wires_origin (below x) X closed p q Wire.pass_up = λ m. m

  -- so the copies of a closed set are settled
  pub origin_settled : (x : Nested A) (X : States) → SettledBy (Empty M (whole x)) X
      → Settled M x (λ q. X (origin x q))
  origin_settled (leaf a) X closed = wires_origin (leaf a) X closed
  origin_settled (catenation x y) X closed = (
    wires_origin (catenation x y) X closed,
    origin_settled x (λ p. X (left p)) (λ p q e. closed _ _ (Empty.catenation_left e)),
    origin_settled y (λ p. X (right p)) (λ p q e. closed _ _ (Empty.catenation_right e)),
  )
  origin_settled (union x y) X closed = (
    wires_origin (union x y) X closed,
    origin_settled x (λ p. X (left p)) (λ p q e. closed _ _ (Empty.union_left e)),
    origin_settled y (λ p. X (right p)) (λ p q e. closed _ _ (Empty.union_right e)),
  )
  origin_settled (star x) X closed =
      (wires_origin (star x) X closed, origin_settled x (λ p. X (left p)) (λ p q e. closed _ _ (Empty.star_inside e)))
  origin_settled (below x) X closed = (wires_origin (below x) X closed, origin_settled x X closed)
