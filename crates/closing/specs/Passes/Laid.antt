-- That the row of a piece is that of its tree, for one piece and for all of them.
use Rattle.std.specs.Prelude.{ℕ, ◌+◌, ◌≤◌, List}
use Rattle.language.specs.Nested.{Nested, leaf, catenation, union, star, below}
use Rattle.tree.specs.Limits.{most_states}
use Rattle.tree.specs.Leaf.{Leaf}
use Rattle.tree.specs.Parts.{EveryBelow}
use Rattle.tables.specs.Words.{width, run}
use Rattle.tables.specs.Plan.{codes_of, RowOf, PieceAt, ChildrenAt, Planned}

-- the row of the piece k says what the codes of x's top piece say
pub record Lays (rows : List ℕ) (x : Nested Leaf) (k : ℕ) : Type 0 where
  pub coded : RowOf rows (codes_of x 0 0) k (width x)

-- so does the row of each child piece below x; they are numbered from new
abbrev pub LaysBelow : List ℕ → Nested Leaf → ℕ → Type 0
LaysBelow rows (leaf a) new = Unit {0}
LaysBelow rows (catenation x y) new = LaysBelow rows x new × LaysBelow rows y (new + run x)
LaysBelow rows (union x y) new = LaysBelow rows x new × LaysBelow rows y (new + run x)
LaysBelow rows (star x) new = LaysBelow rows x new
LaysBelow rows (below x) new = Lays rows x new × LaysBelow rows x (new + 1)

-- so does that of each piece of x, whose top piece is 0
abbrev pub LaysEach : List ℕ → Nested Leaf → Type 0
LaysEach rows x = Lays rows x 0 × LaysBelow rows x 1

-- each child piece below x, and each below that, has at most 62 states
abbrev pub NarrowBelow : Nested Leaf → Type 0
NarrowBelow x = EveryBelow (λ y. width y ≤ most_states) x

-- a piece of which the rows speak
pub lays : {rows : List ℕ} {x : Nested Leaf} {k : ℕ} → PieceAt rows x k → Lays rows x k
lays at = record { coded = at.coded }

-- the child pieces of which it speaks
pub lays_below : (rows : List ℕ) (x : Nested Leaf) (i new : ℕ) → ChildrenAt rows x i new → LaysBelow rows x new
lays_below rows (leaf a) i new at = tt
lays_below rows (catenation x y) i new at = (
  lays_below rows x (i + 1) new at.0,
  lays_below rows y (i + (1 + width x)) (new + run x) at.1,
)
lays_below rows (union x y) i new at = (
  lays_below rows x (i + 1) new at.0,
  lays_below rows y (i + (1 + width x)) (new + run x) at.1,
)
lays_below rows (star x) i new at = lays_below rows x (i + 1) new at
lays_below rows (below x) i new at = (lays at.1, lays_below rows x 0 (new + 1) at.2)

-- all pieces
pub lays_each : (rows : List ℕ) (x : Nested Leaf) → Planned rows x → LaysEach rows x
lays_each rows x at = (lays at.0, lays_below rows x 0 1 at.1)
