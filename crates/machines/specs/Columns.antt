-- The columns of a table: bytes that no leaf tells apart share one.
use Rattle.std.specs.Prelude.{ℕ, ◌≤◌, ◌<◌, ◌≡◌, List, length, get_or}
use Rattle.language.specs.Tree.{Tree}
use Rattle.language.specs.TakenAsOne.{NotToldApart}
use Rattle.tree.specs.Leaf.{Leaf, meaning}

-- how many bytes there are
abbrev pub byte_count : ℕ
byte_count = 256

-- `firsts` are the bytes that no leaf tells apart from no lesser byte, in their order; `columns` has for each byte the
-- number of the first that it is not told apart from
pub record Columned (classes : List ℕ) (t : Tree Leaf) (firsts columns : List ℕ) : Type 0 where
  pub all : length columns ≡ byte_count
  pub within : (b : ℕ) → b < byte_count → get_or columns b 0 < length firsts
  pub alike : (b : ℕ) → b < byte_count → NotToldApart (meaning classes) t (get_or firsts (get_or columns b 0) 0) b
  pub least : (b c : ℕ) → b < byte_count → NotToldApart (meaning classes) t c b
      → get_or firsts (get_or columns b 0) 0 ≤ c
  pub bytes : (i : ℕ) → i < length firsts → get_or firsts i 0 < byte_count
  pub own : (i : ℕ) → i < length firsts → get_or columns (get_or firsts i 0) 0 ≡ i
  pub ordered : (i j : ℕ) → i < j → j < length firsts → get_or firsts i 0 < get_or firsts j 0
