-- Two lists that differ only in their places, all of them at most 1,023: the same trees are theirs, and start and step
-- answer alike on both, with every word.
use Rattle.std.specs.Prelude.{ℕ, ◌≡◌, List}
use Rattle.tree.specs.Places.{bare, LowPlaces}

-- the two lists are the same but for their places, and no place is above 1,023
pub record SameButPlaces (one other : List ℕ) : Type 0 where
  pub same : bare one ≡ bare other
  pub one_low : LowPlaces one
  pub other_low : LowPlaces other
