-- The places in a list of records, apart from all else that it holds: a list without its places, the same list with
-- other places, and what a record is but for its place.
use Rattle.std.specs.Prelude.{ℕ, suc, ◌+◌, ◌*◌, ◌%◌, ◌/◌, ◌≤◌, ◌≡◌, Bool, cond, List, [], ◌∷◌, eqb, length}
use Rattle.std.proofs.lemmas.List.Edits.{sets}
use Rattle.tree.specs.Limits.{most_place}
use Rattle.tree.specs.Layout.{record_size, two_bytes, record_at, place_at}

-- whether byte i of a list of records holds a part of a place: bytes 8 and 9 of a record do
abbrev pub holds_place : (i : ℕ) → Bool
holds_place i = eqb (i % record_size / 2) 4

-- the bytes from byte i on, with 0 for those of places
abbrev pub bare_from : (i : ℕ) → List ℕ → List ℕ
bare_from i [] = []
bare_from i (byte ∷ rest) = cond (holds_place i) 0 byte ∷ bare_from (suc i) rest

-- the list with place 0 in every record
unfoldable pub bare : List ℕ → List ℕ
bare list = bare_from 0 list

-- the list with these places in its records from record r on
abbrev pub placed_from : (r : ℕ) → (places list : List ℕ) → List ℕ
placed_from r [] list = list
placed_from r (place ∷ places) list = placed_from (suc r) places (sets list (record_size * r + 8) (two_bytes place))

-- the list with these places in its records: the r-th in bytes 8-9 of record r, and nothing else changed
abbrev pub with_places : (places list : List ℕ) → List ℕ
with_places places list = placed_from 0 places list

-- every record's place is at most 1,023
pub record LowPlaces (list : List ℕ) : Type 0 where
  pub each : (r : ℕ) → record_size * r + record_size ≤ length list → place_at list r ≤ most_place

-- record r of the list is this one but for its place, which is at most 1,023
pub record IsRecord (list : List ℕ) (r : ℕ) (bytes : List ℕ) : Type 0 where
  pub same : record_at (bare list) r ≡ bytes
  pub placed : place_at list r ≤ most_place
