-- The layout of a record before there were places. It stands here alone:
--   byte 0 the kind · byte 1 the character · bytes 2-3 the left or only child, or the number of a class · bytes 4-5 the
--   right child · bytes 6-7 the piece: the first eight bytes of a record today.
use Rattle.std.specs.Prelude.{ℕ, zero, suc, ◌+◌, ◌*◌, ◌/◌, ◌%◌, ◌≤◌, ◌≡◌, cond, List, [], ◌∷◌, ◌++◌, ltb, length, get_or}
use Rattle.language.specs.Tree.{Tree, nodes}
use Rattle.tree.specs.Leaf.{Leaf}
use Rattle.tree.specs.Limits.{most_pieces}
use Rattle.tree.specs.Layout.{record_size}
use Rattle.tree.specs.Records.{encode, piece_count, Ranked, Good}

-- how many bytes a record had
abbrev pub old_record_size : ℕ
old_record_size = 8

-- how many records an old list has
abbrev pub old_records : List ℕ → ℕ
old_records old = length old / old_record_size

-- byte j of the wide list: the first eight bytes of a record are those of the old record, the last four are 0
abbrev pub wide_byte : (old : List ℕ) → (j : ℕ) → ℕ
wide_byte old j =
    cond (ltb (j % record_size) old_record_size) (get_or old (old_record_size * (j / record_size) + j % record_size) 0) 0

-- its first n bytes
abbrev pub wide_bytes : (old : List ℕ) → (n : ℕ) → List ℕ
wide_bytes old zero = []
wide_bytes old (suc n) = wide_bytes old n ++ (wide_byte old n ∷ [])

-- the wide list: the records of an old list in today's layout, each with the place 0
unfoldable pub widened : List ℕ → List ℕ
widened old = wide_bytes old (record_size * old_records old)

-- an old list is good, and t is its tree: it has whole records, and the wide list is good with this tree
pub record GoodOld (old : List ℕ) (t : Tree Leaf) : Type 0 where
  pub whole : length old % old_record_size ≡ 0
  pub wide : Good (widened old) t

-- byte j of the old list, in today's
abbrev pub narrow_byte : (list : List ℕ) → (j : ℕ) → ℕ
narrow_byte list j = get_or list (record_size * (j / old_record_size) + j % old_record_size) 0

-- its first n bytes
abbrev pub narrow_bytes : (list : List ℕ) → (n : ℕ) → List ℕ
narrow_bytes list zero = []
narrow_bytes list (suc n) = narrow_bytes list n ++ (narrow_byte list n ∷ [])

-- the old list of a tree: the first eight bytes of each of its records
abbrev pub old_encode : Tree Leaf → List ℕ
old_encode t = narrow_bytes (encode t) (old_record_size * nodes t)

-- what a good list was in the old layout: the old list of t, with at most 128 pieces, and classes numbered by their
-- rank
pub record OldList (old : List ℕ) (t : Tree Leaf) : Type 0 where
  pub of_tree : old ≡ old_encode t
  pub few : piece_count t ≤ most_pieces
  pub ranked : Ranked t
