-- The layout of a tree record. No other file of definitions knows which byte holds what:
--   byte 0 the kind · byte 1 the character · bytes 2-3 the left or only child, or the number of a class · bytes 4-5 the
-- right child · bytes 6-7 the piece · bytes 8-9 the place in the expression · bytes 10-11 zero; numbers little-endian.
use Rattle.std.specs.Prelude.{ℕ, zero, suc, ◌+◌, ◌*◌, ◌%◌, ◌/◌, ◌≡◌, cond, eqb, List, [], ◌∷◌, ◌++◌, get_or, take, drop}

-- how many bytes a record has
abbrev pub record_size : ℕ
record_size = 12

-- the kinds of a record
abbrev pub character_kind : ℕ
character_kind = 1

abbrev pub catenation_kind : ℕ
catenation_kind = 2

abbrev pub union_kind : ℕ
union_kind = 3

abbrev pub star_kind : ℕ
star_kind = 4

abbrev pub class_kind : ℕ
class_kind = 5

abbrev pub empty_kind : ℕ
empty_kind = 6

-- how many bytes a class record has: a bit for each value of a byte
abbrev pub class_record_size : ℕ
class_record_size = 32

-- what stands in the place of a child's record number where there is no child
abbrev pub no_child : ℕ
no_child = 65535

-- the numbers that two bytes hold are below this
abbrev pub two_bytes_limit : ℕ
two_bytes_limit = 65536

-- a number in two bytes, the low one first
abbrev pub two_bytes : ℕ → List ℕ
two_bytes n = n % 256 ∷ n / 256 % 256 ∷ []

-- the last four bytes of a record: the place 0, and two bytes that are 0
abbrev pub no_place : List ℕ
no_place = 0 ∷ 0 ∷ 0 ∷ 0 ∷ []

-- the bytes of a record with the place 0: kind, character, left or only child, right child, piece
abbrev pub record_of : (kind character left right piece : ℕ) → List ℕ
record_of kind character left right piece =
    kind ∷ character ∷ (two_bytes left ++ two_bytes right ++ two_bytes piece ++ no_place)

-- kind and character of a record as one number: what its first two bytes hold
abbrev pub label_of : (kind character : ℕ) → ℕ
label_of kind character = kind + 256 * character

-- four numbers side by side, kind and character, left or only child, right child, piece; and the place 0
abbrev pub four_numbers : (first left right piece : ℕ) → List ℕ
four_numbers first left right piece =
    two_bytes first ++ two_bytes left ++ two_bytes right ++ two_bytes piece ++ no_place

-- the label of a class leaf, which tells its number: of no other kind is it 5 more than a multiple of 8
abbrev pub class_label : (number : ℕ) → ℕ
class_label number = class_kind + 8 * number

-- the bytes of a record that has this label: of a class leaf the children do not count
abbrev pub labelled_record : (label left right piece : ℕ) → List ℕ
labelled_record label left right piece =
    cond (eqb (label % 8) class_kind) (record_of class_kind 0 (label / 8) no_child piece)
    (four_numbers label left right piece)

-- the number in two bytes of a list, from the place `at` on
abbrev pub number_at : List ℕ → (at : ℕ) → ℕ
number_at list at = get_or list at 0 + 256 * get_or list (at + 1) 0

-- two bytes of a list hold this number
pub record HoldsNumber (list : List ℕ) (at n : ℕ) : Type 0 where
  pub low : get_or list at 0 ≡ n % 256
  pub high : get_or list (at + 1) 0 ≡ n / 256 % 256

-- the bytes of record r of a list
abbrev pub record_at : List ℕ → (r : ℕ) → List ℕ
record_at list r = take record_size (drop (record_size * r) list)

-- its fields: the kind
abbrev pub kind_at : List ℕ → (r : ℕ) → ℕ
kind_at list r = get_or list (record_size * r) 0

-- the character
abbrev pub character_at : List ℕ → (r : ℕ) → ℕ
character_at list r = get_or list (record_size * r + 1) 0

-- the record number of the left or only child
abbrev pub left_at : List ℕ → (r : ℕ) → ℕ
left_at list r = number_at list (record_size * r + 2)

-- the record number of the right child
abbrev pub right_at : List ℕ → (r : ℕ) → ℕ
right_at list r = number_at list (record_size * r + 4)

-- the number of the piece
abbrev pub piece_at : List ℕ → (r : ℕ) → ℕ
piece_at list r = number_at list (record_size * r + 6)

-- the place in the expression
abbrev pub place_at : List ℕ → (r : ℕ) → ℕ
place_at list r = number_at list (record_size * r + 8)

-- record r of a list has these fields
pub record Shows (list : List ℕ) (r kind character left right piece : ℕ) : Type 0 where
  pub kind_is : kind_at list r ≡ kind
  pub character_is : character_at list r ≡ character
  pub left_is : left_at list r ≡ left
  pub right_is : right_at list r ≡ right
  pub piece_is : piece_at list r ≡ piece

-- one for the kind of a class leaf's record
abbrev pub one_if_class : (kind : ℕ) → ℕ
one_if_class kind = cond (eqb kind class_kind) 1 0

-- how many of the first n records of a list are those of class leaves
abbrev pub class_records : List ℕ → (n : ℕ) → ℕ
class_records list zero = 0
class_records list (suc n) = class_records list n + one_if_class (kind_at list n)

-- the label of a record of this kind with `classes` class leaves before it: a class leaf has its rank for its number
abbrev pub label_with : (kind character classes : ℕ) → ℕ
label_with kind character classes = cond (eqb kind class_kind) (class_label classes) (label_of kind character)

-- the label that record r of a list asks for
abbrev pub label_at : List ℕ → (r : ℕ) → ℕ
label_at list r = label_with (kind_at list r) (character_at list r) (class_records list r)
