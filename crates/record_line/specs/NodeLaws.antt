-- How long the parts of a record's line can be.
use Rattle.std.specs.Prelude.{ℕ, ◌+◌, ◌*◌, ◌-◌, ◌≤◌, ◌<◌, ◌≡◌, refl, Bool, true, false, cond, List, [], ◌∷◌, length, get_or, ltb}
use Rattle.std.proofs.Common.{ap, arith, length-append, le-ltb}
use Rattle.tree.specs.Layout.{number_at, kind_at, character_at, left_at, right_at, piece_at, place_at}
use Rattle.tree.specs.Limits.{most_records}
use Rattle.operands.specs.Text.{bytes}
use Rattle.printing.specs.Digits.{digits}
use Rattle.printing.specs.DigitLaws.{digits_length}
use Rattle.showing.specs.Shown.{printable, shown_byte, shown_width, shown, spaces}
use Rattle.showing.specs.ShownLaws.{plain_byte, coded_byte, spaces_length}
use Rattle.record_line.specs.Depth.{most_level, level}
use Rattle.record_line.specs.Node.{
  column,
  column_width,
  most_number,
  kind_word,
  most_word,
  pair,
  holds,
  most_held,
  numbers_of,
  node_of,
  record_line,
  most_line,
}

-- a record of a kind past a class holds nothing
pub holds_nothing : (list : List ℕ) (i : ℕ) → 6 ≤ kind_at list i → holds list i ≡ []
unfolding holds
holds_nothing list i k =
    rw (le-ltb (kind_at list i) 2 (omega arith), le-ltb (kind_at list i) 4 (omega arith), le-ltb (kind_at list i) 6 k)
    refl

-- each element of a list is a byte
abbrev pub AllBytes : List ℕ → Type 0
AllBytes list = (i : ℕ) → get_or list i 0 < 256

-- then two of them hold a number below 65,536
pub number_small : (list : List ℕ) → AllBytes list → (at : ℕ) → number_at list at < most_number
number_small list small at = omega (arith, small at, small (at + 1))

-- so the fields of a record are small
pub left_small : (list : List ℕ) → AllBytes list → (i : ℕ) → left_at list i < most_number
left_small list small i = number_small list small _

pub right_small : (list : List ℕ) → AllBytes list → (i : ℕ) → right_at list i < most_number
right_small list small i = number_small list small _

pub piece_small : (list : List ℕ) → AllBytes list → (i : ℕ) → piece_at list i < most_number
piece_small list small i = number_small list small _

pub place_small : (list : List ℕ) → AllBytes list → (i : ℕ) → place_at list i < most_number
place_small list small i = number_small list small _

-- a byte takes a column or four
pub record Wide (byte : ℕ) : Type 0 where
  pub some : 1 ≤ shown_width byte
  pub most : shown_width byte ≤ 4

pub wide : (byte : ℕ) → Wide byte
wide byte = either (printable byte) refl
  where
    either : (test : Bool) → printable byte ≡ test → Wide byte
    either true e =
        let one = ap length (plain_byte byte e) in
        record { some = omega (arith, one); most = omega (arith, one) }
    either false e =
        let four = ap length (coded_byte byte e) in
        record { some = omega (arith, four); most = omega (arith, four) }

-- bytes take four columns each at most
pub shown_length : (bytes : List ℕ) → length (shown bytes) ≤ 4 * length bytes
unfolding shown
shown_length [] = omega arith
shown_length (b ∷ rest) =
    rw (length-append (shown_byte b) (shown rest)) (omega (arith, (wide b).most, shown_length rest))

-- a number's digits
pub five : (n : ℕ) → n < most_number → length (digits n) ≤ 5
five n h = digits_length 4 n (omega arith)

-- a column is as wide as it is meant to be
pub column_length : (n : ℕ) → n < most_number → length (column n) ≡ column_width
unfolding column
column_length n h =
    rw (
      length-append (digits n) (spaces (column_width - length (digits n))),
      spaces_length (column_width - length (digits n)),
    )
    (omega (arith, five n h))

-- the words
pub kind_word_length : (kind : ℕ) → length (kind_word kind) ≤ most_word
unfolding kind_word
kind_word_length kind = go (ltb kind 2) (ltb kind 3) (ltb kind 4) (ltb kind 5) (ltb kind 6)
  where
    go : (a b c d e : Bool)
        → length (cond a (bytes "character ")
        (cond b (bytes "catenation of ")
        (cond c (bytes "union of ") (cond d (bytes "star of ") (cond e (bytes "class ") (bytes "empty text")))))) ≤ 14
    go true b c d e = omega arith
    go false true c d e = omega arith
    go false false true d e = omega arith
    go false false false true e = omega arith
    go false false false false true = omega arith
    go false false false false false = omega arith

-- the numbers of two children
pub pair_length : (left right : ℕ) → left < most_number → right < most_number → length (pair left right) ≤ most_held
unfolding pair
pair_length left right h k = simp length-append (omega (arith, five left h, five right k))

-- what a record holds
pub holds_length : (list : List ℕ) → AllBytes list → (i : ℕ) → length (holds list i) ≤ most_held
unfolding holds
holds_length list small i = go (ltb (kind_at list i) 2) (ltb (kind_at list i) 4) (ltb (kind_at list i) 6)
  where
    go : (a b c : Bool)
        → length (cond a (shown_byte (character_at list i))
        (cond b (pair (left_at list i) (right_at list i)) (cond c (digits (left_at list i)) []))) ≤ 15
    go true b c = omega (arith, (wide (character_at list i)).most)
    go false true c =
        pair_length (left_at list i) (right_at list i) (left_small list small i) (right_small list small i)
    go false false true = omega (arith, five (left_at list i) (left_small list small i))
    go false false false = omega arith

-- the three numbers
pub numbers_length : (list : List ℕ) → AllBytes list → (i : ℕ) → i < most_records
    → length (numbers_of list i) ≡ 3 * column_width
unfolding numbers_of
numbers_length list small i few =
    simp length-append
    (omega (
      arith,
      column_length i (omega arith),
      column_length (piece_at list i) (piece_small list small i),
      column_length (place_at list i) (place_small list small i),
    ))

-- what it is and what it holds
pub node_length : (list : List ℕ) → AllBytes list → (i : ℕ) → length (node_of list i) ≤ 30
unfolding node_of
node_length list small i =
    simp length-append (omega (arith, kind_word_length (kind_at list i), holds_length list small i))

-- the whole line
pub line_length : (list : List ℕ) → AllBytes list → (i level : ℕ) → i < most_records → level ≤ most_level
    → length (record_line list i level) + 1 ≤ most_line
unfolding record_line
line_length list small i level few low =
    simp length-append
    (omega (arith, numbers_length list small i few, node_length list small i, spaces_length (2 * level)))
