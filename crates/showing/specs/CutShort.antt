-- The line of an expression, cut round a place where it is too long, and the line with the caret under that place.
use Rattle.std.specs.Prelude.{ℕ, zero, suc, ◌+◌, ◌-◌, Bool, cond, List, [], ◌∷◌, ◌++◌, length, get_or, drop, ltb, eqb}
use Rattle.operands.specs.Text.{bytes as letters}
use Rattle.input.specs.Part.{part}
use Rattle.showing.specs.Shown.{shown_width, shown, spaces}

-- how many columns a line has at most
abbrev pub most_columns : ℕ
most_columns = 78

-- how many columns are shown on each side of the place, where not all is
abbrev pub side_columns : ℕ
side_columns = 36

-- how many bytes from the front on take at most `room` columns together
unfoldable pub fitting : (room : ℕ) → List ℕ → ℕ
fitting room [] = 0
fitting room (b ∷ rest) = cond (ltb room (shown_width b)) 0 (suc (fitting (room - shown_width b) rest))

-- where the longest part before the place begins that takes at most `room` columns
unfoldable pub cut_begins : List ℕ → (room place : ℕ) → ℕ
cut_begins bytes room zero = 0
cut_begins bytes room (suc place) =
    cond (ltb room (shown_width (get_or bytes place 0))) (suc place)
    (cut_begins bytes (room - shown_width (get_or bytes place 0)) place)

-- whether all bytes fit in a line
abbrev pub fits_whole : List ℕ → Bool
fits_whole bytes = eqb (fitting most_columns bytes) (length bytes)

-- what is shown begins here: at the front, or 36 columns before the place
unfoldable pub cut_start : List ℕ → (place : ℕ) → ℕ
cut_start bytes place = cond (fits_whole bytes) 0 (cut_begins bytes side_columns place)

-- and ends here: at the end, or 36 columns after the place
unfoldable pub cut_end : List ℕ → (place : ℕ) → ℕ
cut_end bytes place = cond (fits_whole bytes) (length bytes) (place + fitting side_columns (drop place bytes))

-- three dots where something is left out
abbrev pub dots : Bool → List ℕ
dots cut = cond cut (letters "...") []

-- what is shown before the place
unfoldable pub before_place : List ℕ → (place : ℕ) → List ℕ
before_place bytes place = dots (ltb 0 (cut_start bytes place)) ++ shown (part (cut_start bytes place) place bytes)

-- and from the place on
unfoldable pub from_place : List ℕ → (place : ℕ) → List ℕ
from_place bytes place =
    shown (part place (cut_end bytes place) bytes) ++ dots (ltb (cut_end bytes place) (length bytes))

-- the place, or the end where it lies past that
abbrev pub caret_place : List ℕ → (place : ℕ) → ℕ
caret_place bytes place = cond (ltb (length bytes) place) (length bytes) place

-- the two lines, for a place that is not past the end
abbrev pub marked_at : List ℕ → (place : ℕ) → List ℕ
marked_at bytes place =
    before_place bytes place ++ from_place bytes place ++ letters "\n" ++ spaces (length (before_place bytes place))
    ++ letters "^\n"

-- the line of the expression, and the line with the caret
unfoldable pub marked_lines : List ℕ → (place : ℕ) → List ℕ
marked_lines bytes place = marked_at bytes (caret_place bytes place)

-- the two lines never have more bytes than this
abbrev pub most_marked : ℕ
most_marked = 159
