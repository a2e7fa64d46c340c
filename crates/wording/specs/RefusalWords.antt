-- A refusal in words.
use Rattle.std.specs.Prelude.{ℕ, List, [], ◌∷◌, ◌++◌, get_or}
use Rattle.operands.specs.Text.{bytes}
use Rattle.printing.specs.Digits.{digits}

-- the words for a number that no refusal has
abbrev pub no_words : List ℕ
no_words = bytes "no such refusal"

-- the words, from number 0 on
unfoldable pub all_refusal_words : List (List ℕ)
all_refusal_words =
    no_words
    ∷ bytes "the expression is empty"
    ∷ bytes "the expression has more than 1,024 bytes"
    ∷ bytes "a character, a class or a group has to begin here"
    ∷ bytes "this group is not closed"
    ∷ bytes "no group is open for this ) to close"
    ∷ bytes "more than 32 groups stand one inside the other"
    ∷ bytes "a \\ has to stand before a sign"
    ∷ bytes "too large: the tree has more than 128 pieces"
    ∷ bytes "the buffer is too short"
    ∷ bytes "the list of records is not a good one"
    ∷ bytes "the text has more than 65,536 bytes"
    ∷ bytes "fewer words are lent than the list has pieces"
    ∷ bytes "the words are no marks of this list"
    ∷ bytes "this is no class of the form [a-z] or [^a-z]"
    ∷ bytes "the buffer for the classes is too short"
    ∷ bytes "this is no count of the form {2,4}"
    ∷ bytes "too large: the tree has more than 2,047 nodes"
    ∷ []

-- the words for a refusal's number
unfoldable pub words : (number : ℕ) → List ℕ
words number = get_or all_refusal_words number no_words

-- none has more bytes than this
abbrev pub most_words : ℕ
most_words = 52

-- the line of a refusal: its number, its place and its words
unfoldable pub told_line : (number place : ℕ) → List ℕ
told_line number place =
    bytes "refused " ++ digits number ++ bytes " at " ++ digits place ++ bytes ": " ++ words number ++ bytes "\n"

-- it never has more bytes than this, for a number that is a byte and a place of 64 bits
abbrev pub most_told : ℕ
most_told = 90
