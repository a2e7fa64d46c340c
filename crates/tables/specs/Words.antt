-- How words hold marks: one word for each piece, one bit for each state of the piece's own tree.
use Rattle.std.specs.Prelude.{ℕ, ◌+◌, ◌/◌, ◌%◌, ◌^◌, ◌<◌, ◌≡◌, List, get_or, drop}
use Rattle.language.specs.Automaton.{State, start, accepting, left, right, States}
use Rattle.language.specs.Nested.{Nested, leaf, catenation, union, star, below, Has, origin}
-- how long the run of words below the top piece's word is: one word for each piece
pub use Rattle.tree.specs.Parts.{pieces_below as run}

-- how many bits a word has
abbrev pub word_bits : ℕ
word_bits = 64

-- bit i of w, counted from the low end, is set
abbrev pub Bit : ℕ → ℕ → Type 0
Bit w i = w / 2 ^ i % 2 ≡ 1

-- how many states the top piece has: two for each node, two for each stand-in
abbrev pub width : {A : Type 0} → Nested A → ℕ
width (leaf a) = 2
width (catenation x y) = 1 + width x + width y + 1
width (union x y) = 1 + width x + width y + 1
width (star x) = 1 + width x + 1
width (below x) = 2

-- which states are the top piece's own
abbrev pub Own : {A : Type 0} → Nested A → State → Type 0
Own x start = Unit {0}
Own x accepting = Unit {0}
Own (leaf a) (left q) = ⊥
Own (leaf a) (right q) = ⊥
Own (catenation x y) (left q) = Own x q
Own (catenation x y) (right q) = Own y q
Own (union x y) (left q) = Own x q
Own (union x y) (right q) = Own y q
Own (star x) (left q) = Own x q
Own (star x) (right q) = ⊥
Own (below x) (left q) = ⊥
Own (below x) (right q) = ⊥

-- the number of a state of the top piece: in a walk of its own tree a start is numbered on entry and an accepting state
-- on leaving, from 0
abbrev pub number : {A : Type 0} → Nested A → State → ℕ
number x start = 0
number (leaf a) accepting = 1
number (catenation x y) accepting = 1 + width x + width y
number (union x y) accepting = 1 + width x + width y
number (star x) accepting = 1 + width x
number (below x) accepting = 1
number (leaf a) (left q) = 0
number (leaf a) (right q) = 0
number (catenation x y) (left q) = 1 + number x q
number (catenation x y) (right q) = 1 + width x + number y q
number (union x y) (left q) = 1 + number x q
number (union x y) (right q) = 1 + width x + number y q
number (star x) (left q) = 1 + number x q
number (star x) (right q) = 0
number (below x) (left q) = 0
number (below x) (right q) = 0

-- which states are marked. In a walk of the piece's own tree a start is numbered on entry and an accepting state on
-- leaving: x's are numbered from i, and their bits stand in the word w. The words of the child pieces below x are at
-- the beginning of ws
abbrev pub Marked : {A : Type 0} → Nested A → ℕ → ℕ → List ℕ → States
Marked (leaf a) w i ws start = Bit w i
Marked (leaf a) w i ws accepting = Bit w (i + 1)
Marked (leaf a) w i ws (left q) = ⊥
Marked (leaf a) w i ws (right q) = ⊥
Marked (catenation x y) w i ws start = Bit w i
Marked (catenation x y) w i ws accepting = Bit w (i + (1 + width x + width y))
Marked (catenation x y) w i ws (left q) = Marked x w (i + 1) ws q
Marked (catenation x y) w i ws (right q) = Marked y w (i + (1 + width x)) (drop (run x) ws) q
Marked (union x y) w i ws start = Bit w i
Marked (union x y) w i ws accepting = Bit w (i + (1 + width x + width y))
Marked (union x y) w i ws (left q) = Marked x w (i + 1) ws q
Marked (union x y) w i ws (right q) = Marked y w (i + (1 + width x)) (drop (run x) ws) q
Marked (star x) w i ws start = Bit w i
Marked (star x) w i ws accepting = Bit w (i + (1 + width x))
Marked (star x) w i ws (left q) = Marked x w (i + 1) ws q
Marked (star x) w i ws (right q) = ⊥
Marked (below x) w i ws start = Bit w i
Marked (below x) w i ws accepting = Bit w (i + 1)
Marked (below x) w i ws (left q) = Marked x (get_or ws 0 0) 0 (drop 1 ws) q
Marked (below x) w i ws (right q) = ⊥

-- the marks that words hold: the top piece's word is the first
abbrev pub Holds : {A : Type 0} → Nested A → List ℕ → States
Holds x words = Marked x (get_or words 0 0) 0 (drop 1 words)

-- in the words of the child pieces below x, no bit past the last state is set
abbrev pub CleanBelow : {A : Type 0} → Nested A → List ℕ → Type 0
CleanBelow (leaf a) ws = Unit {0}
CleanBelow (catenation x y) ws = CleanBelow x ws × CleanBelow y (drop (run x) ws)
CleanBelow (union x y) ws = CleanBelow x ws × CleanBelow y (drop (run x) ws)
CleanBelow (star x) ws = CleanBelow x ws
CleanBelow (below x) ws = (get_or ws 0 0 < 2 ^ width x) × CleanBelow x (drop 1 ws)

-- no bit past the last state is set
abbrev pub Clean : {A : Type 0} → Nested A → List ℕ → Type 0
Clean x words = (get_or words 0 0 < 2 ^ width x) × CleanBelow x (drop 1 words)

-- the two bits of each shared state agree
abbrev pub Agreeing : {A : Type 0} → Nested A → List ℕ → Type 0
Agreeing x words = (p q : State) → Has x p → Has x q → origin x p ≡ origin x q → Holds x words p → Holds x words q

-- the set of states of the uncut automaton that the words hold
abbrev pub SetOf : {A : Type 0} → Nested A → List ℕ → States
SetOf x words p = (q : State) × Has x q × (origin x q ≡ p) × Holds x words q
