-- What is made of a list once, before any byte is read: a row of words for each piece, which says where
-- its states, its leaves and its child pieces are.
use Rattle.std.specs.Prelude.{ℕ, ◌+◌, ◌*◌, ◌-◌, ◌/◌, ◌%◌, ◌^◌, ◌<◌, ◌≡◌, cond, ◌↔◌, List, [], ◌∷◌, ◌++◌, get_or}
use Rattle.language.specs.Automaton.{State, PathOf}
use Rattle.language.specs.Nested.{Nested, leaf, catenation, union, star, below, OwnEmpty, OwnReads}
use Rattle.tree.specs.Leaf.{Leaf, character, class, empty_text, has_empty, meaning, byteless}
use Rattle.tables.specs.Words.{word_bits, Bit, width, run, Own, number}

-- the code of a state says in its two lowest bits where empty transitions lead from it. Bit 0: to the next state
abbrev pub leads_on : ℕ
leads_on = 1

-- bit 1: they jump to the state whose number stands above the two bits
abbrev pub jumps_to : ℕ → ℕ
jumps_to target = 4 * target + 2

-- both bits: one leads to the next state, and one jumps
abbrev pub leads_and_jumps : ℕ → ℕ
leads_and_jumps target = 4 * target + 3

-- a state with this code leads to the next one
abbrev pub LeadsOn : ℕ → Type 0
LeadsOn code = code % 2 ≡ 1

-- a state with this code jumps
abbrev pub Jumps : ℕ → Type 0
Jumps code = code / 2 % 2 ≡ 1

-- a state with this code is the start of a leaf that may take a byte
abbrev pub IsLeaf : ℕ → Type 0
IsLeaf code = (code % 4 ≡ 0) × (code ≡ 0 → ⊥)

-- a leaf's number: even and not 0 for a character, odd for a class, so that it gives back its leaf; 0 for the leaf of
-- the empty text, which takes no byte
abbrev pub start_code : Leaf → ℕ
start_code (character c) = 2 * (c + 1)
start_code (class k) = 2 * k + 1
start_code empty_text = 0

-- the code of a leaf's start: it leads on where the leaf has the empty text, else the leaf's number stands above the
-- two bits, which are 0
abbrev pub leaf_code : Leaf → ℕ
leaf_code a = cond (has_empty a) leads_on (4 * start_code a)

-- the codes of the states of x's own part of its piece, numbered from i, in the order of the numbers. `exit` is the
-- code of x's accepting state. A stand-in's start has the code 0: no empty transition leads from it and it reads no
-- byte
abbrev pub codes_of : Nested Leaf → ℕ → ℕ → List ℕ
codes_of (leaf a) i exit = leaf_code a ∷ exit ∷ []
codes_of (catenation x y) i exit =
    leads_on ∷ (codes_of x (i + 1) leads_on ++ codes_of y (i + (1 + width x)) leads_on ++ (exit ∷ []))
codes_of (union x y) i exit =
    leads_and_jumps (i + (1 + width x)) ∷ (codes_of x (i + 1) (jumps_to (i + (1 + width x + width y)))
    ++ codes_of y (i + (1 + width x)) leads_on ++ (exit ∷ []))
codes_of (star x) i exit =
    leads_and_jumps (i + (1 + width x)) ∷ (codes_of x (i + 1) (leads_and_jumps (i + 1)) ++ (exit ∷ []))
codes_of (below x) i exit = 0 ∷ exit ∷ []

-- the numbers of the leaves: a leaf's at its start, else 0, which is no number of a leaf that takes a byte: a stand-in
-- reads none
abbrev pub takes : Nested Leaf → List ℕ
takes (leaf a) = start_code a ∷ 0 ∷ []
takes (catenation x y) = 0 ∷ (takes x ++ takes y ++ (0 ∷ []))
takes (union x y) = 0 ∷ (takes x ++ takes y ++ (0 ∷ []))
takes (star x) = 0 ∷ (takes x ++ (0 ∷ []))
takes (below x) = 0 ∷ 0 ∷ []

-- the codes of one piece are made in so many entries: one for each bit of a word
abbrev pub row_size : ℕ
row_size = word_bits

-- how many words the row of a piece has
abbrev pub row_words : ℕ
row_words = 13

-- word j of the row of the piece k
abbrev pub word_of : List ℕ → (k j : ℕ) → ℕ
word_of rows k j = get_or rows (row_words * k + j) 0

-- words 0 to 3: the states that lead to the next one, those that jump, the starts of leaves that may take a byte, and
-- those of them that are starts of classes
abbrev pub leads_mask : List ℕ → ℕ → ℕ
leads_mask rows k = word_of rows k 0

abbrev pub jumps_mask : List ℕ → ℕ → ℕ
jumps_mask rows k = word_of rows k 1

abbrev pub leaves_mask : List ℕ → ℕ → ℕ
leaves_mask rows k = word_of rows k 2

abbrev pub classes_mask : List ℕ → ℕ → ℕ
classes_mask rows k = word_of rows k 3

-- word 4, a byte for each: how many pieces it and those below it are, the number of its stand-in's start in its parent,
-- and the number of its last state
abbrev pub run_of : List ℕ → ℕ → ℕ
run_of rows k = word_of rows k 4 % 256

abbrev pub stand_of : List ℕ → ℕ → ℕ
stand_of rows k = word_of rows k 4 / 256 % 256

abbrev pub top_of : List ℕ → ℕ → ℕ
top_of rows k = word_of rows k 4 / 65536 % 256

-- words 5 to 12: a byte for each state, eight to a word, from the low end
abbrev pub byte_of : List ℕ → (k i : ℕ) → ℕ
byte_of rows k i = word_of rows k (5 + i / 8) / 2 ^ (8 * (i % 8)) % 256

-- the six low bits of a byte are the number of the state that its state jumps to
abbrev pub target_of : List ℕ → (k i : ℕ) → ℕ
target_of rows k i = byte_of rows k i % word_bits

-- a leaf does not jump from its start, whose byte is its character, or the low byte of its class's number, of which the
-- two high bits stand above the jump of the next state
abbrev pub class_of : List ℕ → (k i : ℕ) → ℕ
class_of rows k i = byte_of rows k i + 256 * (byte_of rows k (i + 1) / word_bits)

-- the code is that of a class's start: its leaf's number is odd
abbrev pub IsClass : ℕ → Type 0
IsClass code = IsLeaf code × (code / 4 % 2 ≡ 1)

-- the row of the piece k says of its n states what their codes say
pub record RowOf (rows codes : List ℕ) (k n : ℕ) : Type 0 where
  pub leading : (i : ℕ) → Bit (leads_mask rows k) i ↔ ((i < n) × LeadsOn (get_or codes i 0))
  pub jumping : (i : ℕ) → Bit (jumps_mask rows k) i ↔ ((i < n) × Jumps (get_or codes i 0))
  pub leaves : (i : ℕ) → Bit (leaves_mask rows k) i ↔ ((i < n) × IsLeaf (get_or codes i 0))
  pub classes : (i : ℕ) → Bit (classes_mask rows k) i ↔ ((i < n) × IsClass (get_or codes i 0))
  pub target : (i : ℕ) → i < n → Jumps (get_or codes i 0) → target_of rows k i ≡ get_or codes i 0 / 4
  pub character : (i : ℕ) → i < n → IsLeaf (get_or codes i 0) → (IsClass (get_or codes i 0) → ⊥)
      → 2 * (byte_of rows k i + 1) ≡ get_or codes i 0 / 4
  pub class : (i : ℕ) → i < n → IsClass (get_or codes i 0) → 2 * class_of rows k i + 1 ≡ get_or codes i 0 / 4

-- the rows speak of the piece k, which is the top piece of x
pub record PieceAt (rows : List ℕ) (x : Nested Leaf) (k : ℕ) : Type 0 where
  pub coded : RowOf rows (codes_of x 0 0) k (width x)
  pub ran : run_of rows k ≡ 1 + run x
  pub topped : top_of rows k ≡ width x - 1

-- the rows speak of each child piece below x; x's own states are numbered from i, and the child pieces below it from
-- new
abbrev pub ChildrenAt : List ℕ → Nested Leaf → (i new : ℕ) → Type 0
ChildrenAt rows (leaf a) i new = Unit {0}
ChildrenAt rows (catenation x y) i new = ChildrenAt rows x (i + 1) new
    × ChildrenAt rows y (i + (1 + width x)) (new + run x)
ChildrenAt rows (union x y) i new = ChildrenAt rows x (i + 1) new
    × ChildrenAt rows y (i + (1 + width x)) (new + run x)
ChildrenAt rows (star x) i new = ChildrenAt rows x (i + 1) new
ChildrenAt rows (below x) i new = (stand_of rows new ≡ i) × PieceAt rows x new × ChildrenAt rows x 0 (new + 1)

-- the rows speak of every piece of x, whose top piece is 0
abbrev pub Planned : List ℕ → Nested Leaf → Type 0
Planned rows x = PieceAt rows x 0 × ChildrenAt rows x 0 1

-- r is the word w of x's top piece, closed: its states that empty transitions of its own tree reach from the states of
-- w
pub record Closes (x : Nested Leaf) (w r : ℕ) : Type 0 where
  pub exactly : (q : State) → Own x q
      → Bit r (number x q) ↔ ((p : State) × Own x p × Bit w (number x p) × PathOf (OwnEmpty byteless x) p q)
  pub clean : r < 2 ^ width x

-- r is the word w of x's top piece, moved along the byte b
pub record Moves (classes : List ℕ) (x : Nested Leaf) (b w r : ℕ) : Type 0 where
  pub exactly : (q : State) → Own x q
      → Bit r (number x q) ↔ ((p : State) × Own x p × Bit w (number x p) × OwnReads (meaning classes) b x p q)
  pub clean : r < 2 ^ width x
