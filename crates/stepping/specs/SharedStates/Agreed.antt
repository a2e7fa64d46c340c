-- The two bits of each shared state agree exactly when, at every cut edge, the stand-in's two bits are those of the
-- child's start and accepting state.
use Rattle.std.specs.Prelude.{ℕ, ◌+◌, ◌≡◌, refl, ◌↔◌, List, get_or, drop}
use Rattle.std.proofs.Common.{ap, subst, zero-add}
use Rattle.std.proofs.Math.Logic.Iff
use Rattle.language.specs.Automaton.{State, start, accepting, left, right}
use Rattle.language.specs.Nested.{Nested, leaf, catenation, union, star, below, Has, origin}
use Rattle.tree.specs.Leaf.{Leaf}
use Rattle.tables.specs.Words.{Bit, width, run, number, Marked, Agreeing}
use Rattle.closing.specs.BitsOfWords.Spots.{bit_at}

-- states that may be equal, by how they begin
abbrev MayBeEqual : State → State → Type 0
MayBeEqual start start = Unit {0}
MayBeEqual start accepting = ⊥
MayBeEqual start (left q) = ⊥
MayBeEqual start (right q) = ⊥
MayBeEqual accepting start = ⊥
MayBeEqual accepting accepting = Unit {0}
MayBeEqual accepting (left q) = ⊥
MayBeEqual accepting (right q) = ⊥
MayBeEqual (left p) start = ⊥
MayBeEqual (left p) accepting = ⊥
MayBeEqual (left p) (left q) = p ≡ q
MayBeEqual (left p) (right q) = ⊥
MayBeEqual (right p) start = ⊥
MayBeEqual (right p) accepting = ⊥
MayBeEqual (right p) (left q) = ⊥
MayBeEqual (right p) (right q) = p ≡ q

-- each state may equal itself
alike_self : (p : State) → MayBeEqual p p
alike_self start = tt
alike_self accepting = tt
alike_self (left p) = refl
alike_self (right p) = refl

-- equal states begin alike
alike : {p q : State} → p ≡ q → MayBeEqual p q
alike {p} {q} e = subst (λ (s : State). MayBeEqual p s) e (alike_self p)

-- at every cut edge the two bits agree. x's states are numbered from i, their bits stand in w, and the words of the
-- child pieces in ws
abbrev pub Pairs : Nested Leaf → (w i : ℕ) → List ℕ → Type 0
Pairs (leaf a) w i ws = Unit {0}
Pairs (catenation x y) w i ws = Pairs x w (i + 1) ws × Pairs y w (i + (1 + width x)) (drop (run x) ws)
Pairs (union x y) w i ws = Pairs x w (i + 1) ws × Pairs y w (i + (1 + width x)) (drop (run x) ws)
Pairs (star x) w i ws = Pairs x w (i + 1) ws
Pairs (below x) w i ws =
    (Bit w i ↔ Bit (get_or ws 0 0) 0) × (Bit w (i + 1) ↔ Bit (get_or ws 0 0) (number x accepting))
    × Pairs x (get_or ws 0 0) 0 (drop 1 ws)

-- the start and the accepting state of x are marked by their own bits
marked_start : (x : Nested Leaf) (w i : ℕ) (ws : List ℕ) → Marked x w i ws start ↔ Bit w i
marked_start (leaf a) w i ws = (λ b. b, λ b. b)
marked_start (catenation x y) w i ws = (λ b. b, λ b. b)
marked_start (union x y) w i ws = (λ b. b, λ b. b)
marked_start (star x) w i ws = (λ b. b, λ b. b)
marked_start (below x) w i ws = (λ b. b, λ b. b)

-- the accepting state of x by its own bit
marked_accepting : (x : Nested Leaf) (w i : ℕ) (ws : List ℕ) → Marked x w i ws accepting
    ↔ Bit w (i + number x accepting)
marked_accepting (leaf a) w i ws = (λ b. b, λ b. b)
marked_accepting (catenation x y) w i ws = (λ b. b, λ b. b)
marked_accepting (union x y) w i ws = (λ b. b, λ b. b)
marked_accepting (star x) w i ws = (λ b. b, λ b. b)
marked_accepting (below x) w i ws = (λ b. b, λ b. b)

-- of a child piece: its own word is the first of ws
child_start : (x : Nested Leaf) (ws : List ℕ) → Marked x (get_or ws 0 0) 0 (drop 1 ws) start ↔ Bit (get_or ws 0 0) 0
child_start x ws = marked_start x (get_or ws 0 0) 0 (drop 1 ws)

-- a child piece's accepting state by its own word
child_accepting : (x : Nested Leaf) (ws : List ℕ) → Marked x (get_or ws 0 0) 0 (drop 1 ws) accepting
    ↔ Bit (get_or ws 0 0) (number x accepting)
child_accepting x ws =
    Iff.trans (marked_accepting x (get_or ws 0 0) 0 (drop 1 ws)) (bit_at (get_or ws 0 0) (zero-add (number x accepting)))

-- where the pairs agree, states that are one are marked alike: from one to the other the way goes over stand-ins
agree : (x : Nested Leaf) (w i : ℕ) (ws : List ℕ) → Pairs x w i ws → (p q : State) → Has x p → Has x q
    → MayBeEqual (origin x p) (origin x q)
    → Marked x w i ws p → Marked x w i ws q
agree (leaf a) w i ws pairs start start h k e m = m
agree (leaf a) w i ws pairs accepting accepting h k e m = m
agree (catenation x y) w i ws pairs start start h k e m = m
agree (catenation x y) w i ws pairs accepting accepting h k e m = m
agree (catenation x y) w i ws pairs (left p) (left q) h k e m = agree x w (i + 1) ws pairs.0 p q h k (alike e) m
agree (catenation x y) w i ws pairs (right p) (right q) h k e m =
    agree y w (i + (1 + width x)) (drop (run x) ws) pairs.1 p q h k (alike e) m
agree (union x y) w i ws pairs start start h k e m = m
agree (union x y) w i ws pairs accepting accepting h k e m = m
agree (union x y) w i ws pairs (left p) (left q) h k e m = agree x w (i + 1) ws pairs.0 p q h k (alike e) m
agree (union x y) w i ws pairs (right p) (right q) h k e m =
    agree y w (i + (1 + width x)) (drop (run x) ws) pairs.1 p q h k (alike e) m
agree (star x) w i ws pairs start start h k e m = m
agree (star x) w i ws pairs accepting accepting h k e m = m
agree (star x) w i ws pairs (left p) (left q) h k e m = agree x w (i + 1) ws pairs p q h k (alike e) m
agree (below x) w i ws pairs start start h k e m = m
agree (below x) w i ws pairs accepting accepting h k e m = m
agree (below x) w i ws pairs (left p) (left q) h k e m = agree x (get_or ws 0 0) 0 (drop 1 ws) pairs.2 p q h k e m
agree (below x) w i ws pairs start (left q) h k e m =
    agree x (get_or ws 0 0) 0 (drop 1 ws) pairs.2 start q tt k e ((child_start x ws).1 (pairs.0.0 m))
agree (below x) w i ws pairs accepting (left q) h k e m =
    agree x (get_or ws 0 0) 0 (drop 1 ws) pairs.2 accepting q tt k e ((child_accepting x ws).1 (pairs.1.0 m))
agree (below x) w i ws pairs (left p) start h k e m =
    pairs.0.1 ((child_start x ws).0 (agree x (get_or ws 0 0) 0 (drop 1 ws) pairs.2 p start h tt e m))
agree (below x) w i ws pairs (left p) accepting h k e m =
    pairs.1.1 ((child_accepting x ws).0 (agree x (get_or ws 0 0) 0 (drop 1 ws) pairs.2 p accepting h tt e m))
agree (leaf a) w i ws pairs start accepting h k e m = elim e [ ]
agree (leaf a) w i ws pairs start (left q) h k e m = elim k [ ]
agree (leaf a) w i ws pairs start (right q) h k e m = elim k [ ]
agree (leaf a) w i ws pairs accepting start h k e m = elim e [ ]
agree (leaf a) w i ws pairs accepting (left q) h k e m = elim k [ ]
agree (leaf a) w i ws pairs accepting (right q) h k e m = elim k [ ]
agree (leaf a) w i ws pairs (left p) q h k e m = elim h [ ]
agree (leaf a) w i ws pairs (right p) q h k e m = elim h [ ]
agree (catenation x y) w i ws pairs start accepting h k e m = elim e [ ]
agree (catenation x y) w i ws pairs start (left q) h k e m = elim e [ ]
agree (catenation x y) w i ws pairs start (right q) h k e m = elim e [ ]
agree (catenation x y) w i ws pairs accepting start h k e m = elim e [ ]
agree (catenation x y) w i ws pairs accepting (left q) h k e m = elim e [ ]
agree (catenation x y) w i ws pairs accepting (right q) h k e m = elim e [ ]
agree (catenation x y) w i ws pairs (left p) start h k e m = elim e [ ]
agree (catenation x y) w i ws pairs (left p) accepting h k e m = elim e [ ]
agree (catenation x y) w i ws pairs (left p) (right q) h k e m = elim e [ ]
agree (catenation x y) w i ws pairs (right p) start h k e m = elim e [ ]
agree (catenation x y) w i ws pairs (right p) accepting h k e m = elim e [ ]
agree (catenation x y) w i ws pairs (right p) (left q) h k e m = elim e [ ]
agree (union x y) w i ws pairs start accepting h k e m = elim e [ ]
agree (union x y) w i ws pairs start (left q) h k e m = elim e [ ]
agree (union x y) w i ws pairs start (right q) h k e m = elim e [ ]
agree (union x y) w i ws pairs accepting start h k e m = elim e [ ]
agree (union x y) w i ws pairs accepting (left q) h k e m = elim e [ ]
agree (union x y) w i ws pairs accepting (right q) h k e m = elim e [ ]
agree (union x y) w i ws pairs (left p) start h k e m = elim e [ ]
agree (union x y) w i ws pairs (left p) accepting h k e m = elim e [ ]
agree (union x y) w i ws pairs (left p) (right q) h k e m = elim e [ ]
agree (union x y) w i ws pairs (right p) start h k e m = elim e [ ]
agree (union x y) w i ws pairs (right p) accepting h k e m = elim e [ ]
agree (union x y) w i ws pairs (right p) (left q) h k e m = elim e [ ]
agree (star x) w i ws pairs start accepting h k e m = elim e [ ]
agree (star x) w i ws pairs start (left q) h k e m = elim e [ ]
agree (star x) w i ws pairs start (right q) h k e m = elim k [ ]
agree (star x) w i ws pairs accepting start h k e m = elim e [ ]
agree (star x) w i ws pairs accepting (left q) h k e m = elim e [ ]
agree (star x) w i ws pairs accepting (right q) h k e m = elim k [ ]
agree (star x) w i ws pairs (left p) start h k e m = elim e [ ]
agree (star x) w i ws pairs (left p) accepting h k e m = elim e [ ]
agree (star x) w i ws pairs (left p) (right q) h k e m = elim k [ ]
agree (star x) w i ws pairs (right p) q h k e m = elim h [ ]
agree (below x) w i ws pairs start accepting h k e m = elim e [ ]
agree (below x) w i ws pairs start (right q) h k e m = elim k [ ]
agree (below x) w i ws pairs accepting start h k e m = elim e [ ]
agree (below x) w i ws pairs accepting (right q) h k e m = elim k [ ]
agree (below x) w i ws pairs (left p) (right q) h k e m = elim k [ ]
agree (below x) w i ws pairs (right p) q h k e m = elim h [ ]

-- states that are one are marked alike
abbrev AlikeMarked : Nested Leaf → (w i : ℕ) → List ℕ → Type 0
AlikeMarked x w i ws = (p q : State) → Has x p → Has x q → origin x p ≡ origin x q → Marked x w i ws p
    → Marked x w i ws q

-- where states that are one are marked alike, the pairs agree: a stand-in's states are those of its child
pairs : (x : Nested Leaf) (w i : ℕ) (ws : List ℕ) → AlikeMarked x w i ws → Pairs x w i ws
pairs (leaf a) w i ws m = tt
pairs (catenation x y) w i ws m = (
  pairs x w (i + 1) ws (λ p q h k e. m (left p) (left q) h k (ap left e)),
  pairs y w (i + (1 + width x)) (drop (run x) ws) (λ p q h k e. m (right p) (right q) h k (ap right e)),
)
pairs (union x y) w i ws m = (
  pairs x w (i + 1) ws (λ p q h k e. m (left p) (left q) h k (ap left e)),
  pairs y w (i + (1 + width x)) (drop (run x) ws) (λ p q h k e. m (right p) (right q) h k (ap right e)),
)
pairs (star x) w i ws m = pairs x w (i + 1) ws (λ p q h k e. m (left p) (left q) h k (ap left e))
pairs (below x) w i ws m = (
  Iff.trans (m start (left start) tt tt refl, m (left start) start tt tt refl) (child_start x ws),
  Iff.trans (m accepting (left accepting) tt tt refl, m (left accepting) accepting tt tt refl) (child_accepting x ws),
  pairs x (get_or ws 0 0) 0 (drop 1 ws) (λ p q h k e. m (left p) (left q) h k e),
)

-- so refusal 13's test of the shared states goes by pairs
pub agreeing_pairs : (x : Nested Leaf) (words : List ℕ) → Agreeing x words ↔ Pairs x (get_or words 0 0) 0 (drop 1 words)
agreeing_pairs x words = (
  pairs x (get_or words 0 0) 0 (drop 1 words),
  λ s p q h k e. agree x (get_or words 0 0) 0 (drop 1 words) s p q h k
      (alike e),
)
