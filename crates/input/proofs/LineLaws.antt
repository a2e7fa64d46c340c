-- What the lines of bytes are, from the ends that stand in them, and how many there are.
use Rattle.std.specs.Prelude.{ℕ, suc, ◌+◌, ◌-◌, ◌≤◌, ◌<◌, ◌≡◌, refl, Bool, true, false, cond, List, [], ◌∷◌, ◌++◌, length, drop, eqb}
use Rattle.std.proofs.Common.{ap, ◌∙◌, arith}
use Rattle.std.proofs.lemmas.Bool.{false≢true}
use Rattle.std.proofs.Math.Bool.{and-eq-true_iff}
use Rattle.input.specs.Lines.{in_line, begins_end, lines, expression, texts}
use Rattle.input.specs.Ends.{end_size}

-- the lines of a byte and the bytes after it, by what the two tests say of it
abbrev lines_from : (b : ℕ) (ten begins : Bool) → List (List ℕ) → List (List ℕ)
lines_from b ten begins later = cond ten ([] ∷ later) (cond begins later (in_line b later))

-- after a 13 that begins an end, its 10 ends the line
ten_next : (b : ℕ) (rest : List ℕ) → begins_end b rest ≡ true → lines rest ≡ [] ∷ lines (drop 1 rest)
unfolding lines
ten_next b [] e = absurd (false≢true e)
ten_next b (c ∷ rest) e = rw ((and-eq-true_iff (eqb b 13) (eqb c 10)).0 e).1

-- an end is the end of an empty line
pub lines_end : (bytes : List ℕ) → 0 < end_size bytes → lines bytes ≡ [] ∷ lines (drop (end_size bytes) bytes)
unfolding lines
lines_end [] some = absurd (omega arith)
lines_end (b ∷ rest) some = go (eqb b 10) (begins_end b rest) (ten_next b rest) some
  where
    go : (ten begins : Bool) → (begins ≡ true → lines rest ≡ [] ∷ lines (drop 1 rest))
        → 0 < cond ten 1 (cond begins 2 0)
        → lines_from b ten begins (lines rest) ≡ [] ∷ lines (drop (cond ten 1 (cond begins 2 0)) (b ∷ rest))
    go true begins next h = refl
    go false true next h = next refl
    go false false next h = absurd (omega arith)

-- a byte that begins no end is one of its line
pub lines_other : (b : ℕ) (rest : List ℕ) → end_size (b ∷ rest) ≡ 0 → lines (b ∷ rest) ≡ in_line b (lines rest)
unfolding lines
lines_other b rest none = go (eqb b 10) (begins_end b rest) none
  where
    go : (ten begins : Bool) → ◌≡◌ {A = ℕ} (cond ten 1 (cond begins 2 0)) 0
        → lines_from b ten begins (lines rest) ≡ in_line b (lines rest)
    go true begins h = absurd (omega arith)
    go false true h = absurd (omega arith)
    go false false h = refl

-- bytes of which none begins an end, up to an end, are a line
pub lines_ended : (line rest : List ℕ) {later : List (List ℕ)}
    → ((i : ℕ) → i < length line → end_size (drop i (line ++ rest)) ≡ 0) → lines rest ≡ [] ∷ later
    → lines (line ++ rest) ≡ line ∷ later
lines_ended [] rest each end = end
lines_ended (b ∷ line) rest each end =
    lines_other b (line ++ rest) (each 0 (omega arith))
    ∙ ap (in_line b) (lines_ended line rest (λ i h. each (suc i) (omega arith)) end)

-- last bytes of which none begins an end are a line
pub lines_last : (line : List ℕ) → 0 < length line → ((i : ℕ) → i < length line → end_size (drop i line) ≡ 0)
    → lines line ≡ line ∷ []
unfolding lines
lines_last [] some each = absurd (omega arith)
lines_last (b ∷ []) some each = lines_other b [] (each 0 (omega arith))
lines_last (b ∷ c ∷ line) some each =
    lines_other b (c ∷ line) (each 0 (omega arith))
    ∙ ap (in_line b) (lines_last (c ∷ line) (omega arith) (λ i h. each (suc i) (omega arith)))

-- every line takes a byte at least: its end, or one of its own
pub lines_count : (input : List ℕ) → length (lines input) ≤ length input
unfolding lines
lines_count [] = omega arith
lines_count (b ∷ rest) = go (eqb b 10) (begins_end b rest) (lines rest) (lines_count rest)
  where
    go : (ten begins : Bool) (later : List (List ℕ)) → length later ≤ length rest
        → length (lines_from b ten begins later) ≤ suc (length rest)
    go true begins later h = omega arith
    go false true later h = omega arith
    go false false [] h = omega arith
    go false false (line ∷ later) h = omega arith

-- no line has more than so many bytes
abbrev pub NoneLonger : ℕ → List (List ℕ) → Type 0
NoneLonger most [] = Unit {0}
NoneLonger most (line ∷ later) = (length line ≤ most) × NoneLonger most later

-- no line is longer than the bytes
pub lines_within : (input : List ℕ) → NoneLonger (length input) (lines input)
unfolding lines
lines_within [] = tt
lines_within (b ∷ rest) = go (eqb b 10) (begins_end b rest) (lines rest) (lines_within rest)
  where
    longer : (later : List (List ℕ)) → NoneLonger (length rest) later
        → NoneLonger (suc (length rest)) later
    longer [] each = tt
    longer (line ∷ later) each = (omega (arith, each.0), longer later each.1)

    go : (ten begins : Bool) (later : List (List ℕ)) → NoneLonger (length rest) later
        → NoneLonger (suc (length rest)) (lines_from b ten begins later)
    go true begins later each = (omega arith, longer later each)
    go false true later each = longer later each
    go false false [] each = (omega arith, tt)
    go false false (line ∷ later) each = (omega (arith, each.0), longer later each.1)

-- the texts take a byte each, and the expression one more than it has, but where it is the only line
pub texts_count : (input : List ℕ) → length (texts (lines input))
    ≤ length input - (length (expression (lines input)) + 1)
unfolding lines
texts_count [] = omega arith
texts_count (b ∷ rest) = go (eqb b 10) (begins_end b rest) (lines rest) (texts_count rest) (lines_count rest)
  where
    go : (ten begins : Bool) (later : List (List ℕ))
        → length (texts later) ≤ length rest - (length (expression later) + 1) → length later ≤ length rest
        → length (texts (lines_from b ten begins later))
        ≤ suc (length rest) - (length (expression (lines_from b ten begins later)) + 1)
    go true begins later h k = omega arith
    go false true later h k = omega arith
    go false false [] h k = omega arith
    go false false (line ∷ later) h k = omega arith
