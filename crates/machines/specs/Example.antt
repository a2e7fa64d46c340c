-- A table for `a*`, written down and run: bytes other than `a` share a column, and state 1 is the only one but 0.
use Rattle.std.specs.Prelude.{ℕ, ◌≡◌, refl, true, false, List, [], ◌∷◌, ◌++◌, replicate}
use Rattle.running.specs.Runs.{runs}

-- the byte `a`, and the byte `b`
abbrev byte_a : ℕ
byte_a = 97

abbrev byte_b : ℕ
byte_b = 98

-- the column of the other bytes begins at entry 257, that of `a` at 259, that of accepting at 261
abbrev stars : List ℕ
stars = (replicate 97 257 ++ (259 ∷ [])) ++ ((replicate 158 257 ++ (261 ∷ [])) ++ (0 ∷ 0 ∷ 0 ∷ 1 ∷ 0 ∷ 1 ∷ []))

empty_accepted : runs stars [] ≡ true
empty_accepted = refl

two_accepted : runs stars (byte_a ∷ byte_a ∷ []) ≡ true
two_accepted = refl

other_not_accepted : runs stars (byte_b ∷ []) ≡ false
other_not_accepted = refl

after_other_not_accepted : runs stars (byte_a ∷ byte_b ∷ byte_a ∷ []) ≡ false
after_other_not_accepted = refl
