-- The numbers of a list in the order in which they are first met.
use Rattle.std.specs.Prelude.{ℕ, zero, suc, ◌+◌, Bool, false, cond, ◌||◌, List, [], ◌∷◌, eqb}

-- whether a is in a list
abbrev pub member : ℕ → List ℕ → Bool
member a [] = false
member a (b ∷ rest) = eqb a b || member a rest

-- the numbers of a list that were not met before, each where it stands first
abbrev pub firsts : (met : List ℕ) → List ℕ → List ℕ
firsts met [] = []
firsts met (a ∷ rest) = cond (member a met) (firsts met rest) (a ∷ firsts (a ∷ met) rest)

-- n numbers from a on, upwards
abbrev pub upwards : (a n : ℕ) → List ℕ
upwards a zero = []
upwards a (suc n) = a ∷ upwards (a + 1) n
