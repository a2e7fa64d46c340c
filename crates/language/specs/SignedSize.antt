-- How many nodes the tree has that the signs stand for, counted on the signs; and counting that stops past a limit.
use Rattle.std.specs.Prelude.{ℕ, zero, suc, ◌+◌, ◌*◌, ◌-◌, min}
use Rattle.language.specs.SignedTree.{SignedTree, leaf, catenation, union, star, one_or_more, optional, counted}

-- the nodes of `fewest` to `most` operands of n nodes each
abbrev pub times_size : (fewest most n : ℕ) → ℕ
times_size zero most n = (n + 2) + (most - 1) * (n + 3)
times_size (suc m) most n = n + m * (n + 1) + (most - suc m) * (n + 3)

-- the nodes of the tree that the signs stand for
abbrev pub signed_size : {A : Type 0} → SignedTree A → ℕ
signed_size (leaf place a) = 1
signed_size (catenation place s t) = signed_size s + signed_size t + 1
signed_size (union place s t) = signed_size s + signed_size t + 1
signed_size (star place s) = signed_size s + 1
signed_size (one_or_more place s) = signed_size s + signed_size s + 2
signed_size (optional place s) = signed_size s + 2
signed_size (counted place fewest most s) = times_size fewest most (signed_size s)

-- counting that stops past the limit: n itself, but limit + 1 for all that is above it
abbrev pub capped : (limit n : ℕ) → ℕ
capped limit n = min n (suc limit)

-- counting on from `start`, n times `step` more, each sum stopping past the limit
abbrev pub counting_on : (limit start n step : ℕ) → ℕ
counting_on limit start zero step = capped limit start
counting_on limit start (suc n) step = capped limit (counting_on limit start n step + step)

-- the nodes of the tree that the signs stand for, where counting stops past the limit at every sign
abbrev pub capped_size : {A : Type 0} (limit : ℕ) → SignedTree A → ℕ
capped_size limit (leaf place a) = capped limit 1
capped_size limit (catenation place s t) = capped limit (capped_size limit s + capped_size limit t + 1)
capped_size limit (union place s t) = capped limit (capped_size limit s + capped_size limit t + 1)
capped_size limit (star place s) = capped limit (capped_size limit s + 1)
capped_size limit (one_or_more place s) = capped limit (capped_size limit s + capped_size limit s + 2)
capped_size limit (optional place s) = capped limit (capped_size limit s + 2)
capped_size limit (counted place fewest most s) = capped limit (times_size fewest most (capped_size limit s))
