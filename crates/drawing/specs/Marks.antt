-- The marks under a rule: one under each place that made a node.
use Rattle.std.specs.Prelude.{ℕ, zero, suc, ◌-◌, Bool, true, false, cond, List, [], ◌∷◌, ◌++◌, get_or, eqb}
use Rattle.tree.specs.Layout.{place_at}
use Rattle.showing.specs.Shown.{shown_width, spaces}

-- whether one of the first records has this place
unfoldable pub placed : (list : List ℕ) (records place : ℕ) → Bool
placed list zero place = false
placed list (suc i) place = cond (eqb (place_at list i) place) true (placed list i place)

-- `^` where one has, else a space
unfoldable pub mark : (list : List ℕ) (records place : ℕ) → ℕ
mark list records place = cond (placed list records place) 94 32

-- a mark under a byte, as wide as that byte is shown
unfoldable pub mark_at : (marked byte : ℕ) → List ℕ
mark_at marked byte = marked ∷ spaces (shown_width byte - 1)

-- the marks under the first bytes of a rule
unfoldable pub marks : (rule list : List ℕ) (records count : ℕ) → List ℕ
marks rule list records zero = []
marks rule list records (suc i) = marks rule list records i ++ mark_at (mark list records i) (get_or rule i 0)
