-- The first bytes of a text, one more at a time.
use Rattle.std.specs.Prelude.{ℕ, ◌+◌, ◌<◌, ◌≡◌, List, [], ◌∷◌, ◌++◌, length, take, get_or}
use Rattle.std.proofs.Common.{add-one, sym, ap, ◌∙◌, take-suc}

-- the first i bytes and the next one are the first i + 1
pub take_next : (text : List ℕ) (i : ℕ) → i < length text → take i text ++ (get_or text i 0 ∷ []) ≡ take (i + 1) text
take_next text i inside = sym (ap (λ (n : ℕ). take n text) (add-one i) ∙ take-suc text i 0 inside)
