-- What a loop of stores makes of a list: some entries in a row have new values, the others are as they were.
use Rattle.std.specs.Prelude.{ℕ, zero, suc, ◌+◌, ◌*◌, ◌≤◌, ◌<◌, ◌≡◌, ◌⊎◌, List, length, get_or}

-- the n entries from `from` on have the values of `value`; the others, and how many there are, are as before
pub record Filled (from n : ℕ) (value : ℕ → ℕ) (before after : List ℕ) : Type 0 where
  pub inside : (i : ℕ) → i < n → get_or after (from + i) 0 ≡ value i
  pub outside : (p : ℕ) → (p < from) ⊎ (from + n ≤ p) → get_or after p 0 ≡ get_or before p 0
  pub same_length : length after ≡ length before

-- the same for `many` rows of n entries each, one after the other
pub record RowsFilled (from n many : ℕ) (value : ℕ → ℕ → ℕ) (before after : List ℕ) : Type 0 where
  pub inside : (r i : ℕ) → r < many → i < n → get_or after (from + r * n + i) 0 ≡ value r i
  pub outside : (p : ℕ) → (p < from) ⊎ (from + many * n ≤ p) → get_or after p 0 ≡ get_or before p 0
  pub same_length : length after ≡ length before

-- 0, and then the values of `value`
abbrev pub after_zero : (value : ℕ → ℕ) → ℕ → ℕ
after_zero value zero = 0
after_zero value (suc i) = value i
