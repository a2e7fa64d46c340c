-- Four numbers in one: bits 0 to 7, 8 to 15, 16 to 39 and 40 to 63 of a word.
use Rattle.std.specs.Prelude.{ℕ, ◌+◌, ◌*◌, ◌/◌, ◌%◌, ◌<◌, ◌≡◌}

-- a refusal's number, a flag, x and y in one number
abbrev pub packed : (number flag x y : ℕ) → ℕ
packed number flag x y = number + 256 * flag + 65536 * x + 1099511627776 * y

-- the four numbers of a word
abbrev pub number_in : ℕ → ℕ
number_in r = r % 256

abbrev pub flag_in : ℕ → ℕ
flag_in r = r / 256 % 256

abbrev pub x_in : ℕ → ℕ
x_in r = r / 65536 % 16777216

abbrev pub y_in : ℕ → ℕ
y_in r = r / 1099511627776

-- the parts of a packed number are in range
pub record Ranges (number flag x y : ℕ) : Type 0 where
  pub number_small : number < 256
  pub flag_small : flag < 256
  pub x_small : x < 16777216
  pub y_small : y < 16777216

-- unpacking gives the parts back
pub record Unpacks (r number flag x y : ℕ) : Type 0 where
  pub number_back : number_in r ≡ number
  pub flag_back : flag_in r ≡ flag
  pub x_back : x_in r ≡ x
  pub y_back : y_in r ≡ y
