-- The number that digits spell.
use Rattle.std.specs.Prelude.{ℕ, ◌+◌, ◌*◌, ◌-◌, List, fold, cond, nat_lt, nat_le, ◌&&◌}

-- the value of a hex digit, 0 of any other byte
abbrev pub digit_value : (byte : ℕ) → ℕ
digit_value byte =
    cond (nat_le 48 byte && nat_le byte 57) (byte - 48) (cond (nat_le 97 byte && nat_le byte 102) (byte - 97 + 10) 0)

-- a number with one more digit behind it; a large one takes no more
abbrev pub with_digit : (value byte : ℕ) → ℕ
with_digit value byte = cond (nat_lt value 1000000000000) (10 * value + digit_value byte) value

-- the number that these digits spell
abbrev pub spelled : (digits : List ℕ) → ℕ
spelled digits = fold with_digit 0 digits
