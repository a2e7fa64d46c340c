-- How long an input and an output can be.
use Rattle.std.specs.Prelude.{ℕ}

-- how many bytes an input has at most, but for one that is told to be too long
abbrev pub longest_input : ℕ
longest_input = 65536

-- how many bytes of a buffer are always enough
abbrev pub most_output : ℕ
most_output = 1048575
