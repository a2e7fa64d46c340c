-- What reading the input asks: space for an input that is longer than inputs may be, so that it is seen.
use Rattle.std.specs.Prelude.{ℕ, ◌≡◌, List, length}
use Rattle.printing.specs.ReportLines.{too_long_line}
use Rattle.explaining.specs.Explained.{explained}

-- for what fills the buffer, all that is printed is that it is too long
pub record ExplainSpace (buffer : List ℕ) : Type 0 where
  pub too_long : (input : List ℕ) → length input ≡ length buffer → explained input ≡ too_long_line
