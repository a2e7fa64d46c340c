-- The end at a place by its bytes, and the line before it.
use Rattle.std.specs.Prelude.{ℕ, ◌≡◌, List, drop}
use Rattle.input.specs.Part.{part}
use Rattle.input.specs.Lines.{lines, expression, texts}
use Rattle.input.specs.Ends.{after_end}

-- the input's first line is the expression, and the texts are the lines left after it
pub record FirstLine (input : List ℕ) (end : ℕ) : Type 0 where
  pub is_expression : expression (lines input) ≡ part 0 end input
  pub are_texts : texts (lines input) ≡ lines (drop (after_end input end) input)
