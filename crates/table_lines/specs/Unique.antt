-- The promise leaves no choice: two results that fit it are the same, with every byte of the buffer.
use Rattle.std.specs.Prelude.{ℕ, ◌≡◌, refl, Bool, List}
use Rattle.std.proofs.Common.{arith, sym, ◌∙◌}
use Rattle.lines.specs.Answer.{LinesNumbers}
use Rattle.lines.specs.Unique.{written_unique}
use Rattle.table_lines.specs.Promise.{
  TableSays,
  TableLinesAnswers,
  table_short,
  text_long,
  no_room,
  answered,
}

-- a table says one thing of a line
table_says_one : (table line : List ℕ) (m n : Bool) → TableSays table line m → TableSays table line n → m ≡ n
table_says_one table line m n a b = a ∙ sym b

module _ {table text before : List ℕ} where
  -- two results that both fit the promise are equal
  pub table_lines_unique : {after after' : List ℕ} {n n' : LinesNumbers}
      → TableLinesAnswers table text before after n
      → TableLinesAnswers table text before after' n' → (n ≡ n') × (after ≡ after')
  table_lines_unique (table_short a e) (table_short b f) = (refl, e ∙ sym f)
  table_lines_unique (table_short a e) (text_long b long f) = absurd (omega (arith, a, b))
  table_lines_unique (table_short a e) (no_room b few f) = absurd (omega (arith, a, b.long_enough))
  table_lines_unique (table_short a e) (answered b w) = absurd (omega (arith, a, b.long_enough))
  table_lines_unique (text_long a long e) (table_short b f) = absurd (omega (arith, a, b))
  table_lines_unique (text_long a long e) (text_long b long' f) = (refl, e ∙ sym f)
  table_lines_unique (text_long a long e) (no_room b few f) = absurd (omega (arith, long, b.short))
  table_lines_unique (text_long a long e) (answered b w) = absurd (omega (arith, long, b.short))
  table_lines_unique (no_room a few e) (table_short b f) = absurd (omega (arith, a.long_enough, b))
  table_lines_unique (no_room a few e) (text_long b long f) = absurd (omega (arith, a.short, long))
  table_lines_unique (no_room a few e) (no_room b few' f) = (refl, e ∙ sym f)
  table_lines_unique (no_room a few e) (answered b w) = absurd (omega (arith, few, w.room))
  table_lines_unique (answered a v) (table_short b f) = absurd (omega (arith, a.long_enough, b))
  table_lines_unique (answered a v) (text_long b long f) = absurd (omega (arith, a.short, long))
  table_lines_unique (answered a v) (no_room b few f) = absurd (omega (arith, few, v.room))
  table_lines_unique (answered a v) (answered b w) = written_unique (table_says_one table) v w
