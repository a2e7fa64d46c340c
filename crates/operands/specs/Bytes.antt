-- The bytes of an expression: which are special is told by the syntax, every other byte stands for itself.
use Rattle.std.specs.Prelude.{ℕ, Bool, true, false, cond, eqb}
use Rattle.operands.specs.declared.syntax.Syntax.{Syntax as Named}
use Rattle.operands.specs.declared.syntax.Syntax.TheVariants.{First, Second}

-- the syntax of each of the two readers: the second has the dot, classes, and the signs `+`, `?` and `{m,n}`
pub data Syntax : Type 0 where
  first second : Syntax

-- what a byte is where no `\` stands before it
pub data Sign : Type 0 where
  opening closing bar asterisk backslash dot bracket end_bracket plus question brace end_brace plain : Sign

-- `.` `[` `]` `+` `?` `{` `}` are special in the second syntax alone
abbrev pub sign_of_second : Syntax → ℕ → Sign
sign_of_second first b = plain
sign_of_second second b =
    cond (eqb b 46) dot
    (cond (eqb b 91) bracket
    (cond (eqb b 93) end_bracket
    (cond (eqb b 43) plus
    (cond (eqb b 63) question
    (cond (eqb b 123) brace
    (cond (eqb b 125) end_brace plain))))))

-- `(` `)` `|` `*` `\`, the signs of the second syntax, and every other byte
abbrev pub sign_of : Syntax → ℕ → Sign
sign_of syntax b =
    cond (eqb b 40) opening
    (cond (eqb b 41) closing
    (cond (eqb b 124) bar
    (cond (eqb b 42) asterisk
    (cond (eqb b 92) backslash (sign_of_second syntax b)))))

-- whether a byte is special
abbrev pub special : Sign → Bool
special opening = true
special closing = true
special bar = true
special asterisk = true
special backslash = true
special dot = true
special bracket = true
special end_bracket = true
special plus = true
special question = true
special brace = true
special end_brace = true
special plain = false

-- the syntax that the readers are told
abbrev pub syntax_of : Named → Syntax
syntax_of First = first
syntax_of Second = second
