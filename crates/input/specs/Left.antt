-- The lines that are left to come.
use Rattle.std.specs.Prelude.{ℕ, List}
use Rattle.input.specs.Lines.{lines}
use Rattle.input.specs.declared.line.Lines.{Lines}

-- those of the bytes that are left
abbrev pub lines_left : Lines → List (List ℕ)
lines_left it = lines it.rest.now
