-- Closing asks of a meaning only which leaves have the empty text: two meanings that give it to the same leaves close
-- alike, whatever bytes their leaves take.
use Rattle.std.specs.Prelude.{◌↔◌}
use Rattle.language.specs.Meaning.{Meaning}

-- M and N give the empty text to the same leaves
abbrev pub SameEmpty : {A : Type 0} (M N : Meaning A) → Type 0
SameEmpty {A} M N = (a : A) → M.HasEmpty a ↔ N.HasEmpty a
