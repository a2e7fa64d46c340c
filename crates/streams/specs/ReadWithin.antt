-- What reading the input promises: as many bytes as there is space for, at most.
-- Assumes nothing.
use Rattle.std.specs.Prelude.{ℕ, ◌≤◌, List, length, Result, Ok, Err}
use Rattle.std.specs.declared.io.Error.{Error}

abbrev pub ReadWithin : List ℕ → Result ℕ Error → Type 0
ReadWithin buffer (Ok count) = count ≤ length buffer
ReadWithin buffer (Err error) = Unit {0}
