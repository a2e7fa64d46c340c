-- Bytes printed by a printer: they stand in its buffer from its place on, and its place is the one after them.
use Rattle.std.specs.Prelude.{ℕ, ◌+◌, ◌≤◌, ◌≡◌, List, length}
use Rattle.printing.specs.Printing.{Prints}
use Rattle.printing.specs.declared.print.Printer.{Printer}

-- there is room for so many bytes more
abbrev pub HasRoom : Printer → (count : ℕ) → Type 0
HasRoom printer count = printer.at + count ≤ length printer.out.now

-- the printer before and after it prints the bytes, in the same buffer
pub record Puts (before : Printer) (bytes : List ℕ) (after : Printer) : Type 0 where
  pub same_buffer : after.out.ghost_name ≡ before.out.ghost_name
  pub prints : Prints before.out.now before.at bytes after.out.now after.at
