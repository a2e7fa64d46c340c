-- What is printed may be called by another name.
use Rattle.std.proofs.Common.{ℕ, ◌≡◌, List}
use Rattle.printing.specs.Printing.{Prints}

pub says : {bytes other before after : List ℕ} {next : ℕ} → bytes ≡ other → Prints before 0 other after next
    → Prints before 0 bytes after next
says e p = rw e p
