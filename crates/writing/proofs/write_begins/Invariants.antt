-- `writing::write_begins` meets its contract: the begins of the first bytes are written.
use Rattle.std.proofs.Common.{get_or}
use Rattle.writing.specs.Filled.{Filled}
use Rattle.writing.specs.Written.{begin_of}
use Rattle.writing.proofs.write_begins.Given as goal

abbrev pub invariant-loop-byte : goal.invariant-loop-byte
invariant-loop-byte l =
    Filled 0 l.byte (λ b. begin_of (get_or l.columns b 0) l.states) l.initial.table l.table
