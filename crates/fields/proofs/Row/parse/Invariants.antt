-- Each part takes bytes off the line, and the fields have no more bytes than the buffer, which is as long as the lent one.
use Rattle.std.proofs.Common.{length, ◌≤◌, ◌≡◌}
use Rattle.fields.proofs.Row.parse.Given as goal

abbrev pub invariant-loop-size : goal.invariant-loop-size
invariant-loop-size l = (l.row.size ≤ length l.row.bytes.now) × (length l.row.bytes.now ≡ length l.initial.row.bytes.now)

abbrev pub decreases-loop-size : goal.decreases-loop-size
decreases-loop-size l = length l.rest
