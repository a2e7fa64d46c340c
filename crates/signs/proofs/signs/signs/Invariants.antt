-- The loop's invariant: what was read where the loop begins is read on up to the part's end. The measure is what is
-- left of the expression.
use Rattle.std.proofs.Common.{ℕ, ◌-◌, ◌≤◌, ◌≡◌, length}
use Rattle.operands.specs.Bytes.{syntax_of}
use Rattle.operands.specs.Grammar.{starred}
use Rattle.operands.specs.Reading.{Carries}
use Rattle.signs.proofs.signs.signs.Given as goal

abbrev pub invariant-loop-place : goal.invariant-loop-place
invariant-loop-place l =
    (l.place ≤ length l.expr) × (l.begin ≤ l.notes.count) × (l.notes.places ≡ l.initial.notes.places)
    × ((depth : ℕ) → Carries (syntax_of l.syntax) l.initial.notes.places starred l.expr depth l.begin l.initial.place
    l.initial.notes.count l.initial.notes.numbers.now l.place l.notes.count l.notes.numbers.now)
    × (l.notes.numbers.ghost_name ≡ l.initial.notes.numbers.ghost_name)
    × (length l.notes.numbers.now ≡ length l.initial.notes.numbers.now)

abbrev pub decreases-loop-place : goal.decreases-loop-place
decreases-loop-place l = length l.expr - l.place
