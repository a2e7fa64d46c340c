-- The measures of the cycle of readers: the bytes left fall, three for each, and one more for a catenation, two more for
-- a union, since these read their first part at the same place. The loops' invariants: a round begins, no further than
-- the end of the expression.
use Rattle.std.proofs.Common.{◌≤◌, length, ◌≡◌, ◌+◌, ◌-◌, ◌*◌}
use Rattle.operands.specs.Bytes.{syntax_of}
use Rattle.operands.specs.Grammar.{starred, joined, united}
use Rattle.scanner.specs.Rounds.{Round}
use Rattle.scanner.proofs.+catenation_operand_union.Given as goal

abbrev pub decreases-catenation::catenation : goal.decreases-catenation::catenation
decreases-catenation::catenation l = 3 * (length l.expr.now - l.at) + 1

abbrev pub decreases-operand::operand : goal.decreases-operand::operand
decreases-operand::operand l = 3 * (length l.expr.now - l.at) + 0

abbrev pub decreases-union::union : goal.decreases-union::union
decreases-union::union l = 3 * (length l.expr.now - l.at) + 2

abbrev pub invariant-catenation::catenation-operands : goal.invariant-catenation::catenation-operands
invariant-catenation::catenation-operands l =
    Round (syntax_of l.syntax) l.initial.notes.places joined starred l.expr l.depth l.at l.initial.notes.count
    l.initial.notes.numbers.now l.place l.notes.count l.notes.numbers.now
    × (l.at ≤ l.place) × (l.place ≤ length l.expr) × (l.notes.places ≡ l.initial.notes.places)
    × (l.notes.numbers.ghost_name ≡ l.initial.notes.numbers.ghost_name)
    × (length l.notes.numbers.now ≡ length l.initial.notes.numbers.now)

abbrev pub decreases-catenation::catenation-operands : goal.decreases-catenation::catenation-operands
decreases-catenation::catenation-operands l = length l.expr - l.place

abbrev pub invariant-union::union-branches : goal.invariant-union::union-branches
invariant-union::union-branches l =
    Round (syntax_of l.syntax) l.initial.notes.places united joined l.expr l.depth l.at l.initial.notes.count
    l.initial.notes.numbers.now l.place l.notes.count l.notes.numbers.now
    × (l.at ≤ l.place) × (l.place ≤ length l.expr) × (l.notes.places ≡ l.initial.notes.places)
    × (l.notes.numbers.ghost_name ≡ l.initial.notes.numbers.ghost_name)
    × (length l.notes.numbers.now ≡ length l.initial.notes.numbers.now)

abbrev pub decreases-union::union-branches : goal.decreases-union::union-branches
decreases-union::union-branches l = length l.expr - l.place
