-- `storing::class_records::class_values` meets its contract: the values of the dot, or of the class that is read again.
use mathlib.Core.Path.{refl, ◌∙◌}
use native.Mathlib.Omega.{arith}
use Rattle.classes.specs.ClassItems.{dot_at, dot_members_set, members_at}
use Rattle.storing.proofs.class_records.class_values.Goals as goal

pub returns-then-expr-at-eq46 : goal.returns-then-expr-at-eq46
returns-then-expr-at-eq46 c =
    rw (dot_at c.args.expr.now c.args.at c.if-expr-at-eq46.true, c.from.ensures)
    (dot_members_set c.fill.new.self (c.fill.ensures.len ∙ c.requires.1)
    (record { each = λ v h. c.fill.ensures.clones v 0 (omega (arith, c.requires.1)) refl }))

pub returns-else-expr-at-eq46 : goal.returns-else-expr-at-eq46
returns-else-expr-at-eq46 c =
    members_at c.args.expr.now c.args.at c.class_members.new.members c.class_members.result
    c.requires.0
    c.if-expr-at-eq46.false c.class_members.ensures
