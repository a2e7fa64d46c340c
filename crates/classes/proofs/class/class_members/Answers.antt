-- `classes::class::class_members` meets its contract: with a `^` or without one, its items are read.
use native.Mathlib.Omega.{arith}
use Rattle.classes.specs.ClassItems.{class_but, class_only}
use Rattle.classes.proofs.class.class_members.Goals as goal

pub returns-then-stands_at : goal.returns-then-stands_at
returns-then-stands_at c =
    let caret = c.stands_at.ensures.if_so c.if-stands_at.true in
    class_but c.args.expr.now c.args.at c.items.new.members c.items.result caret.0 caret.1
    c.items.ensures

pub returns : goal.returns
returns c =
    class_only c.args.expr.now c.args.at c.items-2.new.members c.items-2.result (omega arith)
    (c.stands_at.ensures.if_not c.if-stands_at.false) c.items-2.ensures
