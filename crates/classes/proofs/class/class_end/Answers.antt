-- `classes::class::class_end` meets its contract: with a `^` or without one, its items are passed.
use native.Mathlib.Omega.{arith}
use Rattle.classes.specs.ClassItems.{end_but, end_only}
use Rattle.classes.proofs.class.class_end.Goals as goal

pub returns-then-stands_at : goal.returns-then-stands_at
returns-then-stands_at c =
    let caret = c.stands_at.ensures.if_so c.if-stands_at.true in
    end_but c.args.expr.now c.args.at c.items_end.result caret.0 caret.1 c.items_end.ensures

pub returns : goal.returns
returns c =
    end_only c.args.expr.now c.args.at c.items_end-2.result (omega (arith, c.requires))
    (c.stands_at.ensures.if_not c.if-stands_at.false) c.items_end-2.ensures
