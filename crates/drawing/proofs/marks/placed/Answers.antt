-- `drawing::marks::placed` meets its contract: the records passed have other places.
use Rattle.std.proofs.Common.{ℕ, arith, ◌≡◌, ◌-◌, sym, ap, ◌∙◌}
use Rattle.drawing.specs.Marks.{placed}
use Rattle.drawing.specs.MarksLaws.{placed_none, placed_here, placed_before}
use Rattle.drawing.proofs.marks.placed.Goals as goal

pub returns-then-place_at-place : goal.returns-then-place_at-place
returns-then-place_at-place c =
    sym (placed_here c.args.list.now c.args.place c.loop-i.i (c.loop-i.i - 1) (omega arith) (omega arith))
    ∙ c.loop-i.invariant

pub loop-i-preserved : goal.loop-i-preserved
loop-i-preserved c =
    sym (placed_before c.args.list.now c.args.place c.loop-i.i (c.loop-i.i - 1) (omega arith)
    (λ e. c.if-place_at-place.false (omega (arith, e)))) ∙ c.loop-i.invariant

pub returns : goal.returns
returns c =
    let none : c.loop-i.i ≡ 0 = omega arith in
    sym (placed_none c.args.list.now c.args.place)
    ∙ ap (λ (n : ℕ). placed c.args.list.now n c.args.place) (sym none) ∙ c.loop-i.invariant
