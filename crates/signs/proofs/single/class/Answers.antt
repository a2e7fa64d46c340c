-- `signs::single::class` meets its contract: the class that the reading finds is a leaf with the place of its `[`.
use Rattle.std.proofs.Common.{sym, arith}
use Rattle.std.proofs.lemmas.Result.{err_from_is_err_and}
use Rattle.tree.specs.Leaf.{Leaf}
use Rattle.classes.specs.ClassAt.{bracket_here}
use Rattle.classes.specs.ClassItems.{ClassEndAnswer}
use Rattle.operands.specs.Surroundings.{fails_class}
use Rattle.operands.specs.ReadingLaws.{leaf_read}
use Rattle.signs.specs.ClassLeads.{class_leads}
use Rattle.signs.proofs.Asked.{found_so, none_so}
use Rattle.signs.proofs.single.class.Goals as goal

pub returns-in_err-next-clause-answer : goal.returns-in_err-next-clause-answer
returns-in_err-next-clause-answer c =
    let p = err_from_is_err_and c.from_residual.result c.from_residual.ensures.1 in
    let lost = none_so (ClassEndAnswer c.args.expr.now c.args.begin) c.class_end.result
    (sym c.in_err-next.ensures.value) c.class_end.ensures in
    rw (p.1, p.2, lost.1)
    (record {
      fails = λ depth. fails_class c.args.expr.now depth c.args.begin c.requires.within c.requires.bracket lost.0.fails;
    })

pub returns-clause-answer : goal.returns-clause-answer
returns-clause-answer c =
    let r = found_so (ClassEndAnswer c.args.expr.now c.args.begin) c.class_end.result _
    (sym c.in_ok-next.ensures.value) c.class_end.ensures in
    leaf_read c.args.notes.now.places c.args.notes.now.numbers.now c.leaf.new.notes.numbers.now c.leaf.result _
    (Leaf.class c.args.begin) (bracket_here c.requires.within c.requires.bracket r.finds)
    (λ depth. class_leads depth c.requires.within c.requires.bracket r) r.further r.within (omega arith)
    c.class_label.ensures c.leaf.ensures.answer
