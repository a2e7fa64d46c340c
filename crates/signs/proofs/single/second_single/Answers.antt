-- `signs::single::second_single` meets its contract: the dot is a leaf, and a `]` or a `}` is refused.
use Rattle.std.proofs.Common.{arith}
use Rattle.tree.specs.Leaf.{Leaf}
use Rattle.classes.specs.ClassAt.{dot_here}
use Rattle.operands.specs.Surroundings.{fails_end_bracket, fails_end_brace}
use Rattle.signs.specs.ClassLeads.{dot_leads}
use Rattle.operands.specs.ReadingLaws.{leaf_read}
use Rattle.signs.proofs.single.second_single.Goals as goal

pub returns-in-46-clause-answer : goal.returns-in-46-clause-answer
returns-in-46-clause-answer c =
    let dot = c.in-46.is in
    leaf_read c.args.notes.now.places c.args.notes.now.numbers.now c.leaf.new.notes.numbers.now c.leaf.result _
    (Leaf.class c.args.at) (dot_here c.requires.within dot)
    (λ depth. dot_leads c.args.expr.now depth c.args.at c.requires.within dot) (omega arith) (omega arith)
    (omega arith) c.class_label.ensures c.leaf.ensures.answer

pub returns-in-93-clause-answer : goal.returns-in-93-clause-answer
returns-in-93-clause-answer c =
    record { fails = λ depth. fails_end_bracket c.args.expr.now depth c.args.at c.requires.within c.in-93.is }

pub returns-in-125-clause-answer : goal.returns-in-125-clause-answer
returns-in-125-clause-answer c =
    record { fails = λ depth. fails_end_brace c.args.expr.now depth c.args.at c.requires.within c.in-125.is }
