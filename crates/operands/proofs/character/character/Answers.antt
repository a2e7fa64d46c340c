-- `operands::character::character` meets its contract: each answer is one step of the scanner, or two after a `\`.
use Rattle.std.proofs.Common.{sym, ◌∙◌, arith}
use Rattle.tree.specs.Leaf.{character}
use Rattle.operands.specs.Stopping.{not_special}
use Rattle.operands.specs.Surroundings.{leads_plain, leads_escaped, fails_escaped, fails_last, fails_special}
use Rattle.operands.specs.ReadingLaws.{leaf_read}
use Rattle.operands.proofs.character.character.Goals as goal

pub returns-then-place-expr-clause-answer : goal.returns-then-place-expr-clause-answer
returns-then-place-expr-clause-answer c =
    record {
      fails = λ depth. fails_last _ c.args.expr.now depth c.args.at c.if-place-expr.true c.if-byte-eq92.true;
    }

pub returns-then-not-is_special-clause-answer : goal.returns-then-not-is_special-clause-answer
returns-then-not-is_special-clause-answer c =
    record {
      fails = λ depth. fails_escaped _ c.args.expr.now depth c.args.at (omega arith)
          c.if-byte-eq92.true (sym c.is_special.ensures ∙ c.if-not-is_special.true);
    }

pub returns-then-byte-eq92-clause-answer : goal.returns-then-byte-eq92-clause-answer
returns-then-byte-eq92-clause-answer c =
    let special = sym c.is_special.ensures ∙ c.if-not-is_special.false in
    leaf_read c.args.notes.now.places c.args.notes.now.numbers.now c.leaf.new.notes.numbers.now c.leaf.result _ (character _) tt
    (λ depth. leads_escaped _ c.args.expr.now depth c.args.at (omega arith) c.if-byte-eq92.true special)
    (omega arith) (omega arith) (omega arith) c.label_of.ensures c.leaf.ensures.answer

pub returns-then-is_special-clause-answer : goal.returns-then-is_special-clause-answer
returns-then-is_special-clause-answer c =
    record {
      fails = λ depth. fails_special _ c.args.expr.now depth c.args.at c.requires.within c.requires.character
          c.if-byte-eq92.false c.requires.common (sym c.is_special-2.ensures ∙ c.if-is_special.true);
    }

pub returns-clause-answer : goal.returns-clause-answer
returns-clause-answer c =
    let itself = not_special _ (sym c.is_special-2.ensures ∙ c.if-is_special.false) in
    leaf_read c.args.notes.now.places c.args.notes.now.numbers.now c.leaf-2.new.notes.numbers.now c.leaf-2.result _
    (character _) tt
    (λ depth. leads_plain _ c.args.expr.now depth c.args.at c.requires.within itself) (omega arith) (omega arith)
    (omega arith) c.label_of-2.ensures c.leaf-2.ensures.answer
