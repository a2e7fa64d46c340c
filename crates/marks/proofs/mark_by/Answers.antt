-- `marks::mark_by` meets its contract: too few words are refused; a start marks and closes by the rows, and steps refuse
-- words that are no marks and move on from others.
use Rattle.std.proofs.Common.{false, refl, sym, subst, arith}
use Rattle.std.proofs.lemmas.Bool.{false≢true}
use Rattle.stepping.specs.Inner.{prepared_checkable, prepared_told}
use Rattle.marks.specs.declared.Work.{Work}
use Rattle.tree.specs.RefusalNumbers.{words_not_marks}
use Rattle.marks.specs.Answer.{refusing_marks, marking}
use Rattle.marks.specs.Promise.{started}
use Rattle.marks.specs.Works.{Works}
use Rattle.marks.proofs.AlongLaws.{each_not_marks}
use Rattle.marks.proofs.WorksLaws.{works_too_few}
use Rattle.marks.proofs.mark_by.Goals as goal

pub returns-then-words-pieces : goal.returns-then-words-pieces
returns-then-words-pieces c = λ list t prepared good classed.
    works_too_few list c.args.classes.now c.args.words.now c.args.work
    (t, good, classed, omega (arith, prepared.counted, c.if-words-pieces.true))

pub returns-in_default : goal.returns-in_default
returns-in_default c = λ list t prepared good classed.
    let marked = c.begin.ensures c.args.classes.now t prepared in
    subst (λ (work : Work). Works list c.args.classes.now c.args.words.now c.begin.new.words work (marking c.begin.result false)) (sym c.in_default.is)
    (started (record {
      t = t;
      good = good;
      classed = classed;
      enough = omega (arith, prepared.counted, c.if-words-pieces.false);
      hold = marked.hold;
      marks = refl;
      answer = marked.answer;
      left = (λ e. absurd (false≢true e), λ zeros. absurd (marked.some zeros));
    }))

pub agreeing-requires : goal.agreeing-requires
agreeing-requires c =
    prepared_checkable c.requires.of_tree.1 c.requires.roomy (omega (arith, c.if-words-pieces.false))

pub returns-then-not-agreeing : goal.returns-then-not-agreeing
returns-then-not-agreeing c = λ list t prepared good classed.
    let tells = prepared_told prepared c.args.words.now c.agreeing.ensures in
    subst (λ (work : Work). Works list c.args.classes.now c.args.words.now c.args.words.now work (refusing_marks words_not_marks)) (sym c.in-Steps.is)
    (each_not_marks (record {
      because = (
        t,
        good,
        classed,
        omega (arith, prepared.counted, c.if-words-pieces.false),
        λ marks. tells.fails c.if-not-agreeing.true (marks.clean, marks.agreeing),
      );
      refuses = refl;
      unchanged = refl;
    }) _)

pub advance_along-requires : goal.advance_along-requires
advance_along-requires c =
    let prepared = c.requires.of_tree.1 in
    let both = (prepared_told prepared c.args.words.now c.agreeing.ensures).holds c.if-not-agreeing.false in
    record {
      ready = c.requires;
      enough = omega (arith, c.if-words-pieces.false);
      marks = record { clean = both.0; agreeing = both.1 };
    }

pub returns : goal.returns
returns c = λ list t prepared good classed.
    let both = (prepared_told prepared c.args.words.now c.agreeing.ensures).holds c.if-not-agreeing.false in
    subst (λ (work : Work). Works list c.args.classes.now c.args.words.now c.advance_along.new.words work
    (marking c.advance_along.result.accepting c.advance_along.result.nothing))
    (sym c.in-Steps.is)
    (c.advance_along.ensures list t prepared (record {
      good = good;
      classed = classed;
      enough = omega (arith, prepared.counted, c.if-words-pieces.false);
      marks = record { clean = both.0; agreeing = both.1 };
    }))
