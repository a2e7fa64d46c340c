-- `lines::lines` meets its contract: what match refuses of the whole text is refused, then a buffer that is too
-- short; otherwise the rows are those of the list's tree, and the promise is that of `answer_lines`.
use Rattle.std.proofs.Common.{◌≤◌, arith, rules, refl, List, ℕ, length}
use Rattle.std.proofs.lemmas.Result.{err_from_is_err_and}
use Rattle.tree.specs.declared.counted.Counts.{Counts}
use Rattle.tree.specs.Limits.{longest_text}
use Rattle.preparing.specs.MadeFor.{ReadyFor, told_refused}
use Rattle.finder.specs.Promise.{OfGood}
use Rattle.finder.specs.Refusals.{Answerable}
use Rattle.finder.specs.Finds.{refused_for, refused_long}
use Rattle.lines.specs.Promise.{lines_refused, lines_no_room, lines_answered}
use Rattle.lines.specs.LinesLoop.{written_tells, line_says}
use Rattle.lines.proofs.lines.Goals as goal

module _ {list classes text rows : List ℕ} {counts : Counts} (ready : ReadyFor list classes counts rows)
    (short : length text ≤ longest_text) where
  -- the text can be matched
  answerable : Answerable list classes text
  answerable = record {
    t = ready.known.tree;
    good = ready.known.is_good;
    classed = ready.classed ready.known.tree ready.known.is_good;
    short = short;
  }

  -- and what holds without the tree holds
  of_ready : {A : Type 0} → A → OfGood list classes text (λ t. A)
  of_ready holds = record {
    t = ready.known.tree;
    good = ready.known.is_good;
    classed = ready.classed ready.known.tree ready.known.is_good;
    short = short;
    holds = holds;
  }

pub returns-in_err-counts : goal.returns-in_err-counts
returns-in_err-counts c =
    let p = err_from_is_err_and c.from_residual.result c.from_residual.ensures.1 in
    rw (p.1, p.2) (lines_refused (refused_for _ (told_refused c.in_err-counts.ensures)) refl)

pub returns-then-text-gt-LONGEST_TEXT : goal.returns-then-text-gt-LONGEST_TEXT
returns-then-text-gt-LONGEST_TEXT c =
    lines_refused (refused_long _ c.in_ok-counts.ensures.fits c.if-text-gt-LONGEST_TEXT.true) refl

pub returns-then-not-has_room : goal.returns-then-not-has_room
returns-then-not-has_room c =
    lines_no_room
    (of_ready c.in_ok-counts.ensures.fits c.if-text-gt-LONGEST_TEXT.false
    (omega (arith, c.has_room.ensures.fails c.if-not-has_room.true))) refl

pub returns : goal.returns
returns c =
    let ready = c.in_ok-counts.ensures.fits in
    let taken = answerable ready c.if-text-gt-LONGEST_TEXT.false in
    lines_answered (of_ready ready c.if-text-gt-LONGEST_TEXT.false
    (written_tells (λ line matched short says. line_says taken line matched short (let p = ready.prepared taken.t taken.good in search rules)) c.answer_lines.ensures))
