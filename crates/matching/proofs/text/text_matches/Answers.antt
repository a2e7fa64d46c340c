-- `matching::text::text_matches` meets its contract: before each byte the words hold the marks after those before it,
-- and `yes` says whether these are in the language.
use Rattle.std.proofs.Common.{ℕ, ◌+◌, ◌≡◌, sym, subst, true, false, ◌↔◌, List, ◌++◌, take, drop, take-append-drop, take_all, arith, rules}
use Rattle.std.proofs.lemmas.Bool.{false≢true}
use Rattle.language.specs.Tree.{Tree}
use Rattle.tree.specs.Leaf.{Leaf, Matches}
use Rattle.moving.specs.Remembered.{remembers_none}
use Rattle.stepping.specs.Texts.{nothing_left}
use Rattle.stepping.specs.Inner.{running, holding_marks, answered_first, answered_next}
use Rattle.matching.specs.Taken.{take_next}
use Rattle.matching.proofs.text.text_matches.Goals as goal

-- no text that begins so is in the language, and this one does
never_matches : (classes : List ℕ) (t : Tree Leaf) (text : List ℕ) (i : ℕ)
    → ((v : List ℕ) → Matches classes t (take i text ++ v) → ⊥)
    → (false ≡ true) ↔ Matches classes t text
never_matches classes t text i none = (
  λ e. absurd (false≢true e),
  λ m. absurd (none (drop i text) (subst (Matches classes t) (sym (take-append-drop i text)) m)),
)

pub loop-byte-init : goal.loop-byte-init
loop-byte-init c = record {
  wide = search rules;
  ready = search rules;
  answered = λ t prepared. answered_first (c.begin_in-yes.ensures _ t prepared);
  remembers = remembers_none _ _;
}

pub advance_by_memo-told-requires-clause-running : goal.advance_by_memo-told-requires-clause-running
advance_by_memo-told-requires-clause-running c =
    let at = c.loop-byte.invariant in
    running at.ready at.wide (λ t prepared. (at.answered t prepared).holding.clean)

pub returns-then-told : goal.returns-then-told
returns-then-told c =
    λ t prepared.
    let holding = (c.loop-byte.invariant.answered t prepared).holding in
    let went = c.advance_by_memo-told.ensures.advanced t prepared (holding_marks holding) in
    never_matches c.args.classes.now t c.args.text.now (c.loop-byte.byte-index + 1)
    (rw (← take_next c.args.text.now c.loop-byte.byte-index (omega arith))
    (nothing_left (answered_next holding went).holding (went.left.0 c.if-told.true)))

pub loop-byte-preserved : goal.loop-byte-preserved
loop-byte-preserved c = record {
  wide = search rules;
  ready = search rules;
  answered = λ t prepared.
      let holding = (c.loop-byte.invariant.answered t prepared).holding in
      rw (← take_next c.args.text.now c.loop-byte.byte-index (omega arith))
      (answered_next holding (c.advance_by_memo-told.ensures.advanced t prepared (holding_marks holding)));
  remembers = c.advance_by_memo-told.ensures.remembers_2;
}

pub returns : goal.returns
returns c =
    λ t prepared.
    rw (← take_all c.loop-byte.byte-index c.args.text.now (omega arith))
    (c.loop-byte.invariant.answered t prepared).answer
