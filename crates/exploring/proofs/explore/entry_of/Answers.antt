-- `exploring::explore::entry_of` meets its contract: the marks of the state are copied out and moved along the byte;
-- where something is left, it is sought among the states.
use Rattle.std.proofs.Common.{arith, sym, ap, ◌≡◌, ◌∙◌, ◌++◌, ℕ, List, take, drop}
use Rattle.std.proofs.lemmas.Bool.{false≢true}
use Rattle.stepping.specs.Inner.{running, holding_marks, answered_next}
use Rattle.exploring.specs.Room.{marks_of}
use Rattle.exploring.specs.Leads.{copied_clean, copied_holding, leads_nowhere, leads_on_to}
use Rattle.exploring.proofs.explore.entry_of.Goals as goal
use Rattle.exploring.proofs.explore.entry_of.Goals.{After-copy}

-- the marks of the state are at the front of the words
copied : (c : After-copy) → let a = c.args in
    c.copy.new.to ≡ take a.layout.now.count (marks_of a.layout.now.count a.layout.now.most a.room.now a.state)
    ++ drop a.layout.now.count a.words.now
copied c = let a = c.args in
    c.copy.ensures
    ∙ ap (λ (marks : List ℕ). take a.layout.now.count marks ++ drop a.layout.now.count a.words.now) c.marks.ensures

pub advance-told-requires : goal.advance-told-requires
advance-told-requires c =
    let a = c.args in
    let pre = c.requires in
    running pre.ready (omega arith)
    (λ t prepared. copied_clean prepared (drop a.layout.now.count a.words.now) a.layout.now.most a.room.now a.state
    (omega (arith, pre.state_lt_states.0, pre.state_lt_states.1)) pre.state_lt_states.2 (copied (goal.at.advance-told-requires c).After-copy) (pre.clean t prepared))

pub returns-then-told : goal.returns-then-told
returns-then-told c =
    λ t w prepared holding.
    let a = c.args in
    let pre = c.requires in
    let held = copied_holding prepared (drop a.layout.now.count a.words.now) a.layout.now.most a.room.now a.state
    (omega (arith, pre.state_lt_states.0, pre.state_lt_states.1)) pre.state_lt_states.2 (copied (goal.at.returns-then-told c).After-copy) holding in
    let stepped = c.advance-told.ensures t prepared (holding_marks held) in
    leads_nowhere (answered_next held stepped).holding _ _ _ _ _ (stepped.left.0 c.if-told.true)

pub returns : goal.returns
returns c =
    λ t w prepared holding.
    let a = c.args in
    let pre = c.requires in
    let held = copied_holding prepared (drop a.layout.now.count a.words.now) a.layout.now.most a.room.now a.state
    (omega (arith, pre.state_lt_states.0, pre.state_lt_states.1)) pre.state_lt_states.2 (copied (goal.at.returns c).After-copy) holding in
    let stepped = c.advance-told.ensures t prepared (holding_marks held) in
    rw c.unwrap_or.ensures (leads_on_to (answered_next held stepped).holding
    (λ zeros. false≢true (sym c.if-told.false ∙ stepped.left.1 zeros)) c.find.ensures)
