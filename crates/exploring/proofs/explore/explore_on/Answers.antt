-- `exploring::explore::explore_on` meets its contract: the room holds the states that were found and p entries. The
-- measure is how many entries there is still room for.
use Rattle.std.proofs.Common.{arith, length, ◌≡◌, ◌∙◌}
use Rattle.exploring.specs.Steps.{words_fit, entry_fits, state_held, exploring_next, progress_next, too_many, found_all}
use Rattle.exploring.proofs.explore.explore_on.Goals as goal

pub entry_of-entry-requires-clause-clean : goal.entry_of-entry-requires-clause-clean
entry_of-entry-requires-clause-clean c = λ t prepared.
    (state_held c.loop-p.invariant.0 c.loop-p-test.true (c.loop-p.invariant.2 t prepared)).clean

pub returns-then-entry-layout : goal.returns-then-entry-layout
returns-then-entry-layout c =
    λ t prepared.
    let here = c.loop-p.invariant.0 in
    let so_far = c.loop-p.invariant.2 t prepared in
    let inside = c.loop-p-test.true in
    let leads = c.entry_of-entry.ensures t _ prepared (state_held here inside so_far) in
    too_many prepared here.keys c.args.firsts.now c.args.columns here.some here.enough
    inside so_far leads (omega (arith, leads.within, c.if-entry-layout.true)) (omega (arith, c.if-entry-layout.true, here.few))
    here.numbered

pub loop-p-preserved : goal.loop-p-preserved
loop-p-preserved c =
    let here = c.loop-p.invariant.0 in
    let inside = c.loop-p-test.true in
    let as_long : length c.entry_of-entry.new.words ≡ length c.loop-p.words = omega arith in (
      exploring_next here inside (omega (arith, c.if-entry-layout.false)) c.enter-states.auto.room
          as_long c.enter-states.ensures,
      c.enter-states.auto.room ∙ c.loop-p.invariant.1,
      λ t prepared.
          let so_far = c.loop-p.invariant.2 t prepared in
          let leads = c.entry_of-entry.ensures t _ prepared (state_held here inside so_far) in
          progress_next prepared here.keys c.args.firsts.now c.args.columns here.some
          here.enough inside so_far leads here.few (omega (arith, c.if-entry-layout.false))
          here.numbered (omega (arith, words_fit here, as_long)) (entry_fits here inside) c.enter-states.ensures,
    )

pub returns : goal.returns
returns c =
    λ t prepared.
    let here = c.loop-p.invariant.0 in
    found_all c.args.firsts.now c.args.columns here.enough here.few
    (c.loop-p.invariant.2 t prepared)
    (omega (arith, here.not_past, c.loop-p-test.false))
