-- `exploring::explore::explore` meets its contract: the masks are noted, the marks to start with are kept as the first
-- state, and the others are found from there.
use Prim.Native.Nat.{◌+◌, ◌*◌, ◌≤◌}
use native.Mathlib.Omega.{arith}
use borrow.Author.Rules.{rules}
use lib.ListN.{length, take}
use Rattle.stepping.specs.Inner.{prepared_count, top_low, answered_first}
use Rattle.exploring.specs.Steps.{numbered_first, progress_first, room_parts}
use Rattle.exploring.proofs.explore.explore.Goals as goal

pub note_keys-requires : goal.note_keys-requires
note_keys-requires c =
    let ready = c.requires.ready in
    let prepared = ready.of_tree.1 in (
      omega (arith, prepared_count prepared),
      search (rules, prepared.counted, prepared.few),
      ready.roomy,
      top_low prepared,
    )

pub explore_on-requires-clause-keys : goal.explore_on-requires-clause-keys
explore_on-requires-clause-keys c =
    let a = c.args in
    let pre = c.requires in
    let prepared = pre.ready.of_tree.1 in
    let fits : a.most + a.count * a.most ≤ length a.room.now =
    omega (arith, room_parts a.count a.columns a.most, pre.le_columns.3) in (
      c.note_keys.ensures,
      numbered_first c.note_keys.ensures
          (λ t prepared. (answered_first (c.begin.ensures a.classes.now t prepared)).holding)
          a.most a.room.now pre.le_columns.2
          (search (rules, prepared.counted, prepared.few, c.begin.auto.words)) fits c.keep.ensures,
    )

pub explore_on-requires-clause-progress : goal.explore_on-requires-clause-progress
explore_on-requires-clause-progress c =
    let a = c.args in
    let pre = c.requires in
    let prepared = pre.ready.of_tree.1 in
    let fits : a.most + a.count * a.most ≤ length a.room.now =
    omega (arith, room_parts a.count a.columns a.most, pre.le_columns.3) in
    progress_first c.note_keys.ensures
    (λ t prepared. (answered_first (c.begin.ensures a.classes.now t prepared)).holding) a.most
    a.room.now pre.le_columns.2 (search (rules, prepared.counted, prepared.few, c.begin.auto.words)) fits
    c.keep.ensures (take a.columns a.firsts.now)
