-- `running::run::runs` meets its contract: where a byte leads to state 0, no text that begins so is accepted.
use Rattle.std.proofs.Common.{arith, ◌+◌}
use Rattle.running.specs.RunLaws.{led_on, not_accepted}
use Rattle.running.proofs.run.runs.Goals as goal

pub returns-then-state-eq-NOWHERE : goal.returns-then-state-eq-NOWHERE
returns-then-state-eq-NOWHERE c =
    let table = c.args.table.now in
    let text = c.args.text.now in
    let at = c.loop-byte.byte-index in
    let gone = led_on table text at c.loop-byte.state (omega arith) c.loop-byte.invariant.1 in
    not_accepted table text (at + 1) c.entry_of-state.result (omega arith) (cc (gone, c.loop-byte.invariant.2))
