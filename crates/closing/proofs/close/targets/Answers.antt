-- `closing::close::targets` meets its contract: each state that is taken from the word adds what its jump leads to.
use Rattle.std.proofs.Common.{ℕ, ◌%◌, ap}
use Rattle.tables.specs.Words.{word_bits}
use Rattle.closing.specs.Passes.Jumping.{jumped_more}
use Rattle.closing.proofs.close.targets.Goals as goal

pub loop-state-preserved : goal.loop-state-preserved
loop-state-preserved c =
    jumped_more c.loop-state.invariant c.in-Some.ensures.steps.0
    (ap (λ (n : ℕ). n % word_bits) c.byte-target.ensures) c.with_bit-reached.ensures c.in-Some.ensures.steps.2
