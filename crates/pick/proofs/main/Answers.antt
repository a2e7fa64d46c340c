-- The buffer has a byte more than an input may have, and so the space that is asked.
use Rattle.std.proofs.Common.{arith}
use Rattle.reporting.specs.OutputCases.{output_long}
use Rattle.pick.proofs.main.Goals as goal

pub run-requires : goal.run-requires
run-requires c = record { space = record { too_long = λ input full. output_long _ input (omega (arith, full)) } }
