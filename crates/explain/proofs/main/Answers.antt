-- The buffer has a byte more than an input may have, and so the space that is asked.
use Rattle.std.proofs.Common.{arith}
use Rattle.explaining.specs.Rule.{explained_long}
use Rattle.explain.proofs.main.Goals as goal

pub run-requires : goal.run-requires
run-requires c = record { space = record { too_long = λ input full. explained_long input (omega (arith, full)) } }
