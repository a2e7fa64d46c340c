-- `writing::write_column` meets its contract: each value is written behind those before it.
use Rattle.std.proofs.Common.{arith, refl}
use Rattle.writing.specs.FilledLaws.{filled_next}
use Rattle.writing.proofs.write_column.Goals as goal

pub loop-text-preserved : goal.loop-text-preserved
loop-text-preserved g c = λ v told.
    filled_next _ _ (c.loop-text.invariant v told) refl (omega arith) (told _ _ (omega arith) c.value.ensures)
