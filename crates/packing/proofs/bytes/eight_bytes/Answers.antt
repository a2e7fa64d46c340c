-- `packing::bytes::eight_bytes` meets its contract, by the byte of one state more below the others.
use Rattle.std.proofs.Common.{◌-◌, arith}
use Rattle.packing.specs.StateBytes.{bytes_more, bytes_fit}
use Rattle.packing.proofs.bytes.eight_bytes.Goals as goal

pub overflow_mul-word : goal.overflow_mul-word
overflow_mul-word c = record { fits = omega (arith, bytes_fit c.loop-place.invariant (omega arith)) }

pub overflow_add-word : goal.overflow_add-word
overflow_add-word c =
    record {
      fits =
          omega (arith, c.byte_at.ensures.by_codes.small, bytes_fit c.loop-place.invariant (omega arith));
    }

pub loop-place-preserved : goal.loop-place-preserved
loop-place-preserved c =
    rw c.from.ensures (bytes_more c.args.first (c.loop-place.place - 1) c.loop-place.invariant c.byte_at.ensures
    (omega arith) (omega arith))
