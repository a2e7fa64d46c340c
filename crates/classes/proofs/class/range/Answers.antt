-- `classes::class::range` meets its contract: the last byte is read, and the first must not be above it.
use mathlib.Core.Path.{refl}
use native.Mathlib.Omega.{arith}
use Rattle.classes.specs.ClassReading.{last_on, above_bad, bad_byte_range}
use Rattle.classes.proofs.class.range.Goals as goal

pub returns-in_err-byte : goal.returns-in_err-byte
returns-in_err-byte c =
    rw c.from_residual.ensures (bad_byte_range c.args.first c.in_err-byte.ensures)

pub returns-then-byte-first : goal.returns-then-byte-first
returns-then-byte-first c =
    above_bad c.in_ok-byte.ensures c.args.first (omega arith)

pub returns : goal.returns
returns c =
    let r = c.in_ok-byte.ensures in
    record {
      same = refl;
      on = λ class. last_on r c.args.first (omega arith) class;
      ordered = omega arith;
      further = r.further;
      within = r.within;
    }
