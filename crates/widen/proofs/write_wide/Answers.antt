-- `widen::write_wide` meets its contract, by what a byte more makes of the wide list so far.
use Rattle.std.proofs.Common.{arith, rules}
use Rattle.widen.specs.OldLayoutLaws.{one_more_byte, all_bytes}
use Rattle.widen.proofs.write_wide.Goals as goal

pub loop-j-preserved : goal.loop-j-preserved
loop-j-preserved c =
    one_more_byte c.args.old.now c.args.out.now c.loop-j.out c.loop-j.j _ (omega arith) (search rules)
    c.loop-j.invariant

pub returns : goal.returns
returns c =
    all_bytes c.args.old.now c.args.out.now c.loop-j.out c.loop-j.j (omega arith) c.loop-j.invariant
