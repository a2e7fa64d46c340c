-- `printing::print::put_digits` meets its contract: a number below 10 is its digit, another one the digits of its tenth,
-- then its last.
use Rattle.std.proofs.Common.{rules, arith}
use Rattle.printing.specs.PrintingLaws.{prints_byte, prints_small, prints_large, small_room, large_room}
use Rattle.printing.proofs.print.+put_digits.Goals as goal

pub bounds-out-at : goal.bounds-out-at
bounds-out-at t c = small_room c.args.out.now c.args.at c.args.n c.requires (omega arith)

pub returns-then-n-lt10 : goal.returns-then-n-lt10
returns-then-n-lt10 t c =
    prints_small c.args.out.now c.args.at c.args.n c.requires (omega arith)
    (prints_byte _ _ _ (small_room c.args.out.now c.args.at c.args.n c.requires (omega arith)))

pub put_digits-last-requires : goal.put_digits-last-requires
put_digits-last-requires t c = (
  search rules,
  omega (arith, large_room c.args.out.now c.args.at c.args.n c.requires (omega arith)),
)

pub bounds-out-last : goal.bounds-out-last
bounds-out-last t c =
    let printed = c.put_digits-last.ensures in
    omega (
      arith,
      printed.next_place,
      printed.kept_length,
      large_room c.args.out.now c.args.at c.args.n c.requires (omega arith),
    )

pub returns : goal.returns
returns t c =
    let printed = c.put_digits-last.ensures in
    let room = large_room c.args.out.now c.args.at c.args.n c.requires (omega arith) in
    prints_large c.args.out.now c.args.at c.args.n c.requires (omega arith) printed
    (prints_byte _ _ _ (omega (arith, printed.next_place, printed.kept_length, room)))
