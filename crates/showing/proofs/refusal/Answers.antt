-- `showing::refusal` meets its contract: the marked lines, then the words; nothing where the buffer is too short.
use Rattle.std.proofs.Common.{rules, arith, ap, length}
use borrow.Author.Tests.{lt-ltb, le-ltb}
use Rattle.printing.specs.PrintingLaws.{prints_none}
use Rattle.printing.specs.PrinterLaws.{puts_join, puts_front}
use Rattle.wording.specs.RefusalWordsLaws.{told_length}
use Rattle.showing.specs.Refusal.{most_shown}
use Rattle.showing.specs.CutShortLaws.{marked_length}
use Rattle.showing.proofs.refusal.Goals as goal

pub returns-then-out-lt-MOST_SHOWN : goal.returns-then-out-lt-MOST_SHOWN
returns-then-out-lt-MOST_SHOWN c =
    rw (lt-ltb (length c.args.out.now) most_shown (omega arith)) (prints_none _ _ (omega arith))

pub put_marked-requires : goal.put_marked-requires
put_marked-requires c =
    omega (
      arith,
      c.new-printer.ensures.front,
      ap length c.new-printer.ensures.front.0,
      marked_length c.args.expression.now c.args.place,
    )

pub put_told-requires : goal.put_told-requires
put_told-requires c =
    omega (
      arith,
      c.new-printer.ensures.front,
      ap length c.new-printer.ensures.front.0,
      marked_length c.args.expression.now c.args.place,
      told_length c.args.number c.args.place (omega arith) (omega arith),
    )

pub returns : goal.returns
returns c =
    let printed = puts_join c.put_marked.ensures c.put_told.ensures in
    rw (le-ltb (length c.args.out.now) most_shown (omega arith))
    (puts_front c.new-printer.ensures.front printed (search rules))
