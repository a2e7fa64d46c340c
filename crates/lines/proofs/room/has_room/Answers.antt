-- `lines::room::has_room` meets its contract: there are no more lines than bytes, and else they are counted.
use Rattle.std.proofs.Common.{ℕ, ◌≤◌, List, length, leb, arith, ap, inl, leb-false}
use Rattle.closing.specs.BitsOfWords.Bits.{Tells}
use Rattle.input.specs.Lines.{lines}
use Rattle.input.proofs.LineLaws.{lines_count}
use Rattle.lines.proofs.room.has_room.Goals as goal

-- a byte for each byte of the text is enough
no_more_lines : (text : List ℕ) (room : ℕ) → length text ≤ room
    → Tells (length (lines text) ≤ room) (leb (length text) room)
no_more_lines text room h = record {
  holds = λ e. omega (arith, h, lines_count text);
  fails = λ e k. absurd (omega (arith, h, leb-false (length text) room e));
}

pub count-requires-clause-fits : goal.count-requires-clause-fits
count-requires-clause-fits c = inl (omega (arith, ap length c.of.ensures, lines_count c.args.text.now))

pub returns-then-text-room : goal.returns-then-text-room
returns-then-text-room c = no_more_lines c.args.text.now c.args.room c.if-text-room.true
