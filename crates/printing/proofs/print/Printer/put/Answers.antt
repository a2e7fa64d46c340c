-- `printing::print::Printer::put` meets its contract: the bytes are copied to the place.
use Rattle.std.proofs.Common.{refl, arith, ◌+◌, ◌-◌, ◌≡◌, length, append_assoc, drop-drop}
use borrow.Rule.Slice.PartMut.{same_len_mid}
use Rattle.printing.specs.Printing.{printed}
use Rattle.printing.proofs.print.Printer.put.Goals as goal

pub returns : goal.returns
unfolding printed
returns c =
    let h = c.copy_from_slice.ensures in
    let back : c.args.self.now.at + length c.args.bytes.now - c.args.self.now.at ≡ length c.args.bytes.now = omega arith in
    record {
      same_buffer = refl;
      prints = record {
        within = c.requires;
        next_place = refl;
        kept_length = same_len_mid _ _ _ _ h.len;
        written = rw (h.after, back, append_assoc, drop-drop);
      };
    }
