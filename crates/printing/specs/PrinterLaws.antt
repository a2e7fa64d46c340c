-- What a printer prints in parts is printed together: bytes one after the other, none, and the digits of a number.
use Rattle.std.specs.Prelude.{ℕ, ◌/◌, ◌%◌, ◌≤◌, ◌<◌, ◌≡◌, List, [], ◌∷◌, ◌++◌, refl}
use Rattle.std.proofs.Common.{◌∙◌, length}
use Rattle.printing.specs.Digits.{digit, digits}
use Rattle.printing.specs.Printer.{HasRoom, Puts}
use Rattle.printing.specs.Printing.{Prints}
use Rattle.printing.specs.PrintingLaws.{prints_join, prints_none, prints_small, prints_large}
use Rattle.printing.specs.declared.print.Printer.{Printer}

-- bytes printed one after the other are printed together
pub puts_join : {before middle after : Printer} {xs ys : List ℕ} → Puts before xs middle → Puts middle ys after
    → Puts before (xs ++ ys) after
puts_join p q = record {
  same_buffer = q.same_buffer ∙ p.same_buffer;
  prints = prints_join p.prints q.prints;
}

-- no bytes printed
pub puts_none : {printer : Printer} → printer.at ≤ length printer.out.now → Puts printer [] printer
puts_none {printer} room = record {
  same_buffer = refl;
  prints = prints_none printer.out.now printer.at room;
}

-- a printer that began at the front of a buffer, and what stands there when it is done
pub puts_front : {before after bytes : List ℕ} {first last : Printer} → (first.out.now ≡ before) × (first.at ≡ 0)
    → Puts first bytes last → after ≡ last.out.now → Prints before 0 bytes after last.at
puts_front {before} {after} {bytes} {first} {last} begun puts back =
    rw (← begun.0, ← begun.1, back) puts.prints

module _ (printer : Printer) (n : ℕ) (room : HasRoom printer (length (digits n))) where
  -- a number below 10 is printed as its digit
  pub puts_small : {after : Printer} → n < 10 → Puts printer (digit n ∷ []) after → Puts printer (digits n) after
  puts_small small p = record {
    same_buffer = p.same_buffer;
    prints = prints_small printer.out.now printer.at n room small p.prints;
  }

  -- another number is printed as the digits of its tenth, then its last
  pub puts_large : {middle after : Printer} → 10 ≤ n → Puts printer (digits (n / 10)) middle
      → Puts middle (digit (n % 10) ∷ []) after → Puts printer (digits n) after
  puts_large large p q = record {
    same_buffer = q.same_buffer ∙ p.same_buffer;
    prints = prints_large printer.out.now printer.at n room large p.prints q.prints;
  }
