-- Printing into a buffer: bytes one after the other, none, one byte, and the digits of a number.
use Rattle.std.specs.Prelude.{ℕ, suc, ◌+◌, ◌/◌, ◌%◌, ◌≤◌, ◌<◌, ◌≡◌, refl, set}
use Rattle.std.proofs.Math.Path.{sym, ap}
use Rattle.std.proofs.Common.{◌∙◌, add_assoc, add-one, arith, length-append, length-set, drop_at, length-take-le}
use mathlib.Core.List.{List, [], ◌∷◌, ◌++◌, append_assoc}
use Rattle.std.proofs.Math.ListN.{length, take, drop}
use Rattle.std.proofs.Math.Seq.{take_at, drop-drop, append_snoc, take-length, paste, paste-zero}
use Rattle.std.proofs.lemmas.List.{set_split}
use Rattle.printing.specs.Digits.{digit, digits}
use Rattle.printing.specs.DigitLaws.{digits_small, digits_large}
use Rattle.printing.specs.Printing.{printed, Prints}

module _ (buffer : List ℕ) (at : ℕ) (xs : List ℕ) (room : at + length xs ≤ length buffer) where
  -- what stands before the bytes, with the bytes
  head_length : length (take at buffer ++ xs) ≡ at + length xs
  head_length = simp length-append (rw (length-take-le at buffer (omega arith)))

  -- the buffer up to the next place
  pub printed_take : take (at + length xs) (printed buffer at xs) ≡ take at buffer ++ xs
  unfolding printed
  printed_take = take_at (take at buffer ++ xs) (drop (at + length xs) buffer) (at + length xs) head_length

  -- the buffer from the next place on is as it was
  pub printed_drop : (more : ℕ) → drop (at + length xs + more) (printed buffer at xs)
      ≡ drop (at + length xs + more) buffer
  unfolding printed
  printed_drop more =
      sym (drop-drop more (at + length xs) (printed buffer at xs))
      ∙ ap (drop more) (drop_at (take at buffer ++ xs) (drop (at + length xs) buffer) (at + length xs) head_length)
      ∙ drop-drop more (at + length xs) buffer

  -- more bytes printed after the first
  pub printed_join : (ys : List ℕ) → printed (printed buffer at xs) (at + length xs) ys ≡ printed buffer at (xs ++ ys)
  unfolding printed
  printed_join ys =
      ap (λ (front : List ℕ). front ++ ys ++ drop (at + length xs + length ys) (printed buffer at xs)) printed_take
      ∙ ap (λ (rest : List ℕ). (take at buffer ++ xs) ++ ys ++ rest) (printed_drop (length ys))
      ∙ ap (λ (rest : List ℕ). rest ++ drop (at + length xs + length ys) buffer) (append_assoc (take at buffer) xs ys)
      ∙ ap (λ (n : ℕ). take at buffer ++ (xs ++ ys) ++ drop n buffer) (add_assoc at (length xs) (length ys)
      ∙ ap (λ (n : ℕ). at + n) (sym (length-append xs ys)))

-- bytes printed one after the other are printed together
pub prints_join : {before xs middle ys after : List ℕ} {at next end : ℕ} → Prints before at xs middle next
    → Prints middle next ys after end → Prints before at (xs ++ ys) after end
prints_join {before} {xs} {middle} {ys} {after} {at} {next} {end} p q = record {
  within = rw length-append (omega (arith, p, q));
  next_place = rw length-append (omega (arith, p, q));
  kept_length = q.kept_length ∙ p.kept_length;
  written = q.written ∙ rw (p.written, p.next_place) (printed_join before at xs p.within ys);
}

-- no bytes printed
pub prints_none : (before : List ℕ) (at : ℕ) → at ≤ length before → Prints before at [] before at
unfolding printed
prints_none before at h = record {
  within = omega arith;
  next_place = omega arith;
  kept_length = refl;
  written =
      paste-zero before at [];
}

-- one byte stored
pub prints_byte : (before : List ℕ) (at byte : ℕ) → at < length before
    → Prints before at (byte ∷ []) (set before at byte) (at + 1)
unfolding printed
prints_byte before at byte h = record {
  within = omega arith;
  next_place = refl;
  kept_length = simp length-set;
  written = set_split before at byte h ∙ sym (append_snoc (take at before) byte (drop (suc at) before)) ∙ rw add-one;
}

-- bytes copied one by one, up to the last
pub prints_copied : (before : List ℕ) (at : ℕ) (bytes after : List ℕ) (i : ℕ) → at + length bytes ≤ length before
    → i ≡ length bytes → length after ≡ length before → after ≡ paste before at bytes i
    → Prints before at bytes after (at + length bytes)
unfolding printed
prints_copied before at bytes after i within whole kept copied = record {
  within = within;
  next_place = refl;
  kept_length = kept;
  written = copied ∙ rw (whole, take-length);
}

module _ (before : List ℕ) (at n : ℕ) (room : at + length (digits n) ≤ length before) where
  -- a number below 10 is printed as its digit
  pub prints_small : {after : List ℕ} {next : ℕ} → n < 10 → Prints before at (digit n ∷ []) after next
      → Prints before at (digits n) after next
  prints_small h p = rw (digits_small n h) p

  -- there is room for a small number's digit
  pub small_room : n < 10 → at < length before
  small_room h = omega (arith, ap length (digits_small n h))

  -- there is room for the digits of the tenth and one more
  pub large_room : 10 ≤ n → at + length (digits (n / 10)) + 1 ≤ length before
  large_room h = omega (arith, ap length (digits_large n h) ∙ length-append (digits (n / 10)) (digit (n % 10) ∷ []))

  -- another number is printed as the digits of its tenth, then its last
  pub prints_large : {middle after : List ℕ} {last next : ℕ} → 10 ≤ n → Prints before at (digits (n / 10)) middle last
      → Prints middle last (digit (n % 10) ∷ []) after next → Prints before at (digits n) after next
  prints_large h p q = rw (digits_large n h) (prints_join p q)
