-- What packing needs of a piece's codes, and the row that it makes of them.
use Rattle.std.specs.Prelude.{ℕ, ◌+◌, ◌*◌, ◌-◌, ◌/◌, ◌%◌, ◌≤◌, ◌<◌, ◌≡◌, refl, ◌⊎◌, ◌↔◌, List, length, get_or, set}
use Rattle.std.proofs.Common.{sym, ap, ◌∙◌, inl, inr, ⊎_elim, arith, get_or-set_same, get_or-set_other}
use Rattle.std.proofs.Math.Path.{subst}
use Rattle.tables.specs.Words.{word_bits, Bit}
use Rattle.tables.specs.Plan.{
  row_size,
  row_words,
  word_of,
  run_of,
  stand_of,
  top_of,
  byte_of,
  Jumps,
  IsLeaf,
  IsClass,
  RowOf,
}
use Rattle.packing.specs.Masks.{Mask, MaskWord, MasksNoted}
use Rattle.packing.specs.StateBytes.{ByteAt, BytesNoted, noted_byte}

-- a code has its place in a row: a jump goes to one of 64 states, a character is a byte, and the number of a class is
-- below 1,024
pub record FitsRow (code : ℕ) : Type 0 where
  pub target : Jumps code → code / 4 < word_bits
  pub character : IsLeaf code → (IsClass code → ⊥) → code / 4 ≤ 2 * 256
  pub class : IsClass code → code / 4 < 2 * 1024

-- the codes of n states have their places in a row: after a class's start comes a state that is no leaf's
pub record Packable (codes : List ℕ) (n : ℕ) : Type 0 where
  pub some : 1 ≤ n
  pub few : n ≤ row_size
  pub room : row_size ≤ length codes
  pub each : (i : ℕ) → i < n → FitsRow (get_or codes i 0)
  pub paired : (i : ℕ) → i < n → IsClass (get_or codes i 0) → (i + 1 < n) × (IsLeaf (get_or codes (i + 1) 0) → ⊥)

-- the row of the piece says what the codes of its n states say, and where the piece stands; the other words are as
-- before
pub record Packed (codes before after : List ℕ) (piece n run stand : ℕ) : Type 0 where
  pub row : RowOf after codes piece n
  pub ran : run_of after piece ≡ run
  pub stood : stand_of after piece ≡ stand
  pub topped : top_of after piece ≡ n - 1
  pub others : (e : ℕ) → (e < row_words * piece) ⊎ (row_words * piece + row_words ≤ e)
      → get_or after e 0 ≡ get_or before e 0

-- the number of a class from the bytes of its start and of the next state
class_number : (code low high : ℕ) → IsClass code → code / 4 < 2 * 1024 → low ≡ code / 8 % 256
    → high / word_bits ≡ code / 2048 → 2 * (low + 256 * (high / word_bits)) + 1 ≡ code / 4
class_number code low high is-class small e f = omega (arith, is-class.1, e, f)

module _ {codes before mid after : List ℕ} (piece n run stand : ℕ) {v : ℕ} (packable : Packable codes n)
    (room : row_words * piece + row_words ≤ length before) (masks : MasksNoted codes before mid piece n)
    (numbers : v ≡ run + 256 * stand + 65536 * (n - 1))
    (bytes : BytesNoted codes (set mid (row_words * piece + 4) v) after piece n)
    (small-run : run < 256) (small-stand : stand < 256) where
  -- a mask stays where the numbers and the bytes are stored
  mask_kept : (j : ℕ) → j < 4 → word_of after piece j ≡ word_of mid piece j
  mask_kept j h = bytes.others (row_words * piece + j) (inl (omega arith))
      ∙ get_or-set_other mid (row_words * piece + 4) (row_words * piece + j) v 0 (λ e. omega arith)

  mask : (j i : ℕ) → j < 4 → Bit (word_of after piece j) i ↔ ((i < n) × Mask j (get_or codes i 0))
  unfolding MaskWord
  mask j i h =
      subst (λ (w : ℕ). Bit w i ↔ ((i < n) × Mask j (get_or codes i 0))) (sym (mask_kept j h))
      ((masks.anew j h).exactly i)

  -- so do the numbers
  numbers_kept : word_of after piece 4 ≡ run + 256 * stand + 65536 * (n - 1)
  numbers_kept = bytes.others (row_words * piece + 4) (inl (omega arith))
      ∙ get_or-set_same mid (row_words * piece + 4) v 0 (omega (arith, masks.same_length)) ∙ numbers

  byte : (i : ℕ) → i < n → ByteAt codes i (byte_of after piece i)
  byte i h = noted_byte piece n bytes i h

  -- the row is that of the codes
  pub packed : Packed codes before after piece n run stand
  packed = record {
    row = record {
      leading = λ i. mask 0 i (omega arith);
      jumping = λ i. mask 1 i (omega arith);
      leaves = λ i. mask 2 i (omega arith);
      classes = λ i. mask 3 i (omega arith);
      target = λ i h jumps. (byte i h).by_codes.target jumps ((packable.each i h).target jumps);
      character = λ i h leaf other. (byte i h).by_codes.character leaf other ((packable.each i h).character leaf other);
      class = λ i h class.
          let (next, no_leaf) = packable.paired i h class in
          let small = (packable.each i h).class class in
          let above = byte (i + 1) next in
          let same = above.follows i refl in
          class_number (get_or codes i 0) _ _ class small ((byte i h).by_codes.class_low class)
          (above.by_codes.class_high no_leaf (omega (arith, same, small)) ∙ ap (λ (c : ℕ). c / 2048) same);
    };
    ran = omega (arith, numbers_kept);
    stood = omega (arith, numbers_kept);
    topped = omega (arith, numbers_kept, packable.few);
    others = λ e out.
        bytes.others e (⊎_elim (λ h. inl (omega arith)) (λ h. inr (omega (arith, packable.few))) out)
        ∙ get_or-set_other mid (row_words * piece + 4) e v 0 (λ same. ⊎_elim (λ h. omega arith) (λ h. omega arith) out)
        ∙ masks.others e (⊎_elim inl (λ h. inr (omega arith)) out);
  }
