-- The bytes of a piece's states while they are made: of one state, of eight in a word, and of all.
use Rattle.std.specs.Prelude.{ℕ, zero, suc, ◌+◌, ◌*◌, ◌-◌, ◌/◌, ◌%◌, ◌^◌, ◌≤◌, ◌<◌, ◌≡◌, refl, List, get_or}
use Rattle.std.proofs.Common.{sym, ap, ◌∙◌, subst, arith, pow-add, pow_mono, shr-shr}
use Rattle.std.proofs.Math.Pow.{high}
use Rattle.tables.specs.Words.{word_bits}
use Rattle.tables.specs.Plan.{row_words, Jumps, IsLeaf, IsClass, byte_of}
use Rattle.closing.specs.BitsOfWords.MadeAnew.{MadeAnew}
use Rattle.packing.specs.Masks.{class_lowest}

-- a state's byte by its code and by that of the state before it. It has the number that the state jumps to, the leaf's
-- character or the low byte of the class's number; above a jump it has the high bits of the class before it
pub record ByteBy (before code byte : ℕ) : Type 0 where
  pub small : byte < 256
  pub target : Jumps code → code / 4 < word_bits → byte % word_bits ≡ code / 4
  pub character : IsLeaf code → (IsClass code → ⊥) → code / 4 ≤ 512 → 2 * (byte + 1) ≡ code / 4
  pub class_low : IsClass code → byte ≡ code / 8 % 256
  pub class_high : (IsLeaf code → ⊥) → before / 2048 < 4 → byte / word_bits ≡ before / 2048

-- of a class's start
pub byte_of_class : (before code : ℕ) → IsClass code → ByteBy before code (code / 8 % 256)
byte_of_class before code class =
    let four = class_lowest code class in
    record {
      small = omega arith;
      target = λ jumps. absurd (omega (arith, four, jumps));
      character = λ leaf other. absurd (other class);
      class_low = λ _. refl;
      class_high = λ no_leaf. absurd (no_leaf class.0);
    }

-- the number of a character is even and not 0
pub character_eight : (code : ℕ) → IsLeaf code → (IsClass code → ⊥) → (code % 8 ≡ 0) × (8 ≤ code)
character_eight code leaf other =
    let even : code / 4 % 2 ≡ 1 → ⊥ = λ odd. other (leaf, odd) in
    omega (arith, leaf.0, leaf.1, even)

-- of a character's start
pub byte_of_character : (before code : ℕ) → IsLeaf code → (IsClass code → ⊥)
    → ByteBy before code ((code / 8 - 1) % 256)
byte_of_character before code leaf other =
    let eight = character_eight code leaf other in
    record {
      small = omega arith;
      target = λ jumps. absurd (omega (arith, eight, jumps));
      character = λ _ _ few. omega (arith, eight, few);
      class_low = λ class. absurd (other class);
      class_high = λ no_leaf. absurd (no_leaf leaf);
    }

-- the byte of the state i
pub record ByteAt (codes : List ℕ) (i byte : ℕ) : Type 0 where
  pub before : ℕ
  pub follows : (j : ℕ) → j + 1 ≡ i → before ≡ get_or codes j 0
  pub by_codes : ByteBy before (get_or codes i 0) byte

-- told with other forms of the state and the byte
pub byte_as : {codes : List ℕ} {i j a b : ℕ} → ByteAt codes i a → i ≡ j → a ≡ b → ByteAt codes j b
byte_as {codes} {i} {j} {a} {b} h e f =
    subst (λ (n : ℕ). ByteAt codes j n) f (subst (λ (n : ℕ). ByteAt codes n a) e h)

-- of the first state, which follows none
pub byte_first : {codes : List ℕ} {i byte : ℕ} → i ≡ 0 → ByteBy 0 (get_or codes 0 0) byte → ByteAt codes i byte
byte_first {codes} {byte = byte} e h = record {
  before = 0;
  follows = λ j f. absurd (omega arith);
  by_codes = subst (λ (n : ℕ). ByteBy 0 (get_or codes n 0) byte) (sym e) h;
}

-- of a state that follows another
pub byte_next : {codes : List ℕ} {i byte : ℕ} → (i ≡ 0 → ⊥) → ByteBy (get_or codes (i - 1) 0) (get_or codes i 0) byte
    → ByteAt codes i byte
byte_next {codes} {i} some h = record {
  before = get_or codes (i - 1) 0;
  follows = λ j f. ap (λ (n : ℕ). get_or codes n 0) (omega arith);
  by_codes = h;
}

-- a word of the bytes of eight states, from `first` on
pub record EightBytes (codes : List ℕ) (first w : ℕ) : Type 0 where
  pub each : (m : ℕ) → m < 8 → ByteAt codes (first + m) (w / 2 ^ (8 * m) % 256)

-- w has the bytes of the last of the eight states, all but `left` of them
pub record BytesPast (codes : List ℕ) (first left w : ℕ) : Type 0 where
  pub each : (m : ℕ) → left + m < 8 → ByteAt codes (first + (left + m)) (w / 2 ^ (8 * m) % 256)
  pub short : w < 2 ^ (8 * (8 - left))

-- at first there are none
pub bytes_none : (codes : List ℕ) (first : ℕ) → BytesPast codes first 8 0
bytes_none codes first = record { each = λ m h. absurd (omega arith); short = omega arith }

-- the low byte of a word, and the others
low_byte : (w byte : ℕ) → byte < 256 → (w * 256 + byte) / 2 ^ (8 * 0) % 256 ≡ byte
low_byte w byte h = omega arith

next_byte : (w byte m : ℕ) → byte < 256 → (w * 256 + byte) / 2 ^ (8 * suc m) ≡ w / 2 ^ (8 * m)
next_byte w byte m h =
    ap (λ (n : ℕ). (w * 256 + byte) / 2 ^ n) (omega arith) ∙ sym (shr-shr (w * 256 + byte) 8 (8 * m))
    ∙ ap (λ (n : ℕ). n / 2 ^ (8 * m)) (high w 8 h)

module _ {codes : List ℕ} (first left : ℕ) {more w byte : ℕ} (so_far : BytesPast codes first more w)
    (one : ByteAt codes (first + left) byte) (e : more ≡ left + 1) (fits : more ≤ 8) where
  each_more : (m : ℕ) → left + m < 8 → ByteAt codes (first + (left + m)) ((w * 256 + byte) / 2 ^ (8 * m) % 256)
  each_more zero h = byte_as one (omega arith) (sym (low_byte w byte one.by_codes.small))
  each_more (suc m) h = byte_as (so_far.each m (omega arith)) (omega arith)
      (ap (λ (n : ℕ). n % 256) (sym (next_byte w byte m one.by_codes.small)))

  -- one state more, below the others
  pub bytes_more : BytesPast codes first left (w * 256 + byte)
  bytes_more = record {
    each = each_more;
    short =
        let wider : 2 ^ (8 * (8 - left)) ≡ 2 ^ (8 * (8 - more)) * 2 ^ 8 =
        ap (λ (n : ℕ). 2 ^ n) (omega arith) ∙ pow-add 2 (8 * (8 - more)) 8 in
        omega (arith, wider, so_far.short, one.by_codes.small);
  }

-- while a state is left, the word has room for its byte
pub bytes_fit : {codes : List ℕ} {first left w : ℕ} → BytesPast codes first left w → 0 < left → w < 2 ^ 56
bytes_fit {left = left} so_far some =
    let wider : 2 ^ (8 * (8 - left)) ≤ 2 ^ 56 = pow_mono {j = 56} (omega arith) in
    omega (arith, wider, so_far.short)

-- of all eight
pub bytes_all : {codes : List ℕ} {first left w : ℕ} → BytesPast codes first left w → left ≡ 0
    → EightBytes codes first w
bytes_all so_far e = record { each = λ m h. byte_as (so_far.each m (omega arith)) (omega arith) refl }

-- the word j of the bytes
unfoldable pub ByteWord : List ℕ → (j w : ℕ) → Type 0
ByteWord codes j w = EightBytes codes (8 * j) w

pub byte_word : {codes : List ℕ} (j : ℕ) {w : ℕ} → EightBytes codes (8 * j) w → ByteWord codes j w
unfolding ByteWord
byte_word j h = h

-- the bytes of the piece, of n states, are made, and the other words are as before
abbrev pub BytesNoted : (codes before after : List ℕ) (piece n : ℕ) → Type 0
BytesNoted codes before after piece n = MadeAnew (ByteWord codes) before after (row_words * piece + 5) ((n + 7) / 8)

-- told with another form of the count
pub bytes_noted : (codes : List ℕ) {before after : List ℕ} {base n m : ℕ}
    → MadeAnew (ByteWord codes) before after base m → m ≡ n → MadeAnew (ByteWord codes) before after base n
bytes_noted codes {before} {after} {base} so_far e =
    subst (λ (k : ℕ). MadeAnew (ByteWord codes) before after base k) e so_far

-- so each state has its byte
pub noted_byte : {codes before after : List ℕ} (piece n : ℕ) → BytesNoted codes before after piece n → (i : ℕ)
    → i < n → ByteAt codes i (byte_of after piece i)
unfolding ByteWord
noted_byte {after = after} piece n noted i h =
    byte_as ((noted.anew (i / 8) (omega arith)).each (i % 8) (omega arith)) (omega arith)
    (ap (λ (e : ℕ). get_or after e 0 / 2 ^ (8 * (i % 8)) % 256) (omega arith))
