-- Bytes as they are shown, one after the other.
use Rattle.std.specs.Prelude.{ℕ, suc, ◌+◌, ◌≤◌, ◌<◌, ◌/◌, ◌%◌, ◌≡◌, refl, true, false, List, [], ◌∷◌, ◌++◌, length, get_or, take, drop}
use Rattle.std.proofs.Common.{sym, ap, ◌∙◌, append_assoc, append-nil, arith, length-append, take-append-drop, take-suc}
use Rattle.std.proofs.lemmas.List.{length-replicate, replicate-append-replicate}
use Rattle.showing.specs.Shown.{hex_digit, printable, shown_byte, shown_width, shown, spaces}

-- a byte that is shown as it is
pub plain_byte : (b : ℕ) → printable b ≡ true → shown_byte b ≡ b ∷ []
unfolding shown_byte
plain_byte b e = rw e refl

-- another byte
pub coded_byte : (b : ℕ) → printable b ≡ false
    → shown_byte b ≡ 92 ∷ 120 ∷ hex_digit (b / 16) ∷ hex_digit (b % 16) ∷ []
unfolding shown_byte
coded_byte b e = rw e refl

-- bytes after bytes are shown after them
pub shown_append : (xs ys : List ℕ) → shown (xs ++ ys) ≡ shown xs ++ shown ys
unfolding shown
shown_append [] ys = refl
shown_append (x ∷ xs) ys =
    ap (λ (rest : List ℕ). shown_byte x ++ rest) (shown_append xs ys)
    ∙ sym (append_assoc (shown_byte x) (shown xs) (shown ys))

-- one byte is shown as that byte is
pub shown_one : (b : ℕ) → shown (b ∷ []) ≡ shown_byte b
unfolding shown
shown_one b = append-nil (shown_byte b)

-- one byte more
pub shown_next : (bytes : List ℕ) (i : ℕ) → i < length bytes
    → shown (take (suc i) bytes) ≡ shown (take i bytes) ++ shown_byte (get_or bytes i 0)
shown_next bytes i h =
    ap shown (take-suc bytes i 0 h) ∙ shown_append (take i bytes) (get_or bytes i 0 ∷ [])
    ∙ ap (λ (last : List ℕ). shown (take i bytes) ++ last) (shown_one (get_or bytes i 0))

-- the first bytes take no more columns than all
pub shown_front : (bytes : List ℕ) (i : ℕ) → length (shown (take i bytes)) ≤ length (shown bytes)
shown_front bytes i =
    omega (
      arith,
      ap length (ap shown (sym (take-append-drop i bytes)) ∙ shown_append (take i bytes) (drop i bytes)),
      length-append (shown (take i bytes)) (shown (drop i bytes)),
    )

-- so there is room for one byte more
pub next_room : (bytes : List ℕ) (i : ℕ) → i < length bytes
    → length (shown (take i bytes)) + shown_width (get_or bytes i 0) ≤ length (shown bytes)
next_room bytes i h =
    omega (
      arith,
      shown_front bytes (suc i),
      ap length (shown_next bytes i h),
      length-append (shown (take i bytes)) (shown_byte (get_or bytes i 0)),
    )

-- no spaces, and one space more
pub spaces_none : spaces 0 ≡ []
unfolding spaces
spaces_none = refl

pub spaces_next : (count : ℕ) → spaces (count + 1) ≡ spaces count ++ (32 ∷ [])
unfolding spaces
spaces_next count = sym (replicate-append-replicate count 1 32)

-- there are as many as are asked for
pub spaces_length : (count : ℕ) → length (spaces count) ≡ count
unfolding spaces
spaces_length count = length-replicate count 32
