-- Laws of the layout: a record shows the fields that it was made of, and is made of those that it shows.
use Rattle.std.specs.Prelude.{ℕ, suc, ◌+◌, ◌*◌, ◌≤◌, ◌<◌, ◌≡◌, List, [], ◌∷◌, ◌++◌, length, get_or, take, drop}
use Rattle.std.proofs.Common.{ap, ◌∙◌, arith, get_or-append-add, drop-cons}
use Rattle.std.proofs.Math.Numerals.{towards_suc}
use Rattle.std.proofs.lemmas.List.Edits.{sets, sets-eq}
use Rattle.tree.specs.Layout.{record_size, two_bytes_limit, two_bytes, record_of, four_numbers, Shows}

-- a byte behind m others
byte_past : (before rest : List ℕ) (m k : ℕ) → length before ≡ m → get_or (before ++ rest) (m + k) 0 ≡ get_or rest k 0
byte_past before rest m k e = rw (← e) (get_or-append-add before rest k 0)

-- a record that stands in the list after r others shows its fields
pub shows : (before after : List ℕ) (r kind character left right piece : ℕ) → length before ≡ record_size * r
    → left < two_bytes_limit → right < two_bytes_limit → piece < two_bytes_limit
    → Shows (before ++ (record_of kind character left right piece ++ after)) r kind character left right piece
shows before after r kind character left right piece e small_left small_right small-piece =
    let rest = record_of kind character left right piece ++ after in
    let at : (k m : ℕ) → record_size * r + k ≡ m → get_or (before ++ rest) m 0 ≡ get_or rest k 0 =
    λ k m h. rw (← h) (byte_past before rest (record_size * r) k e) in
    record {
      kind_is = at 0 _ (omega arith);
      character_is = at 1 _ (omega arith);
      left_is = omega (arith, at 2 (record_size * r + 2) (omega arith), at 3 (record_size * r + 2 + 1) (omega arith));
      right_is = omega (arith, at 4 (record_size * r + 4) (omega arith), at 5 (record_size * r + 4 + 1) (omega arith));
      piece_is = omega (arith, at 6 (record_size * r + 6) (omega arith), at 7 (record_size * r + 6 + 1) (omega arith));
    }

-- ten bytes on
add_ten : (n : ℕ) → n + 10 ≡ suc (suc (n + 8))
add_ten n = omega arith

-- numbers stored two bytes at a time, side by side, and the place 0 are the four numbers
pub written_in_turn : (a b c d e f g : List ℕ) (at label left right piece : ℕ) → b ≡ sets a at (two_bytes label)
    → c ≡ sets b (at + 2) (two_bytes left) → d ≡ sets c (at + 4) (two_bytes right)
    → e ≡ sets d (at + 6) (two_bytes piece) → f ≡ sets e (at + 8) (two_bytes 0) → g ≡ sets f (at + 10) (two_bytes 0)
    → g ≡ sets a at (four_numbers label left right piece)
written_in_turn a b c d e f g at label left right piece p q r s u v =
    rw (v, u, s, r, q, p) (simp (add_ten, towards_suc))

-- a record put into a list
pub record_put : (list : List ℕ) (at : ℕ) (bytes : List ℕ) → length bytes ≡ record_size → at + record_size ≤ length list
    → sets list at bytes ≡ take at list ++ bytes ++ drop (at + record_size) list
record_put list at bytes long room = rw long at (sets-eq bytes list at (rw long room))

-- the first two elements of what is left of a list
two_more : (list : List ℕ) (at : ℕ) → at + 2 ≤ length list
    → drop at list ≡ get_or list at 0 ∷ get_or list (at + 1) 0 ∷ drop (at + 2) list
two_more list at room =
    drop-cons list at 0 (omega arith)
    ∙ ap (λ (l : List ℕ). get_or list at 0 ∷ l) (simp towards_suc (drop-cons list (suc at) 0 (omega arith)))

-- a record's bytes, two at a time
pub record_bytes : (list : List ℕ) (at : ℕ) → at + record_size ≤ length list → take record_size (drop at list)
    ≡ get_or list at 0 ∷ get_or list (at + 1) 0 ∷ get_or list (at + 2) 0 ∷ get_or list (at + 2 + 1) 0
    ∷ get_or list (at + 4) 0 ∷ get_or list (at + 4 + 1) 0 ∷ get_or list (at + 6) 0 ∷ get_or list (at + 6 + 1) 0
    ∷ get_or list (at + 8) 0 ∷ get_or list (at + 8 + 1) 0 ∷ get_or list (at + 10) 0 ∷ get_or list (at + 10 + 1) 0 ∷ []
record_bytes list at room =
    let first = two_more list at (omega arith) in
    let second = two_more list (at + 2) (omega arith) in
    let third = two_more list (at + 2 + 2) (omega arith) in
    let fourth = two_more list (at + 2 + 2 + 2) (omega arith) in
    let fifth = two_more list (at + 2 + 2 + 2 + 2) (omega arith) in
    let sixth = two_more list (at + 2 + 2 + 2 + 2 + 2) (omega arith) in
    rw (first, second, third, fourth, fifth, sixth) (simp (add_ten, towards_suc))
