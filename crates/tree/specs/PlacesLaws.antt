-- Laws of places: a list without its places shows all other fields as the list does, other places change nothing else,
-- and a tree's list has none.
use Rattle.std.specs.Prelude.{ℕ, zero, suc, ◌+◌, ◌*◌, ◌/◌, ◌%◌, ◌≤◌, ◌<◌, ◌≡◌, refl, Bool, true, false, cond, List, [], ◌∷◌, ◌++◌, length, get_or, set, drop}
use Rattle.std.proofs.Common.{sym, ap, ◌∙◌, arith, zero-add, add-zero, add-one, eq-eqb, ne_eqb, length-append, length-set, drop-cons, get_or-set_same, get_or-set_other}
use Rattle.std.proofs.Math.Seq.{drop-length, length-sets}
use Rattle.std.proofs.lemmas.List.Edits.{sets}
use Rattle.std.proofs.lemmas.List.{set-append_left}
use Rattle.language.specs.Tree.{Tree, leaf, catenation, union, star, nodes}
use Rattle.tree.specs.Leaf.{Leaf}
use Rattle.tree.specs.Layout.{
  record_size,
  no_child,
  two_bytes,
  two_bytes_limit,
  record_of,
  number_at,
  kind_at,
  character_at,
  left_at,
  right_at,
  piece_at,
  place_at,
  class_records,
  label_at,
  Shows,
}
use Rattle.tree.specs.Places.{holds_place, bare_from, bare, placed_from, with_places, LowPlaces}
use Rattle.tree.specs.Cut.{wanted}
use Rattle.tree.specs.Numbering.{NodeNumbers, at_root, numbered}
use Rattle.tree.specs.Records.{leaf_kind, leaf_character, leaf_number, records, encode, Good}
use Rattle.tree.specs.Lengths.{length_records}

-- 0 either way
zero_either : (b : Bool) → ◌≡◌ {A = ℕ} (cond b 0 0) 0
zero_either true = refl
zero_either false = refl

-- as long as before
length_bare_from : (list : List ℕ) (i : ℕ) → length (bare_from i list) ≡ length list
length_bare_from [] i = refl
length_bare_from (byte ∷ rest) i = ap suc (length_bare_from rest (suc i))

pub length_bare : (list : List ℕ) → length (bare list) ≡ length list
unfolding bare
length_bare list = length_bare_from list 0

-- each byte of the list, 0 for those of places
byte_of_bare : (list : List ℕ) (i k : ℕ) → get_or (bare_from i list) k 0 ≡ cond (holds_place (i + k)) 0 (get_or list k 0)
byte_of_bare [] i k = sym (zero_either (holds_place (i + k)))
byte_of_bare (byte ∷ rest) i zero = rw (add-zero i) refl
byte_of_bare (byte ∷ rest) i (suc k) =
    let next : suc i + k ≡ i + suc k = omega arith in
    byte_of_bare rest (suc i) k ∙ ap (λ (n : ℕ). cond (holds_place n) 0 (get_or rest k 0)) next

-- a byte that is no place's is kept
pub byte_kept : (list : List ℕ) (i : ℕ) → (i % record_size / 2 ≡ 4 → ⊥) → get_or (bare list) i 0 ≡ get_or list i 0
unfolding bare
byte_kept list i other =
    let no : holds_place i ≡ false = ne_eqb _ _ other in
    byte_of_bare list 0 i ∙ rw (zero-add i, no) refl

-- a place's is 0
pub byte_cleared : (list : List ℕ) (i : ℕ) → i % record_size / 2 ≡ 4 → get_or (bare list) i 0 ≡ 0
unfolding bare
byte_cleared list i here =
    let yes : holds_place i ≡ true = eq-eqb _ _ here in
    byte_of_bare list 0 i ∙ rw (zero-add i, yes) refl

-- the fields of a record but for its place
pub kind_bare : (list : List ℕ) (r : ℕ) → kind_at (bare list) r ≡ kind_at list r
kind_bare list r = byte_kept list (record_size * r) (λ e. omega (arith, e))

pub character_bare : (list : List ℕ) (r : ℕ) → character_at (bare list) r ≡ character_at list r
character_bare list r = byte_kept list (record_size * r + 1) (λ e. omega (arith, e))

-- two bytes that are no place's
number_bare : (list : List ℕ) (at : ℕ) → (at % record_size / 2 ≡ 4 → ⊥) → ((at + 1) % record_size / 2 ≡ 4 → ⊥)
    → number_at (bare list) at ≡ number_at list at
number_bare list at low high = rw (byte_kept list at low, byte_kept list (at + 1) high) refl

pub left_bare : (list : List ℕ) (r : ℕ) → left_at (bare list) r ≡ left_at list r
left_bare list r = number_bare list (record_size * r + 2) (λ e. omega (arith, e)) (λ e. omega (arith, e))

pub right_bare : (list : List ℕ) (r : ℕ) → right_at (bare list) r ≡ right_at list r
right_bare list r = number_bare list (record_size * r + 4) (λ e. omega (arith, e)) (λ e. omega (arith, e))

pub piece_bare : (list : List ℕ) (r : ℕ) → piece_at (bare list) r ≡ piece_at list r
piece_bare list r = number_bare list (record_size * r + 6) (λ e. omega (arith, e)) (λ e. omega (arith, e))

pub shows_bare : {list : List ℕ} {r kind character left right piece : ℕ}
    → Shows (bare list) r kind character left right piece → Shows list r kind character left right piece
shows_bare {list} {r} shown =
    record {
      kind_is = sym (kind_bare list r) ∙ shown.kind_is;
      character_is = sym (character_bare list r) ∙ shown.character_is;
      left_is = sym (left_bare list r) ∙ shown.left_is;
      right_is = sym (right_bare list r) ∙ shown.right_is;
      piece_is = sym (piece_bare list r) ∙ shown.piece_is;
    }

-- so the labels that it shows
pub class_records_bare : (list : List ℕ) (n : ℕ) → class_records (bare list) n ≡ class_records list n
class_records_bare list zero = refl
class_records_bare list (suc n) = rw (class_records_bare list n, kind_bare list n) refl

pub label_bare : (list : List ℕ) (r : ℕ) → label_at (bare list) r ≡ label_at list r
label_bare list r = rw (kind_bare list r, character_bare list r, class_records_bare list r) refl

-- a byte of a place put in changes nothing else
bare_set : (list : List ℕ) (i k v : ℕ) → holds_place (i + k) ≡ true → bare_from i (set list k v) ≡ bare_from i list
bare_set [] i k v here = refl
bare_set (byte ∷ rest) i zero v here =
    let h : holds_place i ≡ true = rw (add-zero i) at here in rw h refl
bare_set (byte ∷ rest) i (suc k) v here =
    let next : i + suc k ≡ suc i + k = omega arith in
    ap (λ (l : List ℕ). cond (holds_place i) 0 byte ∷ l) (bare_set rest (suc i) k v (rw next at here))

-- nor does a place
bare_one : (list : List ℕ) (r place : ℕ) → bare (sets list (record_size * r + 8) (two_bytes place)) ≡ bare list
unfolding bare
bare_one list r place =
    bare_set (set list (record_size * r + 8) (place % 256)) 0 (suc (record_size * r + 8)) (place / 256 % 256)
    (eq-eqb ((0 + suc (record_size * r + 8)) % record_size / 2) 4 (omega arith))
    ∙ bare_set list 0 (record_size * r + 8) (place % 256)
    (eq-eqb ((0 + (record_size * r + 8)) % record_size / 2) 4 (omega arith))

bare_placed : (places list : List ℕ) (r : ℕ) → bare (placed_from r places list) ≡ bare list
bare_placed [] list r = refl
bare_placed (place ∷ places) list r =
    bare_placed places (sets list (record_size * r + 8) (two_bytes place)) (suc r) ∙ bare_one list r place

-- the next of the places is put in
pub placed_next : (places list put : List ℕ) (i place : ℕ) → i < length places → place ≡ get_or places i 0
    → put ≡ sets list (record_size * i + 8) (two_bytes place)
    → placed_from i (drop i places) list ≡ placed_from (i + 1) (drop (i + 1) places) put
placed_next places list put i place inside is written =
    rw (drop-cons places i 0 inside, written, is, add-one i) refl

-- all are
pub placed_last : (places list : List ℕ) (i : ℕ) → i ≡ length places → placed_from i (drop i places) list ≡ list
placed_last places list i all = rw (all, drop-length places) refl

-- nor do all of them
pub bare_with_places : (places list : List ℕ) → bare (with_places places list) ≡ bare list
bare_with_places places list = bare_placed places list 0

length_placed : (places list : List ℕ) (r : ℕ) → length (placed_from r places list) ≡ length list
length_placed [] list r = refl
length_placed (place ∷ places) list r =
    length_placed places (sets list (record_size * r + 8) (two_bytes place)) (suc r)
    ∙ length-sets list (record_size * r + 8) (two_bytes place)

pub length_with_places : (places list : List ℕ) → length (with_places places list) ≡ length list
length_with_places places list = length_placed places list 0

-- places are put into the first records, whatever stands behind them
placed_append : (places list rest : List ℕ) (r : ℕ) → record_size * (r + length places) ≤ length list
    → placed_from r places (list ++ rest) ≡ placed_from r places list ++ rest
placed_append [] list rest r room = refl
placed_append (place ∷ places) list rest r room =
    let at : ℕ = record_size * r + 8 in
    let low : set (list ++ rest) at (place % 256) ≡ set list at (place % 256) ++ rest =
    set-append_left list rest at (place % 256) (omega arith) in
    let high : set (set list at (place % 256) ++ rest) (suc at) (place / 256 % 256)
    ≡ set (set list at (place % 256)) (suc at) (place / 256 % 256) ++ rest =
    set-append_left (set list at (place % 256)) rest (suc at) (place / 256 % 256)
    (omega (arith, length-set list at (place % 256))) in
    ap (placed_from (suc r) places) (ap (λ (l : List ℕ). set l (suc at) (place / 256 % 256)) low ∙ high)
    ∙ placed_append places (sets list at (two_bytes place)) rest (suc r)
    (omega (arith, length-sets list at (two_bytes place)))

pub with_places_append : (places list rest : List ℕ) → record_size * length places ≤ length list
    → with_places places (list ++ rest) ≡ with_places places list ++ rest
with_places_append places list rest room = placed_append places list rest 0 (omega arith)

-- the place of a record before those that places are put into is kept
place_before : (places list : List ℕ) (r q : ℕ) → q < r → place_at (placed_from r places list) q ≡ place_at list q
place_before [] list r q before = refl
place_before (place ∷ places) list r q before =
    let at : ℕ = record_size * r + 8 in
    let low : ℕ = record_size * q + 8 in
    let first : List ℕ = set list at (place % 256) in
    let kept : (k : ℕ) → k < at → get_or (sets list at (two_bytes place)) k 0 ≡ get_or list k 0 =
    λ k h. get_or-set_other first (suc at) k (place / 256 % 256) 0 (λ e. omega (arith, e))
    ∙ get_or-set_other list at k (place % 256) 0 (λ e. omega (arith, e)) in
    place_before places (sets list at (two_bytes place)) (suc r) q (omega arith)
    ∙ rw (kept low (omega arith), kept (low + 1) (omega arith)) refl

-- the place of a record that one is put into
place_put : (list : List ℕ) (r place : ℕ) → record_size * r + record_size ≤ length list → place < two_bytes_limit
    → place_at (sets list (record_size * r + 8) (two_bytes place)) r ≡ place
place_put list r place room small =
    let at : ℕ = record_size * r + 8 in
    let first : List ℕ = set list at (place % 256) in
    let low : get_or (sets list at (two_bytes place)) at 0 ≡ place % 256 =
    get_or-set_other first (suc at) at (place / 256 % 256) 0 (λ e. omega (arith, e))
    ∙ get_or-set_same list at (place % 256) 0 (omega arith) in
    let high : get_or (sets list at (two_bytes place)) (suc at) 0 ≡ place / 256 % 256 =
    get_or-set_same first (suc at) (place / 256 % 256) 0 (omega (arith, length-set list at (place % 256))) in
    let next : at + 1 ≡ suc at = omega arith in
    rw (next, low, high) (omega arith)

place_placed : (places list : List ℕ) (r j : ℕ) → j < length places
    → record_size * (r + length places) ≤ length list → get_or places j 0 < two_bytes_limit
    → place_at (placed_from r places list) (r + j) ≡ get_or places j 0
place_placed [] list r j inside room small = absurd (omega arith)
place_placed (place ∷ places) list r zero inside room small =
    rw (add-zero r) (place_before places (sets list (record_size * r + 8) (two_bytes place)) (suc r) r (omega arith)
    ∙ place_put list r place (omega arith) small)
place_placed (place ∷ places) list r (suc j) inside room small =
    let next : r + suc j ≡ suc r + j = omega arith in
    let put : List ℕ = sets list (record_size * r + 8) (two_bytes place) in
    rw next (place_placed places put (suc r) j (omega arith)
    (omega (arith, length-sets list (record_size * r + 8) (two_bytes place))) small)

-- the place of record j is the j-th
pub place_with_places : (places list : List ℕ) (j : ℕ) → j < length places
    → record_size * length places ≤ length list → get_or places j 0 < two_bytes_limit
    → place_at (with_places places list) j ≡ get_or places j 0
place_with_places places list j inside room small =
    rw (zero-add j) at (place_placed places list 0 j inside (omega arith) small)

-- parts of a list without its places
bare_append : (xs ys : List ℕ) (i : ℕ) → bare_from i (xs ++ ys) ≡ bare_from i xs ++ bare_from (i + length xs) ys
bare_append [] ys i = rw (add-zero i) refl
bare_append (byte ∷ rest) ys i =
    let next : suc i + length rest ≡ i + suc (length rest) = omega arith in
    ap (λ (l : List ℕ). cond (holds_place i) 0 byte ∷ l) (bare_append rest ys (suc i))
    ∙ ap (λ (n : ℕ). cond (holds_place i) 0 byte ∷ (bare_from (suc i) rest ++ bare_from n ys)) next

-- a record with the place 0
bare_record : (i kind character left right piece : ℕ) → i % record_size ≡ 0
    → bare_from i (record_of kind character left right piece) ≡ record_of kind character left right piece
bare_record i kind character left right piece whole =
    let other : (n k : ℕ) → n ≡ i + k → k < 8 → holds_place n ≡ false =
    λ n k e h. ne_eqb (n % record_size / 2) 4 (λ f. omega (arith, whole, e, h, f)) in
    rw (
      other i 0 (omega arith) (omega arith),
      other (suc i) 1 (omega arith) (omega arith),
      other (suc (suc i)) 2 (omega arith) (omega arith),
      other (suc (suc (suc i))) 3 (omega arith) (omega arith),
      other (suc (suc (suc (suc i)))) 4 (omega arith) (omega arith),
      other (suc (suc (suc (suc (suc i))))) 5 (omega arith) (omega arith),
      other (suc (suc (suc (suc (suc (suc i)))))) 6 (omega arith) (omega arith),
      other (suc (suc (suc (suc (suc (suc (suc i))))))) 7 (omega arith) (omega arith),
    ) (simp zero_either)

-- two parts and a record behind them
bare_two : (xs ys part : List ℕ) (i m n : ℕ) → length xs ≡ record_size * m → length ys ≡ record_size * n
    → bare_from i xs ≡ xs → bare_from (i + record_size * m) ys ≡ ys
    → bare_from (i + record_size * m + record_size * n) part ≡ part
    → bare_from i (xs ++ ys ++ part) ≡ xs ++ ys ++ part
bare_two xs ys part i m n first second of-xs of-ys of_part =
    bare_append (xs ++ ys) part i
    ∙ rw (length-append xs ys, bare_append xs ys i, first, second)
    (let far : i + (record_size * m + record_size * n) ≡ i + record_size * m + record_size * n = omega arith in
    rw (far, of-xs, of-ys, of_part) refl)

-- the records of a tree have no places
bare_records : (t : Tree Leaf) (x : NodeNumbers) (first i : ℕ) → i % record_size ≡ 0
    → bare_from i (records t x first) ≡ records t x first
bare_records (leaf a) x first i whole =
    bare_record i (leaf_kind a) (leaf_character a) (leaf_number a) no_child (at_root x) whole
bare_records (catenation s t) x first i whole =
    bare_two _ _ _ i (nodes s) (nodes t) (length_records s _ _) (length_records t _ _) (bare_records s _ _ i whole)
    (bare_records t _ _ (i + record_size * nodes s) (omega arith))
    (bare_record (i + record_size * nodes s + record_size * nodes t) _ _ _ _ _ (omega arith))
bare_records (union s t) x first i whole =
    bare_two _ _ _ i (nodes s) (nodes t) (length_records s _ _) (length_records t _ _) (bare_records s _ _ i whole)
    (bare_records t _ _ (i + record_size * nodes s) (omega arith))
    (bare_record (i + record_size * nodes s + record_size * nodes t) _ _ _ _ _ (omega arith))
bare_records (star s) x first i whole =
    bare_append (records s _ _) _ i
    ∙ rw (
      length_records s _ _,
      bare_records s _ _ i whole,
      bare_record (i + record_size * nodes s) _ _ _ _ _ (omega arith),
    ) refl

-- a tree's list has none
pub bare_encode : (t : Tree Leaf) → bare (encode t) ≡ encode t
unfolding bare encode
bare_encode t = bare_records t (numbered t (wanted t) 0 1) 0 0 refl

-- two lists that differ only in their places have the same tree: what is promised of a good list by its tree is the
-- same for both
pub same_but_places : {l m : List ℕ} {t : Tree Leaf} → bare l ≡ bare m → LowPlaces m → Good l t → Good m t
same_but_places same low good =
    record { of_tree = sym same ∙ good.of_tree; placed = low; few = good.few; ranked = good.ranked }
