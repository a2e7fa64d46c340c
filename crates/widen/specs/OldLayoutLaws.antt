-- Laws of the old layout: the wide list has a record for each old one, with the place 0, and one tree at most.
use Rattle.std.specs.Prelude.{ℕ, zero, suc, ◌+◌, ◌*◌, ◌%◌, ◌≤◌, ◌<◌, ◌≡◌, refl, List, [], ◌∷◌, ◌++◌, length, get_or, set, take, drop}
use Rattle.std.proofs.Common.{sym, ap, ◌∙◌, arith, add-one, le-ltb, length-append, drop-cons, take_at}
use Rattle.std.proofs.Math.Decide.{dec_lt}
use Rattle.std.proofs.Math.ListN.{get_or-append}
use Rattle.std.proofs.lemmas.List.{set_at, get_or_at}
use Rattle.std.proofs.Math.Seq.{append_snoc}
use Rattle.language.specs.Tree.{Tree, nodes}
use Rattle.tree.specs.Leaf.{Leaf}
use Rattle.tree.specs.Layout.{record_size, place_at}
use Rattle.lists.specs.Readback.{good_unique}
use Rattle.deciding.specs.DecideLaws.{good_length}
use Rattle.widen.specs.OldLayout.{old_record_size, old_records, wide_byte, wide_bytes, widened, GoodOld}

-- as many bytes as are asked for
pub length_wide_bytes : (old : List ℕ) (n : ℕ) → length (wide_bytes old n) ≡ n
length_wide_bytes old zero = refl
length_wide_bytes old (suc n) = let before = length_wide_bytes old n in simp length-append (omega arith)

-- twelve for each old record
pub length_widened : (old : List ℕ) → length (widened old) ≡ record_size * old_records old
unfolding widened
length_widened old = length_wide_bytes old (record_size * old_records old)

-- each of them
byte_of_wide : (old : List ℕ) (n j : ℕ) → j < n → get_or (wide_bytes old n) j 0 ≡ wide_byte old j
byte_of_wide old zero j inside = absurd (omega arith)
byte_of_wide old (suc n) j inside = by_place (dec_lt j n) (λ before. byte_of_wide old n j before)
  where
    by_place : Dec (j < n) → (j < n → get_or (wide_bytes old n) j 0 ≡ wide_byte old j)
        → get_or (wide_bytes old n ++ (wide_byte old n ∷ [])) j 0 ≡ wide_byte old j
    by_place (yes before) earlier =
        get_or-append (wide_bytes old n) (wide_byte old n ∷ []) 0 j (omega (arith, length_wide_bytes old n))
        ∙ earlier before
    by_place (no after) earlier =
        let last : j ≡ n = omega arith in
        rw last (get_or_at (wide_bytes old n) (wide_byte old n) [] 0 n (length_wide_bytes old n))

pub byte_of_widened : (old : List ℕ) (j : ℕ) → j < record_size * old_records old
    → get_or (widened old) j 0 ≡ wide_byte old j
unfolding widened
byte_of_widened old j inside = byte_of_wide old (record_size * old_records old) j inside

-- a byte past the old record's is 0
byte_past : (old : List ℕ) (n j : ℕ) → j < n → old_record_size ≤ j % record_size → get_or (wide_bytes old n) j 0 ≡ 0
byte_past old n j inside past =
    byte_of_wide old n j inside ∙ rw (le-ltb (j % record_size) old_record_size past) refl

-- every record has the place 0
pub wide_places : (old : List ℕ) (r : ℕ) → r < old_records old → place_at (widened old) r ≡ 0
unfolding widened
wide_places old r inside =
    let low = byte_past old (record_size * old_records old) (record_size * r + 8) (omega arith) (omega arith) in
    let high = byte_past old (record_size * old_records old) (record_size * r + 8 + 1) (omega arith) (omega arith) in
    rw (low, high) refl

-- one more byte is written
pub one_more_byte : (old before out : List ℕ) (j byte : ℕ) → j < length before → byte ≡ wide_byte old j
    → out ≡ wide_bytes old j ++ drop j before
    → set out j byte ≡ wide_bytes old (j + 1) ++ drop (j + 1) before
one_more_byte old before out j byte inside is so_far =
    rw (so_far, is, add-one j)
    (rw (drop-cons before j 0 inside)
    (set_at (wide_bytes old j) (get_or before j 0) (drop (suc j) before) (wide_byte old j) j (length_wide_bytes old j)
    ∙ sym (append_snoc (wide_bytes old j) (wide_byte old j) (drop (suc j) before))))

-- all of them
pub all_bytes : (old before out : List ℕ) (j : ℕ) → j ≡ record_size * old_records old
    → out ≡ wide_bytes old j ++ drop j before
    → out ≡ widened old ++ drop (record_size * old_records old) before
unfolding widened
all_bytes old before out j all so_far = so_far ∙ rw all refl

-- the part of a list that it was written into
pub wide_part : (old before out : List ℕ)
    → out ≡ widened old ++ drop (record_size * old_records old) before
    → take (record_size * old_records old) out ≡ widened old
wide_part old before out e =
    ap (take (record_size * old_records old)) e
    ∙ take_at (widened old) (drop (record_size * old_records old) before) (record_size * old_records old)
    (length_widened old)

-- an old list has a record for each node of its tree
pub old_nodes : (old : List ℕ) (t : Tree Leaf) → GoodOld old t → old_records old ≡ nodes t
old_nodes old t good = omega (arith, good_length (widened old) t good.wide, length_widened old)

-- a good old list has one tree
pub old_unique : (old : List ℕ) (s t : Tree Leaf) → GoodOld old s → GoodOld old t → s ≡ t
old_unique old s t p q = good_unique (widened old) s t p.wide q.wide
