-- An old list is good, by the wide list, exactly where it was good in the old layout, byte for byte.
use Rattle.std.specs.Prelude.{ℕ, zero, suc, ◌+◌, ◌-◌, ◌*◌, ◌/◌, ◌%◌, ◌≤◌, ◌<◌, ◌≡◌, refl, List, [], ◌∷◌, ◌++◌, ◌↔◌, length, get_or, drop}
use Rattle.std.proofs.Common.{sym, ap, ◌∙◌, arith, lt-ltb, le-ltb, length-append, ext_get_or, get_or-append-add}
use Rattle.std.proofs.Math.Decide.{dec_lt}
use Rattle.std.proofs.Math.ListN.{get_or-append}
use Rattle.std.proofs.lemmas.List.{get_or_at}
use Rattle.language.specs.Tree.{Tree, nodes}
use Rattle.tree.specs.Leaf.{Leaf}
use Rattle.tree.specs.Layout.{record_size, record_of, two_bytes, no_place}
use Rattle.tree.specs.Places.{bare}
use Rattle.tree.specs.PlacesLaws.{byte_kept, bare_encode}
use Rattle.tree.specs.Records.{encode}
use Rattle.tree.specs.Lengths.{length_encode}
use Rattle.cutting.specs.Seats.{seats, seat_at}
use Rattle.cutting.specs.SeatRecords.{seat_record}
use Rattle.lists.specs.Readback.{byte_of_record}
use Rattle.widen.specs.OldLayout.{old_record_size, wide_byte, widened, narrow_byte, narrow_bytes, old_encode, GoodOld, OldList}
use Rattle.widen.specs.OldLayoutLaws.{length_widened, byte_of_widened, wide_places, old_nodes}

-- as many bytes as are asked for
length_narrow : (list : List ℕ) (n : ℕ) → length (narrow_bytes list n) ≡ n
length_narrow list zero = refl
length_narrow list (suc n) = let before = length_narrow list n in simp length-append (omega arith)

-- each of them
byte_of_narrow : (list : List ℕ) (n j : ℕ) → j < n → get_or (narrow_bytes list n) j 0 ≡ narrow_byte list j
byte_of_narrow list zero j inside = absurd (omega arith)
byte_of_narrow list (suc n) j inside = by_place (dec_lt j n) (λ before. byte_of_narrow list n j before)
  where
    by_place : Dec (j < n) → (j < n → get_or (narrow_bytes list n) j 0 ≡ narrow_byte list j)
        → get_or (narrow_bytes list n ++ (narrow_byte list n ∷ [])) j 0 ≡ narrow_byte list j
    by_place (yes before) earlier =
        get_or-append (narrow_bytes list n) (narrow_byte list n ∷ []) 0 j (omega (arith, length_narrow list n))
        ∙ earlier before
    by_place (no after) earlier =
        let last : j ≡ n = omega arith in
        rw last (get_or_at (narrow_bytes list n) (narrow_byte list n) [] 0 n (length_narrow list n))

-- the byte of the wide list that byte j of the old one is
wide_of_old : (old : List ℕ) (j i : ℕ) → i ≡ record_size * (j / old_record_size) + j % old_record_size
    → wide_byte old i ≡ get_or old j 0
wide_of_old old j i at =
    let byte : i % record_size ≡ j % old_record_size = omega arith in
    let back : old_record_size * (i / record_size) + i % record_size ≡ j = omega arith in
    rw (lt-ltb (i % record_size) old_record_size (omega arith)) (ap (λ (n : ℕ). get_or old n 0) back)

-- a good old list is the old list of its tree
pub old_list : {old : List ℕ} {t : Tree Leaf} → GoodOld old t → OldList old t
old_list {old} {t} good =
    let long : length old ≡ old_record_size * nodes t = omega (arith, old_nodes old t good, good.whole) in
    record {
      of_tree = ext_get_or 0 old (old_encode t) (long ∙ sym (length_narrow (encode t) (old_record_size * nodes t)))
          (λ j inside. by_byte j inside long);
      few = good.wide.few;
      ranked = good.wide.ranked;
    }
  where
    by_byte : (j : ℕ) → j < length old → length old ≡ old_record_size * nodes t
        → get_or old j 0 ≡ get_or (old_encode t) j 0
    by_byte j inside long =
        let i : ℕ = record_size * (j / old_record_size) + j % old_record_size in
        let wide : get_or (widened old) i 0 ≡ get_or old j 0 =
        byte_of_widened old i (omega (arith, long)) ∙ wide_of_old old j i refl in
        let kept : get_or (bare (widened old)) i 0 ≡ get_or (widened old) i 0 =
        byte_kept (widened old) i (λ e. omega (arith, e)) in
        sym wide ∙ sym kept ∙ ap (λ (l : List ℕ). get_or l i 0) good.wide.of_tree
        ∙ sym (byte_of_narrow (encode t) (old_record_size * nodes t) j (omega (arith, long)))

-- the last four bytes of a record are 0
four_zeros : (rest : List ℕ) (k : ℕ) → k < 4 → get_or (0 ∷ 0 ∷ 0 ∷ 0 ∷ rest) k 0 ≡ 0
four_zeros rest zero few = refl
four_zeros rest (suc zero) few = refl
four_zeros rest (suc (suc zero)) few = refl
four_zeros rest (suc (suc (suc zero))) few = refl
four_zeros rest (suc (suc (suc (suc k)))) few = absurd (omega arith)

last_four : (kind character left right piece : ℕ) (rest : List ℕ) (k : ℕ) → k < 4
    → get_or (record_of kind character left right piece ++ rest) (old_record_size + k) 0 ≡ 0
last_four kind character left right piece rest k few =
    get_or-append-add (kind ∷ character ∷ (two_bytes left ++ two_bytes right ++ two_bytes piece)) (no_place ++ rest) k 0
    ∙ four_zeros rest k few

-- so are those of a tree's list
last_of_tree : (t : Tree Leaf) (i : ℕ) → i < record_size * nodes t → old_record_size ≤ i % record_size
    → get_or (encode t) i 0 ≡ 0
last_of_tree t i inside past =
    let r : ℕ = i / record_size in
    let k : ℕ = i % record_size in
    let at : i ≡ record_size * r + k = omega arith in
    let split : k ≡ old_record_size + (k - old_record_size) = omega arith in
    ap (λ (n : ℕ). get_or (encode t) n 0) at ∙ byte_of_record t r k (omega arith)
    ∙ ap (λ (n : ℕ). get_or (seat_record r (seat_at (seats t 0 1) r)
    ++ drop (record_size * r + record_size) (encode t)) n 0) split
    ∙ last_four _ _ _ _ _ (drop (record_size * r + record_size) (encode t)) (k - old_record_size) (omega arith)

-- the old list of a tree is good, where the tree's list is
pub list_old : {old : List ℕ} {t : Tree Leaf} → OldList old t → GoodOld old t
list_old {old} {t} list =
    let long : length old ≡ old_record_size * nodes t =
    ap length list.of_tree ∙ length_narrow (encode t) (old_record_size * nodes t) in
    let wide = length_widened old in
    let same : widened old ≡ encode t =
    ext_get_or 0 (widened old) (encode t) (omega (arith, length_encode t))
    (λ i inside. by_byte i (omega arith) long (dec_lt (i % record_size) old_record_size)) in
    record {
      whole = omega arith;
      wide = record {
        of_tree = ap bare same ∙ bare_encode t;
        placed = record { each = λ r room. omega (arith, wide_places old r (omega arith)) };
        few = list.few;
        ranked = list.ranked;
      };
    }
  where
    by_byte : (i : ℕ) → i < record_size * nodes t → length old ≡ old_record_size * nodes t
        → Dec (i % record_size < old_record_size) → get_or (widened old) i 0 ≡ get_or (encode t) i 0
    by_byte i inside long (yes first) =
        let j : ℕ = old_record_size * (i / record_size) + i % record_size in
        let back : record_size * (j / old_record_size) + j % old_record_size ≡ i = omega arith in
        byte_of_widened old i (omega arith) ∙ wide_of_old old j i (sym back)
        ∙ ap (λ (l : List ℕ). get_or l j 0) list.of_tree
        ∙ byte_of_narrow (encode t) (old_record_size * nodes t) j (omega arith)
        ∙ ap (λ (n : ℕ). get_or (encode t) n 0) back
    by_byte i inside long (no past) =
        let none : wide_byte old i ≡ 0 = rw (le-ltb (i % record_size) old_record_size (omega arith)) refl in
        byte_of_widened old i (omega arith) ∙ none ∙ sym (last_of_tree t i inside (omega arith))

-- so both say the same
pub old_exactly : (old : List ℕ) (t : Tree Leaf) → GoodOld old t ↔ OldList old t
old_exactly old t = (old_list, list_old)
