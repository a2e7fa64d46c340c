-- Laws of labels or places that are appended: one after the other, as those of a tree, and copies of a run.
use Rattle.std.specs.Prelude.{ℕ, zero, suc, ◌+◌, ◌-◌, ◌≤◌, ◌<◌, ◌≡◌, refl, Bool, true, false, List, [], ◌∷◌, ◌++◌, length, take, drop, get_or, set}
use Rattle.std.proofs.Common.{ap, sym, ◌∙◌, append_assoc, append-nil, arith, add-one, length-append, length-drop, length-set, length-take-le, take-suc, take-suc-set, take-take, drop_at, get_or-take}
use Rattle.std.proofs.Math.Decide.{dec_le}
use Rattle.std.proofs.Math.ListN.{get_or-append}
use Rattle.std.proofs.lemmas.List.{take-append-le, drop-append-le, drop-take, take_at}
use Rattle.std.proofs.Math.Seq.{slice_empty, paste, length_paste_head}
use Rattle.language.specs.PlacedTree.{PlacedTree, leaf, catenation, union, star}
use Rattle.language.specs.PlacedStandsFor.{placed_followed, placed_repeated, placed_perhaps, placed_times}
use Rattle.tree.specs.Leaf.{Leaf, empty_text}
use Rattle.tree.specs.Limits.{most_labels, slot_count}
use Rattle.tree.specs.Layout.{label_of, catenation_kind, union_kind, star_kind, empty_kind}
use Rattle.tree.specs.Records.{leaf_label}
use Rattle.repeats.specs.Noted.{note, noted, length_noted}
use Rattle.repeats.specs.Labelled.{
  LabelRoom,
  Appended,
  Labelled,
  Relabels,
  RelabelsFrom,
  CopyRoom,
  RunAt,
  Copies,
  question_notes,
  copy_end,
  copied,
}

-- what is noted of a tree is appended, and the other way round
pub as_appended : {places : Bool} {x : PlacedTree Leaf} {begin total : ℕ} {earlier later : List ℕ}
    → Labelled places x begin earlier total later → Appended earlier begin (noted places x) total later
as_appended {places} {x} a =
    record { counted = omega (arith, a.counted, length_noted places x); written = a.written }

pub as_labelled : {places : Bool} (x : PlacedTree Leaf) {begin total : ℕ} {earlier later new : List ℕ}
    → Appended earlier begin new total later → new ≡ noted places x → Labelled places x begin earlier total later
as_labelled {places} x {begin = begin} {earlier = earlier} a e =
    record {
      counted = omega (arith, a.counted, length_noted places x, ap length e);
      written = λ h. a.written h ∙ ap (λ (l : List ℕ). take begin earlier ++ l) e;
    }

-- nothing is appended
pub appended_none : (scratch : List ℕ) (count : ℕ) → count ≤ slot_count → Appended scratch count [] count scratch
appended_none scratch count h = record { counted = omega arith; written = λ k. sym (append-nil (take count scratch)) }

-- what is appended one after the other
pub appended_both : {earlier middle later first second : List ℕ} {count n total : ℕ}
    → Appended earlier count first n middle → Appended middle n second total later
    → Appended earlier count (first ++ second) total later
appended_both {first = first} {second = second} {count = count} {n = n} a b =
    record {
      counted = omega (arith, a.counted, b.counted, length-append first second);
      written = λ h. b.written h
          ∙ ap (λ (l : List ℕ). l ++ second) (a.written (omega (arith, a.counted, b.counted)))
          ∙ append_assoc (take count _) first second;
    }

-- one label is written where there is room, and none where there is not
pub put_written : (scratch : List ℕ) (count label : ℕ) → most_labels ≤ length scratch → count < most_labels
    → Appended scratch count (label ∷ []) (count + 1) (set scratch count label)
put_written scratch count label long h =
    record {
      counted = omega arith;
      written = λ k. rw (add-one, take-suc-set scratch count label (omega arith));
    }

pub put_left : (scratch later : List ℕ) (count : ℕ) (new : List ℕ) (total : ℕ) → total ≡ slot_count
    → most_labels < count + length new → Appended scratch count new total later
put_left scratch later count new total e h = record { counted = omega arith; written = λ k. absurd (omega arith) }

-- the trees: a leaf, a star, and two trees with the node over them
pub labelled_leaf : {places : Bool} (place : ℕ) (a : Leaf) {earlier later : List ℕ} {count total : ℕ}
    → Appended earlier count (note places (leaf_label a) place ∷ []) total later
    → Labelled places (leaf place a) count earlier total later
labelled_leaf place a w = as_labelled (leaf place a) w refl

pub labelled_star : {places : Bool} {x : PlacedTree Leaf} {begin n total : ℕ} {earlier middle later : List ℕ}
    (place : ℕ) → Labelled places x begin earlier n middle
    → Appended middle n (note places (label_of star_kind 0) place ∷ []) total later
    → Labelled places (star place x) begin earlier total later
labelled_star {x = x} place a w = as_labelled (star place x) (appended_both (as_appended a) w) refl

module _ {places : Bool} {x y : PlacedTree Leaf} {begin middle-count n total : ℕ}
    {earlier middle late later : List ℕ} (place : ℕ) (a : Labelled places x begin earlier middle-count middle)
    (b : Labelled places y middle-count middle n late) where
  pub labelled_catenation : Appended late n (note places (label_of catenation_kind 0) place ∷ []) total later
      → Labelled places (catenation place x y) begin earlier total later
  labelled_catenation w =
      as_labelled (catenation place x y) (appended_both (appended_both (as_appended a) (as_appended b)) w) refl

  pub labelled_union : Appended late n (note places (label_of union_kind 0) place ∷ []) total later
      → Labelled places (union place x y) begin earlier total later
  labelled_union w =
      as_labelled (union place x y) (appended_both (appended_both (as_appended a) (as_appended b)) w) refl

-- a `?`
pub labelled_perhaps : {places : Bool} {x : PlacedTree Leaf} {begin n total : ℕ} {earlier middle later : List ℕ}
    (place : ℕ) → Labelled places x begin earlier n middle
    → Appended middle n (question_notes places place) total later
    → Labelled places (placed_perhaps empty_text place x) begin earlier total later
labelled_perhaps {places} {x} place a w =
    as_labelled (placed_perhaps empty_text place x) (appended_both (as_appended a) w)
    (sym (append_assoc (noted places x) (note places (label_of empty_kind 0) place ∷ [])
    (note places (label_of union_kind 0) place ∷ [])))

-- what is noted of the tree that stands last is a run
run_of_tree : {places : Bool} {x : PlacedTree Leaf} {begin count : ℕ} {earlier scratch : List ℕ}
    → LabelRoom scratch count → begin ≤ count → Labelled places x begin earlier count scratch
    → RunAt scratch begin (count - begin) count (noted places x)
run_of_tree {places} {x} {begin} {count} {earlier} {scratch} room ordered a = record { here = λ h. go h (a.written h) }
  where
    all : begin + (count - begin) ≡ count
    all = omega arith

    go : count ≤ most_labels → take count scratch ≡ take begin earlier ++ noted places x
        → drop begin (take (begin + (count - begin)) scratch) ≡ noted places x
    go h e =
        let long : length (take count scratch) ≡ count = length-take-le count scratch (omega (arith, room.long)) in
        let both : length (take begin earlier ++ noted places x) ≡ count = sym (ap length e) ∙ long in
        let front : length (take begin earlier) ≡ begin
        = omega (arith, both, length-append (take begin earlier) (noted places x), length_noted places x, a.counted) in
        rw (all, e) (drop_at (take begin earlier) (noted places x) begin front)

-- a run stays where it is when labels are appended
run_stays : {earlier later new run : List ℕ} {begin size count total : ℕ} → CopyRoom earlier begin size count
    → RunAt earlier begin size count run → Appended earlier count new total later
    → RunAt later begin size total run
run_stays {earlier} {later} {new} {run} {begin} {size} {count} {total} room at a = record { here = go }
  where
    go : total ≤ most_labels → drop begin (take (begin + size) later) ≡ run
    go h =
        let few : count ≤ most_labels = omega (arith, a.counted) in
        let long : length (take count earlier) ≡ count
        = length-take-le count earlier (omega (arith, room.room.long)) in
        let same : take (begin + size) later ≡ take (begin + size) earlier
        = sym (take-take (begin + size) total later (omega (arith, room.inside, a.counted)))
        ∙ ap (λ (l : List ℕ). take (begin + size) l) (a.written h)
        ∙ take-append-le (begin + size) (take count earlier) new (omega (arith, room.inside, long))
        ∙ take-take (begin + size) count earlier room.inside in
        ap (λ (l : List ℕ). drop begin l) same ∙ at.here few

-- so many labels of the run are copied
pub record CopiedUpTo (earlier : List ℕ) (begin size count i : ℕ) (later : List ℕ) : Type 0 where
  pub long : length later ≡ length earlier
  pub within : i ≤ size
  pub copy : take (count + i) later ≡ take count earlier ++ drop begin (take (begin + i) earlier)

-- none yet
pub copied_none : (earlier : List ℕ) (begin size count : ℕ) → CopiedUpTo earlier begin size count 0 earlier
copied_none earlier begin size count =
    let end : count + 0 ≡ count = omega arith in
    let start : begin + 0 ≡ begin = omega arith in
    record {
      long = refl;
      within = omega arith;
      copy = rw (end, start, slice_empty begin earlier, append-nil);
    }

-- a label that is copied is the run's
label_of_run : {earlier later : List ℕ} {begin size count i : ℕ} → CopiedUpTo earlier begin size count i later
    → begin + size ≤ count → count + size ≤ length earlier → i < size
    → get_or later (begin + i) 0 ≡ get_or earlier (begin + i) 0
label_of_run {earlier} {later} {begin} {size} {count} {i} s inside room h =
    let long : length (take count earlier) ≡ count = length-take-le count earlier (omega arith) in
    sym (get_or-take (count + i) later (begin + i) 0 (omega arith))
    ∙ ap (λ (l : List ℕ). get_or l (begin + i) 0) s.copy
    ∙ get_or-append (take count earlier) (drop begin (take (begin + i) earlier)) 0 (begin + i) (omega (arith, long))
    ∙ get_or-take count earlier (begin + i) 0 (omega arith)

-- the run up to the next label
run_longer : (earlier : List ℕ) (begin i : ℕ) → begin + i < length earlier
    → drop begin (take (begin + (i + 1)) earlier)
    ≡ drop begin (take (begin + i) earlier) ++ (get_or earlier (begin + i) 0 ∷ [])
run_longer earlier begin i h =
    let next : begin + (i + 1) ≡ suc (begin + i) = omega arith in
    let long : length (take (begin + i) earlier) ≡ begin + i = length-take-le (begin + i) earlier (omega arith) in
    rw (next, take-suc earlier (begin + i) 0 h)
    (drop-append-le begin (take (begin + i) earlier) (get_or earlier (begin + i) 0 ∷ []) (omega (arith, long)))

-- one more
pub copied_more : {earlier later : List ℕ} {begin size count i : ℕ} → CopiedUpTo earlier begin size count i later
    → begin + size ≤ count → count + size ≤ length earlier → i < size
    → CopiedUpTo earlier begin size count (i + 1) (set later (count + i) (get_or later (begin + i) 0))
copied_more {earlier} {later} {begin} {size} {count} {i} s inside room h =
    record {
      long = simp length-set s.long;
      within = omega arith;
      copy = rw next
          (take-suc-set later (count + i) (get_or later (begin + i) 0) (omega (arith, s.long))
          ∙ ap (λ (v : ℕ). take (count + i) later ++ (v ∷ [])) (label_of_run s inside room h)
          ∙ ap (λ (l : List ℕ). l ++ (get_or earlier (begin + i) 0 ∷ [])) s.copy
          ∙ append_assoc (take count earlier) (drop begin (take (begin + i) earlier)) (get_or earlier (begin + i) 0 ∷ [])
          ∙ ap (λ (l : List ℕ). take count earlier ++ l) (sym (run_longer earlier begin i (omega arith))));
    }
  where
    next : count + (i + 1) ≡ suc (count + i)
    next = omega arith

-- a run that has room is as long as it is said
run_length : {scratch run : List ℕ} {begin size count : ℕ} → CopyRoom scratch begin size count
    → RunAt scratch begin size count run → count ≤ most_labels → length run ≡ size
run_length {scratch} {run} {begin} {size} {count} room at h =
    let long : length (take (begin + size) scratch) ≡ begin + size
    = length-take-le (begin + size) scratch (omega (arith, room.inside, room.room.long)) in
    sym (ap length (at.here h))
    ∙ length-drop begin (take (begin + size) scratch)
    ∙ omega (arith, long)

-- all of it is copied
pub copied_all : {earlier later : List ℕ} {begin size count i : ℕ} → CopyRoom earlier begin size count
    → count + size ≤ most_labels → i ≡ size → CopiedUpTo earlier begin size count i later
    → Copies earlier begin size count (λ run. run) (count + size) later
copied_all {earlier} {later} {begin} {size} {count} room fits e s =
    let whole : take (count + size) later ≡ take count earlier ++ drop begin (take (begin + size) earlier)
    = rw e at s.copy in
    record {
      on = λ run at. record {
        counted = omega (arith, run_length room at (omega arith));
        written = λ h. whole ∙ ap (λ (l : List ℕ). take count earlier ++ l) (at.here (omega arith));
      };
    }

-- all of it is pasted at once
pub pasted_all : {earlier later : List ℕ} {begin size count n : ℕ} → CopyRoom earlier begin size count
    → count + size ≤ most_labels → n ≡ size → later ≡ paste earlier count (drop begin earlier) n
    → Copies earlier begin size count (λ run. run) (count + size) later
pasted_all {earlier} {later} {begin} {size} {count} room fits all pasted =
    let whole : take (count + size) later ≡ take count earlier ++ take size (drop begin earlier)
    = rw (pasted, all)
    (take_at (take count earlier ++ take size (drop begin earlier)) (drop (count + size) earlier) (count + size)
    (length_paste_head earlier count (drop begin earlier) size (omega (arith, room.room.long))
    (omega (arith, room.inside, room.room.long, length-drop begin earlier)))) in
    record {
      on = λ run at. record {
        counted = omega (arith, run_length room at (omega arith));
        written = λ h. whole
            ∙ ap (λ (l : List ℕ). take count earlier ++ l) (sym (drop-take begin size earlier) ∙ at.here (omega arith));
      };
    }

-- there is no room for it
pub copied_not : {earlier : List ℕ} {begin size count : ℕ} → CopyRoom earlier begin size count
    → most_labels < count + size → Copies earlier begin size count (λ run. run) slot_count earlier
copied_not {earlier} {begin} {size} {count} room over = record { on = λ run at. go run at (dec_le count most_labels) }
  where
    go : (run : List ℕ) → RunAt earlier begin size count run → Dec (count ≤ most_labels)
        → Appended earlier count run slot_count earlier
    go run at (yes h) = put_left earlier earlier count run slot_count refl (omega (arith, run_length room at h))
    go run at (no h) = put_left earlier earlier count run slot_count refl (omega arith)

-- copies are counted on
pub record CountedOn (count total : ℕ) : Type 0 where
  pub onward : count ≤ total
  pub few : total ≤ slot_count

pub copies_counted : {earlier later : List ℕ} {begin size count total : ℕ} {made : List ℕ → List ℕ}
    → Copies earlier begin size count made total later → count ≤ slot_count → CountedOn count total
copies_counted {earlier} {begin = begin} {size = size} c h =
    let a = c.on (drop begin (take (begin + size) earlier)) (record { here = λ k. refl }) in
    record { onward = omega (arith, a.counted); few = omega (arith, a.counted) }

pub appended_counted : {earlier later new : List ℕ} {count total : ℕ} → Appended earlier count new total later
    → count ≤ slot_count → CountedOn count total
appended_counted a h = record { onward = omega (arith, a.counted); few = omega (arith, a.counted) }

-- no copy follows
pub follows_none : {scratch : List ℕ} {begin size count : ℕ} (places : Bool) (place : ℕ) (with-question : Bool)
    → count ≤ slot_count
    → Copies scratch begin size count (λ run. copied 0 (run ++ copy_end places place with-question)) count scratch
follows_none {scratch} {count = count} places place with-question h = record
    { on = λ run at. appended_none scratch count h }

-- one more follows
pub follows_more : {earlier middle late later : List ℕ} {begin size count n k total : ℕ} (i : ℕ)
    (places : Bool) (place : ℕ) (with-question : Bool) → CopyRoom earlier begin size count
    → Copies earlier begin size count (λ run. copied i (run ++ copy_end places place with-question)) n middle
    → Copies middle begin size n (λ run. run) k late → Appended late k (copy_end places place with-question) total later
    → Copies earlier begin size count (λ run. copied (i + 1) (run ++ copy_end places place with-question)) total later
follows_more i places place with-question room before copy end =
    record {
      on = λ run at.
          let a = before.on run at in
          rw add-one (appended_both a (appended_both (copy.on run (run_stays room at a)) end));
    }

module _ (places : Bool) (place : ℕ) where
  -- what is noted of a tree that others follow
  noted_followed : (t x : PlacedTree Leaf) (n : ℕ)
      → noted places (placed_followed place t n x)
      ≡ noted places t ++ copied n (noted places x ++ copy_end places place false)
  noted_followed t x zero = sym (append-nil (noted places t))
  noted_followed t x (suc n) =
      ap (λ (l : List ℕ). l ++ noted places x ++ copy_end places place false) (noted_followed t x n)
      ∙ simp append_assoc

  -- what a copy with its `?` ends with
  question_end : (x : PlacedTree Leaf)
      → noted places (placed_perhaps empty_text place x) ++ copy_end places place false
      ≡ noted places x ++ copy_end places place true
  question_end x = simp append_assoc

  -- `n` copies with their `?` follow
  noted_perhaps_followed : (t x : PlacedTree Leaf) (n : ℕ)
      → noted places t ++ copied n (noted places x ++ copy_end places place true)
      ≡ noted places (placed_followed place t n (placed_perhaps empty_text place x))
  noted_perhaps_followed t x n =
      sym (noted_followed t (placed_perhaps empty_text place x) n
      ∙ ap (λ (l : List ℕ). noted places t ++ copied n l) (question_end x))

-- the room for a copy of the tree that stands last
pub tree_room : {before : List ℕ} {begin count : ℕ} → LabelRoom before count → begin ≤ count
    → CopyRoom before begin (count - begin) count
tree_room room ordered = record { room = room; inside = omega arith }

-- `?`
pub question_relabels : {places : Bool} {before after : List ℕ} {count total : ℕ} (place : ℕ)
    → LabelRoom before count → Appended before count (question_notes places place) total after
    → Relabels places count before (placed_perhaps empty_text place) total after
question_relabels place room question =
    let a = appended_counted question room.few in
    record {
      on = λ x begin earlier last. labelled_perhaps place last question;
      grown = a.onward;
      few = a.few;
    }

module _ {before middle after : List ℕ} {begin count n total : ℕ} (places : Bool) (place : ℕ)
    (room : LabelRoom before count) (ordered : begin ≤ count) where
  -- `+`
  pub more_relabels : Copies before begin (count - begin) count (λ run. run) n middle
      → Appended middle n (note places (label_of star_kind 0) place ∷ note places (label_of catenation_kind 0)
      place ∷ [])
      total after
      → RelabelsFrom places begin count before (placed_repeated place) total after
  more_relabels copy end =
      let a = copies_counted copy room.few in
      let b = appended_counted end a.few in
      record {
        grown = omega (arith, a.onward, b.onward);
        few = b.few;
        on = λ x earlier last.
            as_labelled (placed_repeated place x)
            (appended_both (as_appended last)
            (appended_both (copy.on (noted places x) (run_of_tree room ordered last)) end))
            (simp append_assoc);
      }

  -- `{0,most}`
  pub none_relabels : (fewest most : ℕ) → fewest ≡ 0 → Appended before count (question_notes places place) n middle
      → Copies middle begin (count - begin) n (λ run. copied (most - 1) (run ++ copy_end places place true)) total after
      → RelabelsFrom places begin count before (placed_times empty_text place fewest most) total after
  none_relabels fewest most e question copies =
      let a = appended_counted question room.few in
      let b = copies_counted copies a.few in
      rw e (record {
        grown = omega (arith, a.onward, b.onward);
        few = b.few;
        on = λ x earlier last.
            let at = run_stays (tree_room room ordered) (run_of_tree room ordered last) question in
            as_labelled (placed_times empty_text place 0 most x)
            (appended_both (as_appended (labelled_perhaps place last question)) (copies.on (noted places x) at))
            (noted_perhaps_followed places place (placed_perhaps empty_text place x) x (most - 1));
      })

  -- `{fewest,most}` with at least one
  pub some_relabels : (fewest most : ℕ) → 1 ≤ fewest
      → Copies before begin (count - begin) count (λ run. copied (fewest - 1) (run ++ copy_end places place false))
      n middle
      → Copies middle begin (count - begin) n (λ run. copied (most - fewest) (run ++ copy_end places place true))
      total after
      → RelabelsFrom places begin count before (placed_times empty_text place fewest most) total after
  some_relabels zero most h needed others = absurd (omega arith)
  some_relabels (suc m) most h needed others =
      let a = copies_counted needed room.few in
      let b = copies_counted others a.few in
      record {
        grown = omega (arith, a.onward, b.onward);
        few = b.few;
        on = λ x earlier last.
            let at = run_of_tree room ordered last in
            let less : suc m - 1 ≡ m = omega arith in
            let first = rw less at (needed.on (noted places x) at) in
            let all = as_labelled (placed_followed place x m x) (appended_both (as_appended last) first)
            (sym (noted_followed places place x x m)) in
            as_labelled (placed_times empty_text place (suc m) most x)
            (appended_both (as_appended all)
            (others.on (noted places x) (run_stays (tree_room room ordered) at first)))
            (noted_perhaps_followed places place (placed_followed place x m x) x (most - suc m));
      }
