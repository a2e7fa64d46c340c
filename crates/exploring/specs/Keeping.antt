-- What stays in the room, and what is there, when an entry or a state is written.
use Rattle.std.specs.Prelude.{ℕ, ◌+◌, ◌*◌, ◌≤◌, ◌<◌, ◌≡◌, List, ◌∷◌, [], ◌++◌, get_or, length, set, take}
use Rattle.std.proofs.Common.{sym, ap, ◌∙◌, subst, subst₂, arith, length-set, length-append, get_or-set_same, get_or-set_other, get_or-take}
use Rattle.std.proofs.Math.Decide.{ℕ_discrete}
use Rattle.std.proofs.Math.ListN.{get_or-append}
use Rattle.std.proofs.lemmas.List.Edits.{length-paste}
use Rattle.std.proofs.Math.Seq.{get_or-append_seam}
use Rattle.std.specs.Int.Bits.{bit_and}
use Rattle.language.specs.Tree.{Tree}
use Rattle.tree.specs.Leaf.{Leaf}
use Rattle.tables.specs.Tables.{Holding}
use Rattle.exploring.specs.Keys.{number_under}
use Rattle.exploring.specs.KeysLaws.{same_number}
use Rattle.exploring.specs.Room.{
  marks_of,
  entries_from,
  FoundKept,
  StatesNumbered,
  with_state,
  EntryWritten,
  no_state,
  new_state,
}
use Rattle.exploring.specs.RoomLaws.{marks_inside, pasted_before, pasted_after, pasted_part, part_same}

-- the last element of a list with one more
last_of : {A : Type 0} (l : List A) (a d : A) (i : ℕ) → i ≡ length l → get_or (l ++ (a ∷ [])) i d ≡ a
last_of l a d i e = ap (λ (j : ℕ). get_or (l ++ (a ∷ [])) j d) e ∙ get_or-append_seam l a [] d

-- an entry is written behind all states
module _ (count most : ℕ) (room : List ℕ) (p r : ℕ) (inside : entries_from count most + p < length room) where
  abbrev with_entry : List ℕ
  with_entry = set room (entries_from count most + p) r

  -- what stands before stays
  entered_low : (k : ℕ) → k < entries_from count most + p → get_or with_entry k 0 ≡ get_or room k 0
  entered_low k low = get_or-set_other room (entries_from count most + p) k r 0 (λ e. omega arith)

  -- so do the marks of each state
  entered_marks : (i : ℕ) → i < most → marks_of count most with_entry i ≡ marks_of count most room i
  entered_marks i few = part_same room with_entry (most + count * i) count
      (length-set room (entries_from count most + p) r)
      (λ k low. entered_low (most + count * i + k) (omega (arith, marks_inside count most i few)))

  -- the numbers
  pub numbered_entry : {masks : List ℕ} {states : ℕ} → states ≤ most → StatesNumbered masks count most states room
      → StatesNumbered masks count most states with_entry
  numbered_entry {masks} few numbered = record {
    numbers = λ i low. entered_low i (omega arith) ∙ numbered.numbers i low
        ∙ ap (λ (l : List ℕ). number_under masks l count) (sym (entered_marks i (omega arith)));
  }

  -- and all that was kept
  pub kept_entry : {classes : List ℕ} {t : Tree Leaf} {texts : List (List ℕ)} {entries : List ℕ}
      → length texts ≤ most → length entries ≡ p → FoundKept classes t texts entries count most room
      → FoundKept classes t texts (entries ++ (r ∷ [])) count most with_entry
  kept_entry {classes} {t} {texts} {entries} few so_far kept = record {
    entries_kept = λ q low. elim (ℕ_discrete q p) [
      | yes e ↦ ap (λ (j : ℕ). get_or with_entry (entries_from count most + j) 0) e
          ∙ get_or-set_same room (entries_from count most + p) r 0 inside ∙ sym (last_of entries r 0 q (e ∙ sym so_far))
      | no other ↦
          let low : q < length entries = omega (arith, length-append entries (r ∷ []), low) in
          entered_low (entries_from count most + q) (omega arith) ∙ kept.entries_kept q low
          ∙ sym (get_or-append entries (r ∷ []) 0 q low)
    ];
    marks_kept = λ i low. subst (Holding classes t (get_or texts i [])) (sym (entered_marks i (omega arith)))
        (kept.marks_kept i low);
  }

-- a state is written behind the states that are there
module _ (masks : List ℕ) (count most : ℕ) (room : List ℕ) (i : ℕ) (words : List ℕ) (few : i < most)
    (enough : count ≤ length words) (fits : entries_from count most ≤ length room) where
  abbrev grown : List ℕ
  grown = with_state masks count most room i words

  abbrev numbered_room : List ℕ
  numbered_room = set room i (number_under masks words count)

  marks_fit : most + count * i + count ≤ length numbered_room
  marks_fit = rw (length-set room i (number_under masks words count)) (omega (arith, marks_inside count most i few))

  -- how long the room is
  pub grown_length : length grown ≡ length room
  grown_length = length-paste numbered_room (most + count * i) words count marks_fit enough
      ∙ length-set room i (number_under masks words count)

  -- what stands before its marks stays, but for its number; and what stands behind
  grown_low : (k : ℕ) → k < most + count * i → (k ≡ i → ⊥) → get_or grown k 0 ≡ get_or room k 0
  grown_low k low other = pasted_before numbered_room words (most + count * i) count enough marks_fit k low
      ∙ get_or-set_other room i k (number_under masks words count) 0 other

  grown_high : (k : ℕ) → most + count * i + count ≤ k → get_or grown k 0 ≡ get_or room k 0
  grown_high k high = pasted_after numbered_room words (most + count * i) count enough marks_fit k high
      ∙ get_or-set_other room i k (number_under masks words count) 0 (λ e. omega arith)

  -- its marks are the words
  grown_part : marks_of count most grown i ≡ take count words
  grown_part = pasted_part numbered_room words (most + count * i) count enough marks_fit

  -- those of earlier states stay
  grown_marks : (j : ℕ) → j < i → marks_of count most grown j ≡ marks_of count most room j
  grown_marks j earlier = part_same room grown (most + count * j) count grown_length
      (λ k low. grown_low (most + count * j + k) (omega (arith, marks_inside count i j earlier))
      (λ e. omega arith))

  -- so each state can be found again
  pub numbered_state : StatesNumbered masks count most i room → StatesNumbered masks count most (i + 1) grown
  numbered_state numbered = record {
    numbers = λ j low. elim (ℕ_discrete j i) [
      | yes e ↦ subst (λ (k : ℕ). get_or grown k 0 ≡ number_under masks (marks_of count most grown k) count) (sym e)
          (pasted_before numbered_room words (most + count * i) count enough marks_fit i (omega arith)
          ∙ get_or-set_same room i (number_under masks words count) 0 (omega arith)
          ∙ same_number (record {
            each = λ k inside.
                ap (λ (n : ℕ). bit_and n (get_or masks k 0)) (sym (get_or-take count words k 0 inside));
          })
          ∙ ap (λ (l : List ℕ). number_under masks l count) (sym grown_part))
      | no other ↦
          grown_low j (omega arith) other ∙ numbered.numbers j (omega arith)
          ∙ ap (λ (l : List ℕ). number_under masks l count) (sym (grown_marks j (omega arith)))
    ];
  }

  -- and the room holds one state more
  pub kept_state : {classes text : List ℕ} {t : Tree Leaf} {texts : List (List ℕ)} {entries : List ℕ}
      → length texts ≡ i → Holding classes t text (take count words)
      → FoundKept classes t texts entries count most room
      → FoundKept classes t (texts ++ (text ∷ [])) entries count most grown
  kept_state {classes} {text} {t} {texts} {entries} as_many holding kept = record {
    entries_kept = λ q low. grown_high (entries_from count most + q) (omega (arith, marks_inside count most i few))
        ∙ kept.entries_kept q low;
    marks_kept = λ j low. elim (ℕ_discrete j i) [
      | yes e ↦ subst (λ (v : List ℕ). Holding classes t v (marks_of count most grown j))
          (sym (last_of texts text [] j (e ∙ sym as_many)))
          (subst (Holding classes t text) (sym grown_part ∙ ap (marks_of count most grown) (sym e)) holding)
      | no other ↦
          let low : j < length texts = omega (arith, length-append texts (text ∷ []), low) in
          subst (λ (v : List ℕ). Holding classes t v (marks_of count most grown j))
          (sym (get_or-append texts (text ∷ []) [] j low))
          (subst (Holding classes t (get_or texts j [])) (sym (grown_marks j (omega arith))) (kept.marks_kept j low))
    ];
  }

-- after an entry each state can be found again, and the room is as long
pub numbered_next : {masks : List ℕ} {count most states p r : ℕ} {room words after : List ℕ} {then : ℕ}
    → states ≤ most → r ≤ most → StatesNumbered masks count most states room → count ≤ length words
    → entries_from count most + p < length room → EntryWritten masks count most states p r room words after then
    → StatesNumbered masks count most then after
numbered_next {masks} {count} {most} {states} {p} {r} {room} {words} few low numbered wide fits
    (no_state old is as_before) =
    subst₂ (λ (n : ℕ) (l : List ℕ). StatesNumbered masks count most n l) (sym as_before) (sym is)
    (numbered_entry count most room p r fits few numbered)
numbered_next {masks} {count} {most} {states} {p} {r} {room} {words} few low numbered wide fits
    (new_state new is more) =
    subst₂ (λ (n : ℕ) (l : List ℕ). StatesNumbered masks count most n l) (sym more) (sym is)
    (numbered_state masks count most (set room (entries_from count most + p) r) states words (omega arith) wide
    (rw (length-set room (entries_from count most + p) r) (omega arith))
    (numbered_entry count most room p r fits few numbered))
