-- Where the parts of the room lie, how a state is sought in them, and what is there after words are copied.
use Rattle.std.specs.Prelude.{ℕ, suc, ◌+◌, ◌-◌, ◌*◌, ◌≤◌, ◌<◌, ◌≡◌, ◌↔◌, List, ◌++◌, get_or, drop, length, take}
use Rattle.std.proofs.Common.{sym, ap, ◌∙◌, subst, append_assoc, append-nil, arith, mul-suc, mul-le-mul_left, length-take, length-drop, drop_of_length-le, get_or-drop, take_all, drop-drop, drop_at, take_at, length-take-le, get_or-take, ext_get_or}
use Rattle.std.proofs.Math.Decide.{ℕ_discrete}
use Rattle.std.proofs.Math.ListN.{get_or-append}
use Rattle.std.proofs.Math.Seq.{paste}
use Rattle.std.proofs.lemmas.List.Edits.{take-paste, drop-paste}
use Rattle.tables.specs.Words.{number}
use Rattle.exploring.specs.Keys.{SameUnder, number_under}
use Rattle.exploring.specs.KeysLaws.{same_number}
use Rattle.exploring.specs.Room.{marks_of, Sought, Passed}

-- the marks of one of `most` states lie before the entries
pub marks_inside : (count most i : ℕ) → i < most → count * i + count ≤ count * most
marks_inside count most i inside =
    rw (mul-suc count i) at (mul-le-mul_left {m = suc i} {n = most} count (omega arith))

-- the marks of a state, as the part of the room from where they begin to where they end
pub marks_part : (count most : ℕ) (room : List ℕ) (i : ℕ)
    → take (most + count * i + count - (most + count * i)) (drop (most + count * i) room) ≡ marks_of count most room i
marks_part count most room i =
    let all : most + count * i + count - (most + count * i) ≡ count = omega arith in
    ap (λ (n : ℕ). take n (drop (most + count * i) room)) all

-- so they agree with words where that part does
pub same_part : {masks words : List ℕ} {n : ℕ} (count most : ℕ) (room : List ℕ) (i : ℕ)
    → SameUnder masks n (take (most + count * i + count - (most + count * i)) (drop (most + count * i) room)) words
    ↔ SameUnder masks n (marks_of count most room i) words
same_part {masks} {words} {n} count most room i = (
  subst (λ (l : List ℕ). SameUnder masks n l words) (marks_part count most room i),
  subst (λ (l : List ℕ). SameUnder masks n l words) (sym (marks_part count most room i)),
)

-- where they are copied out, the first words are the marks
pub marks_copied : {words : List ℕ} (rest : List ℕ) (count most : ℕ) (room : List ℕ) (i : ℕ) → i < most
    → most + count * most ≤ length room
    → words ≡ take count (marks_of count most room i) ++ rest → take count words ≡ marks_of count most room i
marks_copied {words} rest count most room i few fits put =
    let whole : length (marks_of count most room i) ≡ count =
    length-take-le count (drop (most + count * i) room)
    (simp length-drop (omega (arith, marks_inside count most i few))) in
    let out : words ≡ marks_of count most room i ++ rest =
    put ∙ ap (λ (l : List ℕ). l ++ rest) (take_all count (marks_of count most room i) (omega arith)) in
    ap (take count) out ∙ take_at (marks_of count most room i) rest count whole

-- where that part is copied out, the first words are the marks
pub marks_part_copied : {words : List ℕ} (rest : List ℕ) (count most : ℕ) (room : List ℕ) (i : ℕ) → i < most
    → most + count * most ≤ length room
    → words ≡ take count (take (most + count * i + count - (most + count * i)) (drop (most + count * i) room)) ++ rest
    → take count words ≡ marks_of count most room i
marks_part_copied {words} rest count most room i few fits put =
    marks_copied rest count most room i few fits
    (put ∙ ap (λ (l : List ℕ). take count l ++ rest) (marks_part count most room i))

-- the parts of a list with words pasted into it
module _ (room words : List ℕ) (at count : ℕ) (enough : count ≤ length words) (fits : at + count ≤ length room) where
  -- what a copy into that part gives back
  pub copied_back : {n : ℕ} {part after : List ℕ} → n ≡ count
      → part ≡ take count words ++ drop count (take n (drop at room))
      → after ≡ take at room ++ (part ++ drop n (drop at room)) → after ≡ paste room at words count
  copied_back {n} {part} {after} all put back =
      let whole : length (take count (drop at room)) ≡ count =
      length-take-le count (drop at room) (simp length-drop (omega arith)) in
      let alone : part ≡ take count words =
      put ∙ ap (λ (m : ℕ). take count words ++ drop count (take m (drop at room))) all
      ∙ ap (λ (l : List ℕ). take count words ++ l)
      (drop_of_length-le (take count (drop at room)) {i = count} (omega arith))
      ∙ append-nil (take count words) in
      back ∙ ap (λ (m : ℕ). take at room ++ (part ++ drop m (drop at room))) all
      ∙ ap (λ (l : List ℕ). take at room ++ (l ++ drop count (drop at room))) alone
      ∙ ap (λ (l : List ℕ). take at room ++ (take count words ++ l)) (drop-drop count at room)
      ∙ sym (append_assoc (take at room) (take count words) (drop (at + count) room))

  -- before that part nothing changes
  pub pasted_before : (k : ℕ) → k < at → get_or (paste room at words count) k 0 ≡ get_or room k 0
  pasted_before k low =
      sym (get_or-take (at + count) (paste room at words count) k 0 (omega arith))
      ∙ ap (λ (l : List ℕ). get_or l k 0) (take-paste room at words count (omega arith) enough)
      ∙ get_or-append (take at room) (take count words) 0 k (omega (arith, length-take-le at room (omega arith)))
      ∙ get_or-take at room k 0 low

  -- behind it neither
  pub pasted_after : (k : ℕ) → at + count ≤ k → get_or (paste room at words count) k 0 ≡ get_or room k 0
  pasted_after k high =
      let e : at + count + (k - (at + count)) ≡ k = omega arith in
      ap (λ (j : ℕ). get_or (paste room at words count) j 0) (sym e)
      ∙ sym (get_or-drop (at + count) (paste room at words count) (k - (at + count)) 0)
      ∙ ap (λ (l : List ℕ). get_or l (k - (at + count)) 0) (drop-paste room at words count (omega arith) enough)
      ∙ get_or-drop (at + count) room (k - (at + count)) 0 ∙ ap (λ (j : ℕ). get_or room j 0) e

  -- there stand the words
  pub pasted_part : take count (drop at (paste room at words count)) ≡ take count words
  pasted_part =
      ap (λ (l : List ℕ). take count (drop at l))
      (append_assoc (take at room) (take count words) (drop (at + count) room))
      ∙ ap (take count) (drop_at (take at room) (take count words ++ drop (at + count) room) at
      (length-take-le at room (omega arith)))
      ∙ take_at (take count words) (drop (at + count) room) count (length-take-le count words enough)

-- a part of which no word changes stays
pub part_same : (before after : List ℕ) (at count : ℕ) → length after ≡ length before
    → ((k : ℕ) → k < count → get_or after (at + k) 0 ≡ get_or before (at + k) 0)
    → take count (drop at after) ≡ take count (drop at before)
part_same before after at count long same =
    ext_get_or 0 (take count (drop at after)) (take count (drop at before))
    (simp (length-take, length-drop, long))
    (λ k inside.
    let low : k < count = omega (arith, length-take count (drop at after), inside) in
    get_or-take count (drop at after) k 0 low ∙ get_or-drop at after k 0 ∙ same k low
    ∙ sym (get_or-take count (drop at before) k 0 low ∙ get_or-drop at before k 0))

-- at first none is passed
pub passed_none : (masks : List ℕ) (count most number : ℕ) (room words : List ℕ)
    → Passed masks count most number room words 0
passed_none masks count most number room words = record { none = λ j inside. absurd (omega arith) }

-- one more, which has another number or does not agree
pub passed_next : {masks : List ℕ} {count most number : ℕ} {room words : List ℕ} {i : ℕ}
    → Passed masks count most number room words i
    → (get_or room i 0 ≡ number → SameUnder masks count (marks_of count most room i) words → ⊥)
    → Passed masks count most number room words (i + 1)
passed_next {masks} {count} {most} {number} {room} {words} {i} so_far other = record {
  none = λ j inside. elim (ℕ_discrete j i) [
    | yes e ↦ subst
        (λ (k : ℕ). get_or room k 0 ≡ number → SameUnder masks count (marks_of count most room k) words → ⊥)
        (sym e) other
    | no earlier ↦ so_far.none j (omega arith)
  ];
}

-- a state that agrees
pub sought_here : {masks : List ℕ} {count most states : ℕ} {room words : List ℕ} {i : ℕ} → i < states
    → SameUnder masks count (marks_of count most room i) words → Sought masks count most states room words i
sought_here inside same = record {
  within = omega arith;
  known = λ _. same;
  new = λ past. absurd (omega arith);
}

-- where all are passed, none agrees: it would have the number
pub sought_none : {masks : List ℕ} {count most states number : ℕ} {room words : List ℕ} {i : ℕ}
    → Passed masks count most number room words i → states ≤ i → number ≡ number_under masks words count
    → Sought masks count most states room words states
sought_none passed all is = record {
  within = omega arith;
  known = λ less. absurd (omega arith);
  new = λ _ numbered j inside same.
      passed.none j (omega arith) (numbered.numbers j inside ∙ same_number same ∙ sym is) same;
}
