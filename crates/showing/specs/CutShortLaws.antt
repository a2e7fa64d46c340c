-- What fits before and after a place: step by step, and how many columns it takes.
use Prim.Native.Nat.{ℕ, zero, suc, ◌+◌, ◌-◌, ◌≤◌, ◌<◌}
use Rattle.std.specs.Prelude.{◌≡◌, Bool, true, false, cond, get_or, drop, ltb}
use Rattle.std.proofs.Math.Path.{refl, ap}
use Rattle.std.proofs.Common.{sym, ◌∙◌, drop_of_length-le, take-append-drop, take-suc, drop-cons, length-take-le}
use mathlib.Core.List.{List, [], ◌∷◌, ◌++◌, append-nil}
use native.Mathlib.Omega.{arith}
use Rattle.std.proofs.Math.ListN.{length, take, length-append, length-drop}
use Rattle.std.proofs.lemmas.List.{drop-append-le}
use Rattle.std.proofs.Math.Seq.{take-length}
use borrow.Author.Tests.{lt-ltb, le-ltb, eqb-true, ltb-false, eq-eqb, ne_eqb}
use Rattle.operands.specs.Text.{bytes as letters}
use Rattle.input.specs.Part.{part}
use Rattle.input.proofs.EndLaws.{lent_part}
use Rattle.showing.specs.Shown.{shown_byte, shown_width, shown, spaces}
use Rattle.showing.specs.ShownLaws.{shown_append, shown_one, spaces_length}
use Rattle.showing.specs.CutShort.{
  most_columns,
  side_columns,
  fitting,
  cut_begins,
  fits_whole,
  cut_start,
  cut_end,
  dots,
  before_place,
  from_place,
  caret_place,
  marked_at,
  marked_lines,
  most_marked,
}

module _ (bytes : List ℕ) (room : ℕ) where
  -- nothing is left past the end
  pub fitting_end : (end : ℕ) → length bytes ≤ end → fitting room (drop end bytes) ≡ 0
  unfolding fitting
  fitting_end end h = rw (drop_of_length-le bytes h) refl

  module _ (end : ℕ) (inside : end < length bytes) where
    -- the next byte does not fit
    pub fitting_stop : room < shown_width (get_or bytes end 0) → fitting room (drop end bytes) ≡ 0
    unfolding fitting
    fitting_stop h = rw (drop-cons bytes end 0 inside, lt-ltb room (shown_width (get_or bytes end 0)) h) refl

    -- the next byte fits
    pub fitting_on : shown_width (get_or bytes end 0) ≤ room
        → fitting room (drop end bytes) ≡ suc (fitting (room - shown_width (get_or bytes end 0)) (drop (suc end) bytes))
    unfolding fitting
    fitting_on h = rw (drop-cons bytes end 0 inside, le-ltb room (shown_width (get_or bytes end 0)) h) refl

  -- nothing stands before the front
  pub begins_none : cut_begins bytes room 0 ≡ 0
  unfolding cut_begins
  begins_none = refl

  module _ (start previous : ℕ) (before : start ≡ suc previous) where
    -- the byte before does not fit
    pub begins_stop : room < shown_width (get_or bytes previous 0) → cut_begins bytes room start ≡ start
    unfolding cut_begins
    begins_stop h = rw (before, lt-ltb room (shown_width (get_or bytes previous 0)) h) refl

    -- the byte before fits
    pub begins_on : shown_width (get_or bytes previous 0) ≤ room
        → cut_begins bytes room start ≡ cut_begins bytes (room - shown_width (get_or bytes previous 0)) previous
    unfolding cut_begins
    begins_on h = rw (before, le-ltb room (shown_width (get_or bytes previous 0)) h) refl

-- what fits is no more than there is, and takes no more columns than are left
pub record FitsColumns (room : ℕ) (bytes : List ℕ) (count : ℕ) : Type 0 where
  pub inside : count ≤ length bytes
  pub narrow : length (shown (take count bytes)) ≤ room

-- the next byte is wide, or fits with what fits after it
next_fits : (room b : ℕ) (rest : List ℕ)
    → FitsColumns (room - shown_width b) rest (fitting (room - shown_width b) rest)
    → (wide : Bool) → ltb room (shown_width b) ≡ wide
    → FitsColumns room (b ∷ rest) (cond wide 0 (suc (fitting (room - shown_width b) rest)))
unfolding shown
next_fits room b rest more true e = record { inside = omega arith; narrow = omega arith }
next_fits room b rest more false e = record {
  inside = omega (arith, more);
  narrow = omega (
    arith,
    more,
    ltb-false room (shown_width b) e,
    length-append (shown_byte b) (shown (take (fitting (room - shown_width b) rest) rest)),
  );
}

pub fitting_fits : (room : ℕ) (bytes : List ℕ) → FitsColumns room bytes (fitting room bytes)
unfolding fitting shown
fitting_fits room [] = record { inside = omega arith; narrow = omega arith }
fitting_fits room (b ∷ rest) =
    next_fits room b rest (fitting_fits (room - shown_width b) rest) (ltb room (shown_width b)) refl

-- a part with one byte more
part_next : (bytes : List ℕ) (start end : ℕ) → start ≤ end → end < length bytes
    → part start (suc end) bytes ≡ part start end bytes ++ (get_or bytes end 0 ∷ [])
part_next bytes start end h k =
    ap (drop start) (take-suc bytes end 0 k)
    ∙ drop-append-le start (take end bytes) (get_or bytes end 0 ∷ []) (rw (length-take-le end bytes (omega arith)) h)

-- what fits before a place
pub record FitsBefore (room : ℕ) (bytes : List ℕ) (place start : ℕ) : Type 0 where
  pub ordered : start ≤ place
  pub narrow : length (shown (part start place bytes)) ≤ room

-- no byte takes no column
nothing_before : (room place : ℕ) (bytes : List ℕ) → place ≤ length bytes → FitsBefore room bytes place place
unfolding shown
nothing_before room place bytes h = record {
  ordered = omega arith;
  narrow =
      rw (drop_of_length-le (take place bytes) {i = place} (omega (arith, length-take-le place bytes h))) (omega arith);
}

-- the byte before is wide, or fits with what fits before it
previous_fits : (bytes : List ℕ) (room place start : ℕ) → suc place ≤ length bytes
    → FitsBefore (room - shown_width (get_or bytes place 0)) bytes place start
    → (wide : Bool) → ltb room (shown_width (get_or bytes place 0)) ≡ wide
    → FitsBefore room bytes (suc place) (cond wide (suc place) start)
previous_fits bytes room place start h more true e = nothing_before room (suc place) bytes h
previous_fits bytes room place start h more false e = record {
  ordered = omega (arith, more.ordered);
  narrow = omega (
    arith,
    more.narrow,
    ltb-false room (shown_width (get_or bytes place 0)) e,
    ap length (ap shown (part_next bytes start place more.ordered (omega arith))
        ∙ shown_append (part start place bytes) (get_or bytes place 0 ∷ [])
        ∙ ap (λ (last : List ℕ). shown (part start place bytes) ++ last) (shown_one (get_or bytes place 0))),
    length-append (shown (part start place bytes)) (shown_byte (get_or bytes place 0)),
  );
}

pub begins_fits : (bytes : List ℕ) (room place : ℕ) → place ≤ length bytes
    → FitsBefore room bytes place (cut_begins bytes room place)
unfolding cut_begins
begins_fits bytes room zero h = nothing_before room zero bytes h
begins_fits bytes room (suc place) h =
    previous_fits bytes room place _ h
    (begins_fits bytes (room - shown_width (get_or bytes place 0)) place (omega arith))
    (ltb room (shown_width (get_or bytes place 0))) refl

-- where the cut lies, and how many columns each side takes: both together at most 78
pub record CutFits (bytes : List ℕ) (place : ℕ) : Type 0 where
  pub ordered : cut_start bytes place ≤ place
  pub reaches : place ≤ cut_end bytes place
  pub inside : cut_end bytes place ≤ length bytes
  pub narrow : length (before_place bytes place) + length (from_place bytes place) ≤ most_columns

-- dots take three columns, or none
dots_length : (cut : Bool) → length (dots cut) ≤ 3
dots_length true = omega arith
dots_length false = omega arith

module _ (bytes : List ℕ) (place : ℕ) where
  -- where the cut lies, by the test whether all fits
  pub start_whole : fitting most_columns bytes ≡ length bytes → cut_start bytes place ≡ 0
  unfolding cut_start
  start_whole e = rw (eq-eqb _ _ e) refl

  pub start_part : (fitting most_columns bytes ≡ length bytes → ⊥)
      → cut_start bytes place ≡ cut_begins bytes side_columns place
  unfolding cut_start
  start_part e = rw (ne_eqb _ _ e) refl

  pub end_whole : fitting most_columns bytes ≡ length bytes → cut_end bytes place ≡ length bytes
  unfolding cut_end
  end_whole e = rw (eq-eqb _ _ e) refl

  pub end_part : (fitting most_columns bytes ≡ length bytes → ⊥)
      → cut_end bytes place ≡ place + fitting side_columns (drop place bytes)
  unfolding cut_end
  end_part e = rw (ne_eqb _ _ e) refl

module _ (bytes : List ℕ) (place : ℕ) (inside : place ≤ length bytes) where
  -- what is shown before the place, and from it on, where nothing is left out
  before_whole : cut_start bytes place ≡ 0 → before_place bytes place ≡ shown (take place bytes)
  unfolding before_place
  before_whole e = rw e refl

  from_whole : cut_end bytes place ≡ length bytes → from_place bytes place ≡ shown (drop place bytes)
  unfolding from_place
  from_whole e =
      rw (e, le-ltb (length bytes) (length bytes) (omega arith), take-length) (append-nil (shown (drop place bytes)))

  -- all of the expression is shown
  whole_fits : fits_whole bytes ≡ true → CutFits bytes place
  whole_fits e =
      let all : fitting most_columns bytes ≡ length bytes = eqb-true _ _ e in
      let from_front = start_whole bytes place all in
      let to_end = end_whole bytes place all in
      let narrow : length (shown bytes) ≤ most_columns =
      omega (
        arith,
        (fitting_fits most_columns bytes).narrow,
        ap (λ (n : ℕ). length (shown (take n bytes))) all ∙ ap (λ (l : List ℕ). length (shown l)) (take-length bytes),
      ) in
      record {
        ordered = omega (arith, from_front);
        reaches = omega (arith, to_end, inside);
        inside = omega (arith, to_end);
        narrow = omega (
          arith,
          narrow,
          ap length (before_whole from_front),
          ap length (from_whole to_end),
          ap (λ (l : List ℕ). length (shown l)) (take-append-drop place bytes),
          ap length (shown_append (take place bytes) (drop place bytes)),
          length-append (shown (take place bytes)) (shown (drop place bytes)),
        );
      }

  -- it is cut on one side or both
  part_fits : fits_whole bytes ≡ false → CutFits bytes place
  unfolding cut_start cut_end before_place from_place
  part_fits e =
      let left = begins_fits bytes side_columns place inside in
      let right = fitting_fits side_columns (drop place bytes) in
      let start : ℕ = cut_begins bytes side_columns place in
      let count : ℕ = fitting side_columns (drop place bytes) in
      let reach : count ≤ length bytes - place = omega (arith, right.inside, length-drop place bytes) in
      let same : place + count - place ≡ count = omega arith in
      let lent : take count (drop place bytes) ≡ part place (place + count) bytes =
      ap (λ (n : ℕ). take n (drop place bytes)) (sym same)
      ∙ lent_part place (place + count) bytes (omega arith) inside in
      record {
        ordered = rw e left.ordered;
        reaches = rw e (omega arith);
        inside = rw e (omega (arith, reach));
        narrow = rw (e, length-append, length-append)
            (omega (
              arith,
              left.narrow,
              right.narrow,
              ap (λ (l : List ℕ). length (shown l)) lent,
              dots_length (ltb 0 start),
              dots_length (ltb (place + count) (length bytes)),
            ));
      }

  -- the cut round a place that is not past the end
  pub cut_fits : CutFits bytes place
  cut_fits = either (fits_whole bytes) refl
    where
      either : (whole : Bool) → fits_whole bytes ≡ whole → CutFits bytes place
      either true e = whole_fits e
      either false e = part_fits e

  -- the two parts as they are lent and printed
  pub before_lent : before_place bytes place ≡ dots (ltb 0 (cut_start bytes place))
      ++ shown (take (place - cut_start bytes place) (drop (cut_start bytes place) bytes))
  unfolding before_place
  before_lent =
      ap (λ (l : List ℕ). dots (ltb 0 (cut_start bytes place)) ++ shown l)
      (sym (lent_part (cut_start bytes place) place bytes cut_fits.ordered (omega (arith, cut_fits.ordered))))

  pub from_lent : from_place bytes place ≡ shown (take (cut_end bytes place - place) (drop place bytes))
      ++ dots (ltb (cut_end bytes place) (length bytes))
  unfolding from_place
  from_lent =
      ap (λ (l : List ℕ). shown l ++ dots (ltb (cut_end bytes place) (length bytes)))
      (sym (lent_part place (cut_end bytes place) bytes cut_fits.reaches inside))

  -- each fits in a line
  pub before_room : length (dots (ltb 0 (cut_start bytes place)))
      + length (shown (take (place - cut_start bytes place) (drop (cut_start bytes place) bytes))) ≤ most_columns
  before_room =
      omega (
        arith,
        cut_fits.narrow,
        ap length before_lent,
        length-append (dots (ltb 0 (cut_start bytes place)))
            (shown (take (place - cut_start bytes place) (drop (cut_start bytes place) bytes))),
      )

  pub from_room : length (shown (take (cut_end bytes place - place) (drop place bytes)))
      + length (dots (ltb (cut_end bytes place) (length bytes))) ≤ most_columns
  from_room =
      omega (
        arith,
        cut_fits.narrow,
        ap length from_lent,
        length-append (shown (take (cut_end bytes place - place) (drop place bytes)))
            (dots (ltb (cut_end bytes place) (length bytes))),
      )

module _ (bytes : List ℕ) (place : ℕ) where
  -- the caret stands in the expression or at its end
  pub caret_inside : caret_place bytes place ≤ length bytes
  caret_inside = either (ltb (length bytes) place) refl
    where
      either : (past : Bool) → ltb (length bytes) place ≡ past → cond past (length bytes) place ≤ length bytes
      either true e = omega arith
      either false e = ltb-false (length bytes) place e

  -- the two lines, for the caret's place and so many spaces before it
  pub marked_is : (under count : ℕ) → under ≡ caret_place bytes place → count ≡ length (before_place bytes under)
      → marked_lines bytes place
      ≡ before_place bytes under ++ from_place bytes under ++ letters "\n" ++ spaces count ++ letters "^\n"
  unfolding marked_lines
  marked_is under count e f =
      ap (marked_at bytes) (sym e)
      ∙ ap (λ (n : ℕ). before_place bytes under ++ from_place bytes under ++ letters "\n" ++ spaces n ++ letters "^\n")
      (sym f)

  -- how long the two lines are
  pub marked_parts : (under : ℕ) → under ≡ caret_place bytes place → length (marked_lines bytes place)
      ≡ length (before_place bytes under) + length (from_place bytes under) + length (before_place bytes under) + 3
  marked_parts under e =
      rw (marked_is under (length (before_place bytes under)) e refl)
      (simp (length-append, spaces_length) (omega arith))

-- the two lines have at most 159 bytes
pub marked_length : (bytes : List ℕ) (place : ℕ) → length (marked_lines bytes place) ≤ most_marked
unfolding marked_lines
marked_length bytes place =
    let fits = cut_fits bytes (caret_place bytes place) (caret_inside bytes place) in
    simp (length-append, spaces_length) (omega (arith, fits.narrow))
