-- The end at a place by its bytes, and the line before it.
use Rattle.std.specs.Prelude.{ℕ, zero, suc, ◌+◌, ◌-◌, ◌≤◌, ◌<◌, ◌≡◌, refl, Bool, true, false, ◌&&◌, cond, List, [], ◌∷◌, ◌++◌, length, get_or, take, drop, eqb}
use Rattle.std.proofs.Common.{sym, ap, ◌∙◌, subst, add-one, arith, drop_of_length-le, length-drop, take-append-drop, eqb-true, ne_eqb, take-add, take_all, drop_at, drop-drop, length-take-le}
use Rattle.std.proofs.Math.Bool.{and-false}
use Rattle.std.proofs.Math.Decide.{dec_lt}
use Rattle.std.proofs.Math.Seq.{take-nil, length-slice}
use Rattle.std.proofs.lemmas.List.{drop-append-le}
use Rattle.input.specs.Part.{part}
use Rattle.input.specs.Lines.{begins_end, lines, expression, texts}
use Rattle.input.specs.Ends.{end_size, Ends, after_end}
use Rattle.input.proofs.LineLaws.{lines_end, lines_ended, lines_last}
use Rattle.input.specs.EndLaws.{FirstLine}

-- the end at a place, by the byte there and the next one
size_at : (input : List ℕ) (place : ℕ) → end_size (drop place input)
    ≡ cond (eqb (get_or input place 0) 10) 1 (cond (eqb (get_or input place 0) 13 && eqb (get_or input (suc place) 0) 10) 2 0)
size_at [] zero = refl
size_at [] (suc place) = refl
size_at (b ∷ []) zero = rw (and-false (eqb b 13))
size_at (b ∷ c ∷ rest) zero = refl
size_at (b ∷ rest) (suc place) = size_at rest place

module _ (input : List ℕ) (place : ℕ) where
  -- byte 10 is an end of one byte
  pub size_ten : get_or input place 0 ≡ 10 → 1 ≡ end_size (drop place input)
  size_ten ten = sym (size_at input place ∙ rw ten)

  -- byte 13 directly before a 10 begins an end of two
  pub size_two : get_or input place 0 ≡ 13 → get_or input (place + 1) 0 ≡ 10 → 2 ≡ end_size (drop place input)
  size_two thirteen ten =
      let next : get_or input (suc place) 0 ≡ 10 = ap (λ (n : ℕ). get_or input n 0) (sym (add-one place)) ∙ ten in
      sym (size_at input place ∙ rw (thirteen, next))

  -- no other byte begins an end
  pub size_other : (get_or input place 0 ≡ 10 → ⊥) → (get_or input place 0 ≡ 13 → get_or input (place + 1) 0 ≡ 10 → ⊥)
      → 0 ≡ end_size (drop place input)
  size_other other apart =
      sym (size_at input place ∙ rw (ne_eqb (get_or input place 0) 10 other)
      (go (eqb (get_or input place 0) 13) (eqb (get_or input (suc place) 0) 10) λ h k.
      apart (eqb-true _ _ h) (ap (λ (n : ℕ). get_or input n 0) (add-one place) ∙ eqb-true _ _ k)))
    where
      go : (thirteen ten : Bool) → (thirteen ≡ true → ten ≡ true → ⊥) → ◌≡◌ {A = ℕ} (cond (thirteen && ten) 2 0) 0
      go true true apart = absurd (apart refl refl)
      go true false apart = refl
      go false ten apart = refl

-- an end lies within the bytes
end_within : (bytes : List ℕ) → end_size bytes ≤ length bytes
end_within [] = omega arith
end_within (b ∷ []) = go (eqb b 10)
  where
    go : (ten : Bool) → cond ten 1 0 ≤ 1
    go true = omega arith
    go false = omega arith
end_within (b ∷ c ∷ rest) = go (eqb b 10) (begins_end b (c ∷ rest))
  where
    go : (ten begins : Bool) → cond ten 1 (cond begins 2 0) ≤ suc (suc (length rest))
    go true begins = omega arith
    go false true = omega arith
    go false false = omega arith

-- so the place after it lies within the input
pub after_inside : (input : List ℕ) (end : ℕ) → end ≤ length input → after_end input end ≤ length input
after_inside input end h = omega (arith, end_within (drop end input), length-drop end input)

-- no line is left at the end of the input
pub lines_none : (input : List ℕ) (place : ℕ) → length input ≤ place → lines (drop place input) ≡ []
unfolding lines
lines_none input place h = ap lines (drop_of_length-le input h)

module _ (input : List ℕ) (start end : ℕ) (e : Ends input start end) where
  -- the line lies before its end
  split : drop start input ≡ part start end input ++ drop end input
  split =
      ap (drop start) (sym (take-append-drop end input))
      ∙ drop-append-le start (take end input) (drop end input)
      (rw (length-take-le end input e.inside) e.ordered)

  -- no byte of the line begins an end
  unbroken_from : (i : ℕ) → i < end - start → end_size (drop i (drop start input)) ≡ 0
  unbroken_from i h = rw (drop-drop i start input) (e.unbroken (start + i) (omega arith) (omega arith))

  -- a line takes a byte
  pub after_start : start < length input → start < after_end input end
  after_start some =
      elim (dec_lt end (length input)) [
        | yes h ↦ omega (arith, e.ordered, e.stops h)
        | no h ↦ omega arith
      ]

  -- a place before the end of the input begins a line
  pub line_at : start < length input → lines (drop start input)
      ≡ part start end input ∷ lines (drop (after_end input end) input)
  line_at some =
      elim (dec_lt end (length input)) [
        | yes h ↦
            rw split
            (lines_ended (part start end input) (drop end input)
            (λ i k. rw (← split) (unbroken_from i (omega (arith, length-slice start end input e.inside))))
            (lines_end (drop end input) (e.stops h)
            ∙ ap (λ (left : List ℕ). [] ∷ lines left) (drop-drop (end_size (drop end input)) end input)))
        | no h ↦
            let all : part start end input ≡ drop start input = ap (drop start) (take_all end input (omega arith)) in
            rw (all, lines_none input (after_end input end) (omega arith))
            (lines_last (drop start input) (omega (arith, length-drop start input))
            (λ i k. unbroken_from i (omega (arith, length-drop start input))))
      ]

pub first_line : (input : List ℕ) (end : ℕ) → Ends input 0 end → FirstLine input end
unfolding lines
first_line [] end e =
    record { is_expression = sym (take-nil end); are_texts = sym (lines_none [] (after_end [] end) (omega arith)) }
first_line (b ∷ rest) end e =
    let here = line_at (b ∷ rest) 0 end e (omega arith) in
    record { is_expression = ap expression here; are_texts = ap texts here }

-- a part that is lent: what follows its start, as long as it is
pub lent_part : (start end : ℕ) (text : List ℕ) → start ≤ end → start ≤ length text
    → take (end - start) (drop start text) ≡ part start end text
lent_part start end text h k =
    let split : end ≡ start + (end - start) = omega arith in
    sym (ap (λ (n : ℕ). drop start (take n text)) split ∙ ap (drop start) (take-add start (end - start) text)
    ∙ drop_at (take start text) _ start (length-take-le start text k))

-- an end that is the first of the bytes from a place on is the next one from there
pub ends_from : (input : List ℕ) (start end : ℕ) → start ≤ length input → Ends (drop start input) 0 end
    → Ends input start (start + end)
ends_from input start end within e = record {
  ordered = omega arith;
  inside = omega (arith, within, e.inside, length-drop start input);
  unbroken = λ i h k.
      let there : drop (i - start) (drop start input) ≡ drop i input =
      drop-drop (i - start) start input ∙ ap (λ (n : ℕ). drop n input) (omega (arith, h)) in
      sym (ap end_size there) ∙ e.unbroken (i - start) (omega arith) (omega (arith, h, k));
  stops = λ h. subst (λ (l : List ℕ). 0 < end_size l) (drop-drop end start input)
      (e.stops (omega (arith, h, length-drop start input)));
}
