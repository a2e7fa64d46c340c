-- The marks, step by step, and how wide they are.
use Rattle.std.specs.Prelude.{ℕ, zero, suc, ◌+◌, ◌*◌, ◌-◌, ◌≤◌, ◌<◌, ◌≡◌, true, false, List, [], ◌∷◌, ◌++◌, length, get_or}
use Rattle.std.proofs.Math.Path.{refl}
use Rattle.std.proofs.Common.{sym, ap, arith, add-zero, add-suc, length-append}
use borrow.Author.Tests.{eq-eqb, ne_eqb}
use Rattle.tree.specs.Layout.{place_at}
use Rattle.showing.specs.Shown.{shown_width, spaces}
use Rattle.showing.specs.ShownLaws.{spaces_length}
use Rattle.drawing.specs.Marks.{placed, mark, mark_at, marks}
use Rattle.record_line.specs.NodeLaws.{wide}

module _ (list : List ℕ) (place : ℕ) where
  -- no record is left
  pub placed_none : placed list 0 place ≡ false
  unfolding placed
  placed_none = refl

  module _ (records i : ℕ) (last : records ≡ suc i) where
    -- the last record has the place
    pub placed_here : place_at list i ≡ place → placed list records place ≡ true
    unfolding placed
    placed_here e = rw (last, eq-eqb (place_at list i) place e) refl

    -- it has another
    pub placed_before : (place_at list i ≡ place → ⊥) → placed list records place ≡ placed list i place
    unfolding placed
    placed_before e = rw (last, ne_eqb (place_at list i) place e) refl

module _ (list : List ℕ) (records place : ℕ) where
  -- the mark under a place, and a space where there is none
  pub mark_there : placed list records place ≡ true → 94 ≡ mark list records place
  unfolding mark
  mark_there e = rw e refl

  pub mark_none : placed list records place ≡ false → 32 ≡ mark list records place
  unfolding mark
  mark_none e = rw e refl

-- a mark and the spaces after it
pub mark_is : (marked byte columns : ℕ) → columns ≡ shown_width byte
    → mark_at marked byte ≡ (marked ∷ []) ++ spaces (columns - 1)
unfolding mark_at
mark_is marked byte columns e = ap (λ (n : ℕ). marked ∷ spaces (n - 1)) (sym e)

-- a mark is as wide as its byte
pub mark_length : (marked byte : ℕ) → length (mark_at marked byte) ≡ shown_width byte
unfolding mark_at
mark_length marked byte = omega (arith, spaces_length (shown_width byte - 1), (wide byte).some)

module _ (rule list : List ℕ) (records : ℕ) where
  -- no mark, and one more
  pub marks_none : marks rule list records 0 ≡ []
  unfolding marks
  marks_none = refl

  pub marks_next : (i : ℕ) → marks rule list records (suc i)
      ≡ marks rule list records i ++ mark_at (mark list records i) (get_or rule i 0)
  unfolding marks
  marks_next i = refl

  -- four columns each at most
  pub marks_length : (count : ℕ) → length (marks rule list records count) ≤ 4 * count
  marks_length zero = rw marks_none (omega arith)
  marks_length (suc i) =
      rw (marks_next i, length-append (marks rule list records i) (mark_at (mark list records i) (get_or rule i 0)))
      (omega (arith, marks_length i, mark_length (mark list records i) (get_or rule i 0), (wide (get_or rule i 0)).most))

  -- the first marks are no wider than all
  marks_front : (count more : ℕ) → length (marks rule list records count) ≤ length (marks rule list records (count + more))
  marks_front count zero = simp add-zero (omega arith)
  marks_front count (suc more) =
      rw (add-suc, marks_next (count + more), length-append)
      (omega (arith, marks_front count more))

  -- so there is room for one mark more
  pub marks_room : (i : ℕ) → i < length rule
      → length (marks rule list records i) + length (mark_at (mark list records i) (get_or rule i 0))
      ≤ length (marks rule list records (length rule))
  marks_room i h =
      let rest = length rule - suc i in
      let all : suc i + rest ≡ length rule = omega arith in
      omega (
        arith,
        rw all at (marks_front (suc i) rest),
        ap length (marks_next i),
        length-append (marks rule list records i) (mark_at (mark list records i) (get_or rule i 0)),
      )
