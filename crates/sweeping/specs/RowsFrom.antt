-- The rows of a table from a piece on are a table of that piece and those below it, counted from it.
use Rattle.std.specs.Prelude.{ℕ, ◌+◌, ◌*◌, ◌-◌, ◌/◌, ◌%◌, ◌^◌, ◌≡◌, ◌↔◌, List, length, get_or, take, drop}
use Rattle.std.proofs.Common.{arith, sym, ap, ◌∙◌, subst, length-drop, get_or-drop, take_all}
use Rattle.language.specs.Nested.{Nested, leaf, catenation, union, star, below}
use Rattle.tree.specs.Leaf.{Leaf}
use Rattle.tables.specs.Words.{word_bits, Bit, width, run}
use Rattle.tables.specs.Plan.{row_words, word_of, byte_of, class_of, RowOf, PieceAt, ChildrenAt}
use Rattle.sweeping.specs.Swept.{InRows}

-- what is left of the table from the row of the piece a on
abbrev pub rows_from : List ℕ → ℕ → List ℕ
rows_from rows a = take (length rows - row_words * a) (drop (row_words * a) rows)

module _ (rows : List ℕ) (a : ℕ) where
  abbrev rest : List ℕ
  rest = rows_from rows a

  rest_is : rest ≡ drop (row_words * a) rows
  rest_is = take_all (length rows - row_words * a) (drop (row_words * a) rows)
      (omega (arith, length-drop (row_words * a) rows))

  pub rows_length : length rest ≡ length rows - row_words * a
  rows_length = ap length rest_is ∙ length-drop (row_words * a) rows

  -- a word of a row
  word_from : (k n j : ℕ) → n ≡ a + k → word_of rest k j ≡ word_of rows n j
  word_from k n j e =
      ap (λ (l : List ℕ). get_or l (row_words * k + j) 0) rest_is
      ∙ get_or-drop (row_words * a) rows (row_words * k + j) 0 ∙ ap (λ (i : ℕ). get_or rows i 0) (omega arith)

  -- a byte of a row
  byte_from : (k n i : ℕ) → n ≡ a + k → byte_of rest k i ≡ byte_of rows n i
  byte_from k n i e = ap (λ (w : ℕ). w / 2 ^ (8 * (i % 8)) % 256) (word_from k n (5 + i / 8) e)

  -- a row says what it said
  row_from : (codes : List ℕ) (k n states : ℕ) → n ≡ a + k → RowOf rows codes n states → RowOf rest codes k states
  row_from codes k n states e row = record {
    leading = λ i. mask 0 i (row.leading i);
    jumping = λ i. mask 1 i (row.jumping i);
    leaves = λ i. mask 2 i (row.leaves i);
    classes = λ i. mask 3 i (row.classes i);
    target = λ i l jumps. ap (λ (b : ℕ). b % word_bits) (byte_from k n i e) ∙ row.target i l jumps;
    character = λ i l leaf' other. ap (λ (b : ℕ). 2 * (b + 1)) (byte_from k n i e) ∙ row.character i l leaf' other;
    class = λ i l one. ap (λ (c : ℕ). 2 * c + 1) (class_from i) ∙ row.class i l one;
  }
    where
      mask : {P : Type 0} (j i : ℕ) → Bit (word_of rows n j) i ↔ P → Bit (word_of rest k j) i ↔ P
      mask {P} j i = subst (λ (w : ℕ). Bit w i ↔ P) (sym (word_from k n j e))

      class_from : (i : ℕ) → class_of rest k i ≡ class_of rows n i
      class_from i =
          ap (λ (b : ℕ). b + 256 * (byte_of rest k (i + 1) / word_bits)) (byte_from k n i e)
          ∙ ap (λ (b : ℕ). byte_of rows n i + 256 * (b / word_bits)) (byte_from k n (i + 1) e)

  -- it speaks of a piece
  piece_from : (x : Nested Leaf) (k n : ℕ) → n ≡ a + k → PieceAt rows x n → PieceAt rest x k
  piece_from x k n e at = record {
    coded = row_from _ k n (width x) e at.coded;
    ran = ap (λ (w : ℕ). w % 256) (word_from k n 4 e) ∙ at.ran;
    topped = ap (λ (w : ℕ). w / 65536 % 256) (word_from k n 4 e) ∙ at.topped;
  }

  -- and of the child pieces below it
  children_from : (x : Nested Leaf) (i k n : ℕ) → n ≡ a + k → ChildrenAt rows x i n → ChildrenAt rest x i k
  children_from (leaf b) i k n e at = tt
  children_from (catenation x y) i k n e at = (
    children_from x (i + 1) k n e at.0,
    children_from y (i + (1 + width x)) (k + run x) (n + run x) (omega arith) at.1,
  )
  children_from (union x y) i k n e at = (
    children_from x (i + 1) k n e at.0,
    children_from y (i + (1 + width x)) (k + run x) (n + run x) (omega arith) at.1,
  )
  children_from (star x) i k n e at = children_from x (i + 1) k n e at
  children_from (below x) i k n e at = (
    ap (λ (w : ℕ). w / 256 % 256) (word_from k n 4 e) ∙ at.0,
    piece_from x k n e at.1,
    children_from x 0 (k + 1) (n + 1) (omega arith) at.2,
  )

  -- the piece is piece 0 of what is left
  pub in_rows_from : (x : Nested Leaf) → InRows rows x a → InRows rest x 0
  in_rows_from x at = record {
    piece = piece_from x 0 a (omega arith) at.piece;
    children = children_from x 0 1 (a + 1) (omega arith) at.children;
    narrow = at.narrow;
    narrow_below = at.narrow_below;
  }
