-- Leaves that take two bytes alike, in the rows of a tree: they are those that do not tell the bytes apart.
use Rattle.std.specs.Prelude.{ℕ, ◌+◌, ◌*◌, ◌/◌, ◌%◌, ◌^◌, ◌≤◌, ◌<◌, ◌≡◌, refl, cond, List, get_or}
use Rattle.std.proofs.Common.{sym, ap, ◌∙◌, subst, arith, eq-eqb, ne_eqb}
use Rattle.std.proofs.Math.Decide.{ℕ_discrete, dec_lt}
use Rattle.language.specs.Tree.{Tree}
use Rattle.language.specs.Nested.{Nested, leaf, catenation, union, star, below}
use Rattle.language.specs.TakenAsOne.{NotToldApart}
use Rattle.tree.specs.Leaf.{Leaf, meaning}
use Rattle.tree.specs.Limits.{most_states}
use Rattle.tree.specs.Nesting.{every_below}
use Rattle.tree.specs.Pieces.{cut_up, stated}
use Rattle.tables.specs.Words.{Bit, width, run}
use Rattle.tables.specs.Plan.{IsLeaf, codes_of, leaves_mask, classes_mask, byte_of, class_of, RowOf}
use Rattle.tables.specs.Tables.{Prepared}
use Rattle.tables.specs.Entries.{length_codes}
use Rattle.planning.specs.Given.{small_narrow}
use Rattle.closing.specs.Passes.Laid.{Lays, LaysBelow, LaysEach, NarrowBelow, lays_each}
use Rattle.columns.specs.Alike.{
  Alike,
  LeavesAlike,
  OwnAlike,
  BelowAlike,
  start_code_at,
  PieceAlike,
  AlikeBefore,
}
use Rattle.columns.specs.AlikeInTrees.{not_told_apart}
use Rattle.columns.specs.AlikeInPieces.{pieces_of, in_pieces, own_codes, codes_each, each_codes}

-- the number of a class's leaf, and that of a character's
module _ (rows : List ℕ) (k i : ℕ) where
  pub start_class : Bit (classes_mask rows k) i → start_code_at rows k i ≡ 2 * class_of rows k i + 1
  start_class set = ap (λ c. cond c (2 * class_of rows k i + 1) (2 * (byte_of rows k i + 1))) (eq-eqb _ 1 set)

  pub start_character : (Bit (classes_mask rows k) i → ⊥) → start_code_at rows k i ≡ 2 * (byte_of rows k i + 1)
  start_character not_set =
      ap (λ c. cond c (2 * class_of rows k i + 1) (2 * (byte_of rows k i + 1))) (ne_eqb _ 1 not_set)

-- it is the one that stands in the code of the leaf's start
row_number : {rows codes : List ℕ} {k n : ℕ} → RowOf rows codes k n → (i : ℕ) → i < n → IsLeaf (get_or codes i 0)
    → start_code_at rows k i ≡ get_or codes i 0 / 4
row_number {rows} {codes} {k} {n} row i inside is = elim (ℕ_discrete (classes_mask rows k / 2 ^ i % 2) 1) [
  | yes set ↦ start_class rows k i set ∙ row.class i inside ((row.classes i).0 set).1
  | no other ↦ start_character rows k i other
      ∙ row.character i inside is (λ class. other ((row.classes i).1 (inside, class)))
]

module _ (rows classes : List ℕ) (b c : ℕ) where
  -- the leaves of the piece k are those of the tree whose codes the row speaks of
  own_piece : (x : Nested Leaf) (k : ℕ) → Lays rows x k → OwnAlike classes b c x → PieceAlike rows classes k b c
  own_piece x k lays own = record {
    each = λ i h bit.
        let (inside, is) = (lays.coded.leaves i).0 bit in
        subst (λ (n : ℕ). Alike classes n b c) (sym (row_number lays.coded i inside is))
        (codes_each classes b c (codes_of x 0 0) ((own_codes classes b c x 0 0 (λ none. none.1 refl)).1 own) i
        (omega (arith, length_codes x 0 0)) is);
  }

  piece_own : (x : Nested Leaf) (k : ℕ) → width x ≤ most_states → Lays rows x k → PieceAlike rows classes k b c
      → OwnAlike classes b c x
  piece_own x k narrow lays piece =
      (own_codes classes b c x 0 0 (λ none. none.1 refl)).0 (each_codes classes b c (codes_of x 0 0) (λ i h is.
      let inside : i < width x = omega (arith, length_codes x 0 0) in
      subst (λ (n : ℕ). Alike classes n b c) (row_number lays.coded i inside is)
      (piece.each i (omega arith) ((lays.coded.leaves i).1 (inside, is)))))

  -- the same of the child pieces below x, which are numbered from `new`
  below_pieces : (x : Nested Leaf) (new : ℕ) → LaysBelow rows x new → BelowAlike classes b c x → (k : ℕ)
      → new ≤ k → k < new + run x → PieceAlike rows classes k b c
  below_pieces (leaf a) new lays alike k from to = absurd (omega arith)
  below_pieces (catenation x y) new lays alike k from to = elim (dec_lt k (new + run x)) [
    | yes h ↦ below_pieces x new lays.0 alike.0 k from h
    | no h ↦ below_pieces y (new + run x) lays.1 alike.1 k (omega arith) (omega arith)
  ]
  below_pieces (union x y) new lays alike k from to = elim (dec_lt k (new + run x)) [
    | yes h ↦ below_pieces x new lays.0 alike.0 k from h
    | no h ↦ below_pieces y (new + run x) lays.1 alike.1 k (omega arith) (omega arith)
  ]
  below_pieces (star x) new lays alike k from to = below_pieces x new lays alike k from to
  below_pieces (below x) new lays alike k from to = elim (ℕ_discrete k new) [
    | yes e ↦ subst (λ (n : ℕ). PieceAlike rows classes n b c) (sym e) (own_piece x new lays.0 alike.0)
    | no other ↦ below_pieces x (new + 1) lays.1 alike.1 k (omega arith) (omega arith)
  ]

  pieces_below : (x : Nested Leaf) (new : ℕ) → NarrowBelow x → LaysBelow rows x new
      → ((k : ℕ) → new ≤ k → k < new + run x → PieceAlike rows classes k b c) → BelowAlike classes b c x
  pieces_below (leaf a) new narrow lays each = tt
  pieces_below (catenation x y) new narrow lays each = (
    pieces_below x new narrow.0 lays.0 (λ k from to. each k from (omega arith)),
    pieces_below y (new + run x) narrow.1 lays.1 (λ k from to. each k (omega arith) (omega arith)),
  )
  pieces_below (union x y) new narrow lays each = (
    pieces_below x new narrow.0 lays.0 (λ k from to. each k from (omega arith)),
    pieces_below y (new + run x) narrow.1 lays.1 (λ k from to. each k (omega arith) (omega arith)),
  )
  pieces_below (star x) new narrow lays each = pieces_below x new narrow lays each
  pieces_below (below x) new narrow lays each = (
    piece_own x new narrow.0 lays.0 (each new (omega arith) (omega arith)),
    pieces_below x (new + 1) narrow.1 lays.1 (λ k from to. each k (omega arith) (omega arith)),
  )

  -- entry by entry, and piece by piece
  by_entries : (count : ℕ) → ((k : ℕ) → k < count → PieceAlike rows classes k b c)
      → AlikeBefore rows classes (most_states * count) b c
  by_entries count pieces = record {
    each = λ q h starts. (pieces (q / most_states) (omega arith)).each (q % most_states) (omega arith) starts;
  }

  by_pieces : (count : ℕ) → AlikeBefore rows classes (most_states * count) b c → (k : ℕ) → k < count
      → PieceAlike rows classes k b c
  by_pieces count alike k h = record {
    each = λ i inside bit.
        let at = most_states * k + i in
        let piece : at / most_states ≡ k = omega arith in
        let state : at % most_states ≡ i = omega arith in
        subst (λ (n : ℕ). Alike classes (start_code_at rows k n) b c) state
        (subst (λ (n : ℕ). Alike classes (start_code_at rows n (at % most_states)) b c) piece
        (alike.each at (omega arith)
        (subst (λ (n : ℕ). Bit (leaves_mask rows n) (at % most_states)) (sym piece)
        (subst (λ (n : ℕ). Bit (leaves_mask rows k) n) (sym state) bit))));
  }

-- in the rows of t the leaves take two bytes alike exactly where no leaf of t tells them apart
module _ {rows : List ℕ} {count : ℕ} {t : Tree Leaf} (prepared : Prepared t rows count) where
  counted : count ≡ 1 + run (cut_up t)
  counted = prepared.counted ∙ sym (stated t).all_pieces

  laid : LaysEach rows (cut_up t)
  laid = lays_each rows (cut_up t) prepared.planned

  narrow : NarrowBelow (cut_up t)
  narrow = every_below small_narrow (cut_up t) (stated t).every_small.1

  pub alike_told : (classes : List ℕ) (b c : ℕ) → AlikeBefore rows classes (most_states * count) b c
      → NotToldApart (meaning classes) t b c
  alike_told classes b c alike =
      let each = by_pieces rows classes b c count alike in
      let own = piece_own rows classes b c (cut_up t) 0 (small_narrow (cut_up t) (stated t).every_small.0)
      laid.0 (each 0 (omega (arith, counted))) in
      let others = pieces_below rows classes b c (cut_up t) 1 narrow laid.1
      (λ k from to. each k (omega (arith, counted))) in
      (not_told_apart classes b c t).0
      (subst (λ (s : Tree Leaf). LeavesAlike classes b c s) (stated t).same_tree
      (pieces_of classes b c (cut_up t) (own, others)))

  pub told_alike : (classes : List ℕ) (b c : ℕ) → NotToldApart (meaning classes) t b c
      → AlikeBefore rows classes (most_states * count) b c
  told_alike classes b c same =
      let leaves = in_pieces classes b c (cut_up t) (subst (λ (s : Tree Leaf). LeavesAlike classes b c s)
      (sym (stated t).same_tree) ((not_told_apart classes b c t).1 same)) in
      by_entries rows classes b c count (λ k h. elim (ℕ_discrete k 0) [
        | yes e ↦ subst (λ (n : ℕ). PieceAlike rows classes n b c) (sym e)
            (own_piece rows classes b c (cut_up t) 0 laid.0 leaves.0)
        | no other ↦ below_pieces rows classes b c (cut_up t) 1 laid.1 leaves.1 k (omega arith)
            (omega (arith, counted))
      ])
