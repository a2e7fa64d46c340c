-- The codes of a piece of a good list have their places in a row; and when a row is kept, what it says is kept.
use Rattle.std.specs.Prelude.{ℕ, zero, suc, ◌+◌, ◌*◌, ◌/◌, ◌%◌, ◌^◌, ◌≤◌, ◌<◌, ◌≡◌, refl, ◌↔◌, List, [], ◌∷◌, ◌++◌, length, get_or}
use Rattle.std.proofs.Common.{sym, ap, subst, ◌∙◌, arith}
use Rattle.language.specs.Nested.{Nested, leaf, catenation, union, star, below}
use Rattle.tree.specs.Leaf.{Leaf}
use Rattle.tree.specs.Limits.{most_states}
use Rattle.tree.specs.Layout.{record_size}
use Rattle.tables.specs.Words.{word_bits, Bit, width}
use Rattle.tables.specs.Plan.{
  row_size,
  row_words,
  word_of,
  byte_of,
  leads_on,
  jumps_to,
  leads_and_jumps,
  LeadsOn,
  Jumps,
  IsLeaf,
  IsClass,
  codes_of,
  RowOf,
  PieceAt,
}
use Rattle.tables.specs.Entries.{Lies, ends, entry, length_codes, wide}
use Rattle.tables.specs.Standing.{
  site,
  catenation_left,
  catenation_right,
  union_left,
  union_right,
  operand,
  Fine,
  child_fine,
  leaf_shows,
  most_leaves,
}
use Rattle.packing.specs.Packing.{FitsRow, Packable}

-- in the piece's own tree characters are bytes, and the numbers of classes are below 960
abbrev pub LowLeaves : Nested Leaf → Type 0
LowLeaves (leaf (Leaf.character c)) = c < 256
LowLeaves (leaf (Leaf.class k)) = k < most_leaves
LowLeaves (leaf Leaf.empty_text) = Unit {0}
LowLeaves (catenation x y) = LowLeaves x × LowLeaves y
LowLeaves (union x y) = LowLeaves x × LowLeaves y
LowLeaves (star x) = LowLeaves x
LowLeaves (below x) = Unit {0}

-- they are where the list's entries are bytes
pub low_leaves : (x : Nested Leaf) {list : List ℕ} {room f p n i : ℕ} → Fine list room (site x f p n i)
    → ((j : ℕ) → get_or list j 0 < 256) → LowLeaves x
low_leaves (leaf (Leaf.character c)) {f = f} fine bytes =
    omega (arith, (leaf_shows (Leaf.character c) fine f refl).character_is, bytes (record_size * f + 1))
low_leaves (leaf (Leaf.class k)) fine bytes = fine.numbers
low_leaves (leaf Leaf.empty_text) fine bytes = tt
low_leaves (catenation x y) fine bytes =
    (low_leaves x (child_fine catenation_left fine) bytes, low_leaves y (child_fine catenation_right fine) bytes)
low_leaves (union x y) fine bytes =
    (low_leaves x (child_fine union_left fine) bytes, low_leaves y (child_fine union_right fine) bytes)
low_leaves (star x) fine bytes = low_leaves x (child_fine operand fine) bytes
low_leaves (below x) fine bytes = tt

-- the code of a state that is no leaf's start; if it jumps, then not past the word
pub record PassesOn (code : ℕ) : Type 0 where
  pub no_leaf : IsLeaf code → ⊥
  pub near : Jumps code → code / 4 < word_bits

-- such a code has its place in a row
passes_fits : {code : ℕ} → PassesOn code → FitsRow code
passes_fits p = record {
  target = p.near;
  character = λ is_IsLeaf. absurd (p.no_leaf is_IsLeaf);
  class = λ class. absurd (p.no_leaf class.0);
}

-- codes that have their places in a row: after each leaf's start comes a state that is none
pub data Fitting : List ℕ → Type 0 where
  none : Fitting []
  other : {code : ℕ} {l : List ℕ} → PassesOn code → Fitting l → Fitting (code ∷ l)
  start : {code next : ℕ} {l : List ℕ} → FitsRow code → PassesOn next → Fitting l → Fitting (code ∷ next ∷ l)

-- one after another
fitting_append : {l m : List ℕ} → Fitting l → Fitting m → Fitting (l ++ m)
fitting_append none g = g
fitting_append (other p h) g = other p (fitting_append h g)
fitting_append (start p q h) g = start p q (fitting_append h g)

-- the codes of states that are no leaf's start
leads : PassesOn leads_on
leads = record { no_leaf = λ is_IsLeaf. omega (arith, is_IsLeaf.0); near = λ _. omega arith }

stops : PassesOn 0
stops = record { no_leaf = λ is_IsLeaf. is_IsLeaf.1 refl; near = λ _. omega arith }

jumps : (target : ℕ) → target < word_bits → PassesOn (jumps_to target)
jumps target low = record { no_leaf = λ is_IsLeaf. omega (arith, is_IsLeaf.0); near = λ _. omega arith }

branches : (target : ℕ) → target < word_bits → PassesOn (leads_and_jumps target)
branches target low = record { no_leaf = λ is_IsLeaf. omega (arith, is_IsLeaf.0); near = λ _. omega arith }

-- the codes of a piece fit
pub codes_fitting : (x : Nested Leaf) (i exit : ℕ) → LowLeaves x → i + width x ≤ most_states → PassesOn exit
    → Fitting (codes_of x i exit)
codes_fitting (leaf (Leaf.character c)) i exit low narrow last =
    start {code = 4 * (2 * (c + 1))}
    (record { target = λ jumps. omega arith; character = λ _ _. omega (arith, low); class = λ _. omega (arith, low) })
    last none
codes_fitting (leaf (Leaf.class k)) i exit low narrow last =
    start {code = 4 * (2 * k + 1)} (record {
      target = λ jumps. omega arith;
      character = λ is_IsLeaf no_class. absurd (no_class ((omega arith, λ e. omega arith), omega arith));
      class = λ _. omega (arith, low);
    }) last none
codes_fitting (leaf Leaf.empty_text) i exit low narrow last = other leads (other last none)
codes_fitting (catenation x y) i exit low narrow last =
    other leads
    (fitting_append (fitting_append (codes_fitting x (i + 1) leads_on low.0 (omega arith) leads)
    (codes_fitting y (i + (1 + width x)) leads_on low.1 (omega arith) leads)) (other last none))
codes_fitting (union x y) i exit low narrow last =
    other (branches (i + (1 + width x)) (omega arith))
    (fitting_append (fitting_append
    (codes_fitting x (i + 1) _ low.0 (omega arith) (jumps (i + (1 + width x + width y)) (omega arith)))
    (codes_fitting y (i + (1 + width x)) leads_on low.1 (omega arith) leads)) (other last none))
codes_fitting (star x) i exit low narrow last =
    other (branches (i + (1 + width x)) (omega arith))
    (fitting_append (codes_fitting x (i + 1) _ low (omega arith) (branches (i + 1) (omega arith))) (other last none))
codes_fitting (below x) i exit low narrow last = other stops (other last none)

-- each code has its place in a row
fitting_each : {l : List ℕ} → Fitting l → (j : ℕ) → j < length l → FitsRow (get_or l j 0)
fitting_each none j h = absurd (omega arith)
fitting_each (other p g) zero h = passes_fits p
fitting_each (other p g) (suc j) h = fitting_each g j (omega arith)
fitting_each (start p q g) zero h = p
fitting_each (start p q g) (suc zero) h = passes_fits q
fitting_each (start p q g) (suc (suc j)) h = fitting_each g j (omega arith)

-- a leaf's start is followed by a state that is none
fitting_paired : {l : List ℕ} → Fitting l → (j : ℕ) → j < length l → IsLeaf (get_or l j 0)
    → (suc j < length l) × (IsLeaf (get_or l (suc j) 0) → ⊥)
fitting_paired none j h is_IsLeaf = absurd (omega arith)
fitting_paired (other p g) zero h is_IsLeaf = absurd (p.no_leaf is_IsLeaf)
fitting_paired (other p g) (suc j) h is_IsLeaf =
    let next = fitting_paired g j (omega arith) is_IsLeaf in (omega (arith, next.0), next.1)
fitting_paired (start p q g) zero h is_IsLeaf = (omega arith, q.no_leaf)
fitting_paired (start p q g) (suc zero) h is_IsLeaf = absurd (q.no_leaf is_IsLeaf)
fitting_paired (start p q g) (suc (suc j)) h is_IsLeaf =
    let next = fitting_paired g j (omega arith) is_IsLeaf in (omega (arith, next.0), next.1)

-- an entry of a list that stands in another
lies_entry : {rows : List ℕ} {at : ℕ} {l : List ℕ} → Lies rows at l → (j : ℕ) → j < length l
    → get_or rows (at + j) 0 ≡ get_or l j 0
lies_entry ends j h = absurd (omega arith)
lies_entry {rows} {at} (entry e g) zero h = ap (λ (n : ℕ). get_or rows n 0) (omega arith) ∙ e
lies_entry {rows} {at} (entry e g) (suc j) h =
    ap (λ (n : ℕ). get_or rows n 0) (omega arith) ∙ lies_entry g j (omega arith)

-- the codes of a piece are the first entries
pub code_entry : {codes : List ℕ} (x : Nested Leaf) → Lies codes 0 (codes_of x 0 0) → (j : ℕ) → j < width x
    → get_or codes j 0 ≡ get_or (codes_of x 0 0) j 0
code_entry {codes} x lies j h =
    ap (λ (n : ℕ). get_or codes n 0) (omega arith) ∙ lies_entry lies j (omega (arith, length_codes x 0 0))

-- so they can be packed
pub codes_packable : {codes : List ℕ} {last : ℕ} (x : Nested Leaf) → LowLeaves x → width x ≤ most_states
    → row_size ≤ length codes → Lies codes 0 (codes_of x 0 0) → last ≡ width x → Packable codes last
codes_packable {codes} {last} x low narrow room lies e =
    let fitting = codes_fitting x 0 0 low (omega arith) stops in
    let long = length_codes x 0 0 in
    record {
      some = omega (arith, wide x);
      few = omega arith;
      room = room;
      each = λ j h. subst FitsRow (sym (code_entry x lies j (omega arith))) (fitting_each fitting j (omega arith));
      paired = λ j h class.
          let here = code_entry x lies j (omega arith) in
          let next = fitting_paired fitting j (omega arith) (subst IsLeaf here class.0) in
          let after : get_or codes (j + 1) 0 ≡ get_or (codes_of x 0 0) (suc j) 0 =
          code_entry x lies (j + 1) (omega (arith, next.0))
          ∙ ap (λ (n : ℕ). get_or (codes_of x 0 0) n 0) (omega arith) in
          (omega (arith, next.0), λ is_IsLeaf. next.1 (subst IsLeaf after is_IsLeaf));
    }

-- what the row of the piece k says is kept where its words and the codes are
module _ (rows after codes other : List ℕ) (k n : ℕ) (narrow : n ≤ most_states)
    (words : (j : ℕ) → j < row_words → word_of after k j ≡ word_of rows k j)
    (same : (i : ℕ) → i < n → get_or other i 0 ≡ get_or codes i 0) where
  mask_kept : (P : ℕ → Type 0) (j i : ℕ) → j < row_words → Bit (word_of rows k j) i ↔ ((i < n) × P (get_or codes i 0))
      → Bit (word_of after k j) i ↔ ((i < n) × P (get_or other i 0))
  mask_kept P j i low says = (
    λ b. let (h, p) = says.0 (subst (λ (w : ℕ). Bit w i) (words j low) b) in (h, subst P (sym (same i h)) p),
    λ (h, p). subst (λ (w : ℕ). Bit w i) (sym (words j low)) (says.1 (h, subst P (same i h) p)),
  )

  byte_kept : (i : ℕ) → i < row_size → byte_of after k i ≡ byte_of rows k i
  byte_kept i low = ap (λ (w : ℕ). w / 2 ^ (8 * (i % 8)) % 256) (words (5 + i / 8) (omega arith))

  pub row_kept : RowOf rows codes k n → RowOf after other k n
  row_kept row = record {
    leading = λ i. mask_kept LeadsOn 0 i (omega arith) (row.leading i);
    jumping = λ i. mask_kept Jumps 1 i (omega arith) (row.jumping i);
    leaves = λ i. mask_kept IsLeaf 2 i (omega arith) (row.leaves i);
    classes = λ i. mask_kept IsClass 3 i (omega arith) (row.classes i);
    target = λ i h jumps.
        let code = same i h in
        omega (arith, code, byte_kept i (omega arith), row.target i h (subst Jumps code jumps));
    character = λ i h is_IsLeaf no_class.
        let code = same i h in
        omega (
          arith,
          code,
          byte_kept i (omega arith),
          row.character i h (subst IsLeaf code is_IsLeaf) (λ class. no_class (subst IsClass (sym code) class)),
        );
    class = λ i h class.
        let code = same i h in
        omega (
          arith,
          code,
          byte_kept i (omega arith),
          byte_kept (i + 1) (omega arith),
          row.class i h (subst IsClass code class),
        );
  }

-- and what the rows say of a piece is kept where the piece's words are
pub piece_kept : (rows after : List ℕ) (x : Nested Leaf) (k : ℕ) → width x ≤ most_states
    → ((j : ℕ) → j < row_words → word_of after k j ≡ word_of rows k j) → PieceAt rows x k → PieceAt after x k
piece_kept rows after x k narrow words told = record {
  coded = row_kept rows after (codes_of x 0 0) (codes_of x 0 0) k (width x) narrow words (λ i h. refl) told.coded;
  ran = ap (λ (w : ℕ). w % 256) (words 4 (omega arith)) ∙ told.ran;
  topped = ap (λ (w : ℕ). w / 65536 % 256) (words 4 (omega arith)) ∙ told.topped;
}
