-- Moving the word of one piece along a byte: the bits of the states whose leaves take the byte, each one place up.
use Rattle.std.specs.Prelude.{ℕ, zero, suc, ◌*◌, ◌/◌, ◌%◌, ◌^◌, ◌≤◌, ◌<◌, ◌≡◌, refl, ◌↔◌, List, get_or}
use Rattle.std.proofs.Common.{sym, ap, ◌∙◌, subst, subst₂, inl, inr, ⊎_elim, mod-eq_of_lt, lt_of_lt_of_le, arith, pow_mono}
use Rattle.std.specs.Int.Bits.{bit_or, bit_and, bit_xor}
use Rattle.language.specs.Automaton.{State}
use Rattle.language.specs.Nested.{Nested, OwnReads}
use Rattle.tree.specs.Limits.{most_states}
use Rattle.tree.specs.Leaf.{Leaf, InClass, meaning}
use Rattle.tables.specs.Words.{word_bits, Bit, width, Own, number}
use Rattle.tables.specs.Plan.{
  IsLeaf,
  codes_of,
  takes,
  leaves_mask,
  classes_mask,
  byte_of,
  class_of,
  IsClass,
  RowOf,
  Moves,
}
use Rattle.closing.specs.Passes.Laid.{Lays}
use Rattle.closing.specs.Passes.RunOn.{bit_without}
use Rattle.closing.specs.BitsOfWords.Bits.{
  dec_bit,
  bit_zero,
  bit_of_or,
  bit_of_and,
  bit_below,
  bit_low,
  bit_suc,
  below_of_bits,
}
use Rattle.closing.specs.BitsOfWords.Numbers.{number_below, number_onto, number_injective}
use Rattle.moving.specs.Codes.{
  CodeTakes,
  of_character,
  of_class,
  no_leaf_takes,
  even_takes,
  odd_takes,
  reads_on,
  reads_from,
}
use Rattle.moving.specs.LeafCodes.{leaf_by_number}
use Rattle.moving.specs.Picking.{PickedByByte, PickedByClass}

-- a word one place up
bit_up : (w j : ℕ) → Bit (w * 2) (suc j) ↔ Bit w j
bit_up w j = (
  λ b. subst (λ (v : ℕ). Bit v j) half ((bit_suc (w * 2) j).0 b),
  λ b. (bit_suc (w * 2) j).1 (subst (λ (v : ℕ). Bit v j) (sym half) b),
)
  where
    half : w * 2 / 2 ≡ w
    half = omega arith

-- the low bit is then clear
no_bit_up : (w : ℕ) → Bit (w * 2) 0 → ⊥
no_bit_up w b = omega (arith, bit_low (w * 2), b)

-- from a state of w a transition that reads b leads to the state numbered j
record LedByReading (classes : List ℕ) (x : Nested Leaf) (b w j : ℕ) : Type 0 where
  from : State
  to : State
  from_own : Own x from
  marked : Bit w (number x from)
  numbered : number x to ≡ j
  reads : OwnReads (meaning classes) b x from to

-- that state is one of the piece
comes_below : {classes : List ℕ} {x : Nested Leaf} {b w j : ℕ} → LedByReading classes x b w j → j < width x
comes_below {classes} {x} {b} m = omega (
  arith,
  number_below x m.to (reads_on classes b x m.reads).to_own,
  m.numbered,
)

-- so one leads to the state of that number
comes_to : {classes : List ℕ} {x : Nested Leaf} {b w : ℕ} (q : State) → Own x q
    → LedByReading classes x b w (number x q)
    → (p : State) × Own x p × Bit w (number x p) × OwnReads (meaning classes) b x p q
comes_to {classes} {x} {b} q o m = (
  m.from,
  m.from_own,
  m.marked,
  subst (λ (s : State). OwnReads (meaning classes) b x m.from s)
      (number_injective x m.to q (reads_on classes b x m.reads).to_own o m.numbered) m.reads,
)

-- by its row a class takes what its number takes
class_takes : {rows codes classes : List ℕ} {k n i b : ℕ} → RowOf rows codes k n → i < n → IsClass (get_or codes i 0)
    → InClass classes (class_of rows k i) b ↔ CodeTakes classes (get_or codes i 0 / 4) b
class_takes {rows} {codes} {classes} {k} {i = i} {b = b} row inside is-class =
    let number = row.class i inside is-class in (
      λ bit. of_class is-class.1
          (subst (λ (m : ℕ). InClass classes m b) (omega (arith, number)) bit),
      λ takes'. subst (λ (m : ℕ). InClass classes m b) (omega (arith, number)) (odd_takes takes' is-class.1),
    )

-- and a character what its number takes
character_takes : {rows codes classes : List ℕ} {k n i b : ℕ} → RowOf rows codes k n → i < n
    → IsLeaf (get_or codes i 0) → (IsClass (get_or codes i 0) → ⊥)
    → (byte_of rows k i ≡ b) ↔ CodeTakes classes (get_or codes i 0 / 4) b
character_takes {rows} {codes} {classes} {k} {i = i} {b = b} row inside is_IsLeaf other =
    let number = row.character i inside is_IsLeaf other in (
      λ e. of_character (omega (arith, number, e)),
      λ takes'. let e = even_takes takes' (omega (arith, number)) in omega (arith, number, e),
    )

-- a transition that reads begins at the start of a leaf: its code is four times the leaf's number
reads_code : (classes : List ℕ) (x : Nested Leaf) (b : ℕ) {p q : State} → OwnReads (meaning classes) b x p q
    → get_or (codes_of x 0 0) (number x p) 0 ≡ 4 * get_or (takes x) (number x p) 0
reads_code classes x b {p} reads =
    let s = reads_on classes b x reads in
    let some : (get_or (takes x) (number x p) 0 ≡ 0 → ⊥) = no_leaf_takes s.code in
    (leaf_by_number x p s.from_own (get_or (takes x) (number x p) 0) (omega (arith, some))).1 refl

-- which is one of the piece's leaves
pub reads_leaf : {rows : List ℕ} {piece : ℕ} {x : Nested Leaf} → Lays rows x piece → (classes : List ℕ) (b : ℕ)
    {p q : State} → Own x p → OwnReads (meaning classes) b x p q → Bit (leaves_mask rows piece) (number x p)
reads_leaf {x = x} lays classes b {p} own reads =
    let code = reads_code classes x b reads in
    let some = no_leaf_takes (reads_on classes b x reads).code in
    (lays.coded.leaves (number x p)).1
    (number_below x p own, (omega (arith, code), λ none. some (omega (arith, code, none))))

-- the starts of leaves that are marked in the word w of the piece, and of them those of classes
abbrev pub marked_leaves : List ℕ → (piece w : ℕ) → ℕ
marked_leaves rows piece w = bit_and w (leaves_mask rows piece)

abbrev pub marked_classes : List ℕ → (piece w : ℕ) → ℕ
marked_classes rows piece w = bit_and (classes_mask rows piece) (marked_leaves rows piece w)

module _ (rows classes : List ℕ) (piece b w characters taken : ℕ)
    (by_byte : PickedByByte rows piece b (bit_xor (marked_leaves rows piece w) (marked_classes rows piece w)) 0
    characters)
    (by-class : PickedByClass rows classes piece b (marked_classes rows piece w % 2 ^ 63) 0 taken)
    (x : Nested Leaf) (narrow : width x ≤ most_states) (lays : Lays rows x piece) (small : w < 2 ^ width x) where
  abbrev codes : List ℕ
  codes = codes_of x 0 0

  abbrev leaves : ℕ
  leaves = marked_leaves rows piece w

  abbrev starts : ℕ
  starts = marked_classes rows piece w

  abbrev r : ℕ
  r = bit_or characters taken

  -- a marked leaf's start
  marked_leaf : (j : ℕ) → Bit leaves j → Bit w j × (j < width x) × IsLeaf (get_or codes j 0)
  marked_leaf j c =
      let (m, l) = (bit_of_and w (leaves_mask rows piece) j).0 c in
      let (low, is_IsLeaf) = (lays.coded.leaves j).0 l in (m, low, is_IsLeaf)

  -- no start of a class is lost in the remainder
  starts_small : starts < 2 ^ 63
  starts_small = below_of_bits 63 starts
      (λ j c. omega (arith, (marked_leaf j ((bit_of_and (classes_mask rows piece) leaves j).0 c).1).1))

  -- what is picked is marked, and its code takes the byte
  picked : (j : ℕ) → Bit r j ↔ (Bit leaves j × CodeTakes classes (get_or codes j 0 / 4) b)
  picked j = (
    λ c. ⊎_elim
        (λ d. let (e, _, same) = (by_byte.exactly j).0 d in
        let (l, other) = (bit_without leaves (classes_mask rows piece) j).0 e in
        let (_, low, is_IsLeaf) = marked_leaf j l in
        (l, (character_takes lays.coded low is_IsLeaf (λ k. other ((lays.coded.classes j).1 (low, k)))).0 same))
        (λ d. let (e, _, inside) = (by-class.exactly j).0 d in
        let (k, l) = (bit_of_and (classes_mask rows piece) leaves j).0
        (subst (λ (n : ℕ). Bit n j) (mod-eq_of_lt starts_small) e) in
        let (low, is-class) = (lays.coded.classes j).0 k in
        (l, (class_takes lays.coded low is-class).0 inside))
        ((bit_of_or characters taken j).0 c),
    λ (l, takes'). let (_, low, is_IsLeaf) = marked_leaf j l in
        (bit_of_or characters taken j).1 (elim (dec_bit (classes_mask rows piece) j) [
          | yes k ↦ inr ((by-class.exactly j).1 (
            subst (λ (n : ℕ). Bit n j) (sym (mod-eq_of_lt starts_small))
                ((bit_of_and (classes_mask rows piece) leaves j).1 (k, l)),
            bit_zero j,
            (class_takes lays.coded low ((lays.coded.classes j).0 k).1).1 takes',
          ))
          | no other ↦ inl ((by_byte.exactly j).1 (
            (bit_without leaves (classes_mask rows piece) j).1 (l, other),
            bit_zero j,
            (character_takes lays.coded low is_IsLeaf (λ k. other ((lays.coded.classes j).1 (low, k)))).1 takes',
          ))
        ]),
  )

  picked_small : r < 2 ^ most_states
  picked_small = lt_of_lt_of_le
      (below_of_bits (width x) r (λ j c. bit_below small (marked_leaf j ((picked j).0 c).0).0))
      (pow_mono narrow)

  fits : r * 2 < 2 ^ word_bits
  fits = omega (arith, picked_small)

  -- the number of a leaf is what stands above the two lowest bits of its start's code
  number_at : (p : State) (j : ℕ) → Own x p → number x p ≡ j → IsLeaf (get_or codes j 0)
      → get_or (takes x) (number x p) 0 ≡ get_or codes j 0 / 4
  number_at p j o e is_IsLeaf =
      (leaf_by_number x p o (get_or codes j 0 / 4) (omega (arith, is_IsLeaf.0, is_IsLeaf.1))).0
      (ap (λ (i : ℕ). get_or codes i 0) e ∙ omega (arith, is_IsLeaf.0))

  up : (j : ℕ) → Bit (r * 2) j → LedByReading classes x b w j
  up zero c = absurd (no_bit_up r c)
  up (suc j) c =
      let (l, takes') = (picked j).0 ((bit_up r j).0 c) in
      let (m, low, is_IsLeaf) = marked_leaf j l in
      let (p, own-p, numbered) = number_onto x j low in
      let (q, reads) = reads_from classes b x p own-p
      (subst (λ (n : ℕ). CodeTakes classes n b) (sym (number_at p j own-p numbered is_IsLeaf)) takes') in
      record {
        from = p;
        to = q;
        from_own = own-p;
        marked = subst (λ (i : ℕ). Bit w i) (sym numbered) m;
        numbered = omega (arith, (reads_on classes b x reads).next, numbered);
        reads = reads;
      }

  forth : (q : State) → Own x q → (p : State) × Own x p × Bit w (number x p) × OwnReads (meaning classes) b x p q
      → Bit (r * 2) (number x q)
  forth q o (p, own-p, m, reads) =
      let s = reads_on classes b x reads in
      let j = number x p in
      subst (λ (i : ℕ). Bit (r * 2) i) (omega (arith, s.next))
      ((bit_up r j).1 ((picked j).1 (
        (bit_of_and w (leaves_mask rows piece) j).1 (m, reads_leaf lays classes b own-p reads),
        subst (λ (c : ℕ). CodeTakes classes c b) (omega (arith, reads_code classes x b reads)) s.code,
      )))

  -- the picked ones of the leaves' starts, one place up, are the word moved
  pub moves_by_leaves : Moves classes x b w (r * 2 % 2 ^ word_bits)
  moves_by_leaves = subst (λ (v : ℕ). Moves classes x b w v) (sym (mod-eq_of_lt fits)) record {
    exactly = λ q o. (λ c. comes_to q o (up (number x q) c), forth q o);
    clean = below_of_bits (width x) (r * 2) (λ j c. comes_below (up j c));
  }

-- the same by the two masks as they were read
pub moves_by_masks : {rows classes : List ℕ} {piece b w leaves_read classes_read characters taken : ℕ}
    → leaves_read ≡ leaves_mask rows piece → classes_read ≡ classes_mask rows piece
    → let among = bit_and w leaves_read in let starting = bit_and classes_read among in
    PickedByByte rows piece b (bit_xor among starting) 0 characters
    → PickedByClass rows classes piece b (starting % 2 ^ 63) 0 taken
    → (x : Nested Leaf) → width x ≤ most_states → Lays rows x piece → w < 2 ^ width x
    → Moves classes x b w (bit_or characters taken * 2 % 2 ^ word_bits)
moves_by_masks {rows} {classes} {piece} {b} {w} {characters = characters} {taken = taken} e f by_byte by_class =
    moves_by_leaves rows classes piece b w characters taken
    (subst₂ (λ (m n : ℕ). PickedByByte rows piece b (bit_xor (bit_and w m) (bit_and n (bit_and w m))) 0 characters)
    e f by_byte)
    (subst₂ (λ (m n : ℕ). PickedByClass rows classes piece b (bit_and n (bit_and w m) % 2 ^ 63) 0 taken)
    e f by_class)
