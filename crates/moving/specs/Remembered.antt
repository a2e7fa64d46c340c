-- Steps of a list of one piece, remembered in slots of two words.
use Rattle.std.specs.Prelude.{ℕ, ◌+◌, ◌*◌, ◌/◌, ◌%◌, ◌<◌, ◌≡◌, refl, List, length, get_or, set, replicate}
use Rattle.std.proofs.Common.{sym, ap, ◌∙◌, subst, subst₂, arith, length-set, get_or-set_same, get_or-set_other}
use Rattle.std.proofs.Math.Decide.{ℕ_discrete}
use Rattle.std.proofs.lemmas.List.{length-replicate, get_or-replicate}
use Rattle.tables.specs.Words.{width, number}
use Rattle.tables.specs.Plan.{leaves_mask}
use Rattle.closing.specs.BitsOfWords.Bits.{bit_of_and, bit_below, below_of_bits}
use Rattle.moving.specs.WordMoved.{marked_leaves, reads_leaf}
use Rattle.moving.specs.WordsMovedClosed.{WordAfter, none_after}

-- how many steps are remembered
abbrev pub remembered_steps : ℕ
remembered_steps = 64

-- how many bytes there are: a key is a byte, and so many times the marked leaves
abbrev pub key_bytes : ℕ
key_bytes = 256

-- a step was made: r is the word after it, from the leaves and the byte that the key tells
abbrev pub StepMade : (rows classes : List ℕ) → (key r : ℕ) → Type 0
StepMade rows classes key r = WordAfter rows classes 0 (key / key_bytes) (key % key_bytes) r

-- each slot has a step that was made
pub record Remembers (rows classes memo : List ℕ) : Type 0 where
  pub room : length memo ≡ 2 * remembered_steps
  pub made : (s : ℕ) → s < remembered_steps → StepMade rows classes (get_or memo (2 * s) 0) (get_or memo (2 * s + 1) 0)

-- words of 0 do: where no leaf is marked, nothing is after the byte 0
pub remembers_none : (rows classes : List ℕ) → Remembers rows classes (replicate (2 * remembered_steps) 0)
remembers_none rows classes = record {
  room = length-replicate {A = ℕ} (2 * remembered_steps) 0;
  made = λ s low. subst₂ (λ (k r : ℕ). StepMade rows classes k r)
      (sym (get_or-replicate {A = ℕ} (2 * remembered_steps) (2 * s) 0 0 (omega arith)))
      (sym (get_or-replicate {A = ℕ} (2 * remembered_steps) (2 * s + 1) 0 0 (omega arith)))
      (none_after rows classes 0 0 0 refl);
}

-- the step of a slot with this key
pub in_slot : {rows classes memo : List ℕ} (s : ℕ) {key : ℕ} → Remembers rows classes memo → s < remembered_steps
    → get_or memo (2 * s) 0 ≡ key → StepMade rows classes key (get_or memo (2 * s + 1) 0)
in_slot {rows} {classes} {memo} s remembers low same =
    subst (λ (k : ℕ). StepMade rows classes k (get_or memo (2 * s + 1) 0)) same (remembers.made s low)

-- one step more, in the place of the slot's own
module _ {rows classes memo : List ℕ} {s at : ℕ} (key r : ℕ) (so_far : Remembers rows classes memo)
    (low : s < remembered_steps) (place : at ≡ 2 * s) where
  abbrev after : List ℕ
  after = set (set memo at key) (at + 1) r

  kept : (j : ℕ) → (j ≡ at → ⊥) → (j ≡ at + 1 → ⊥) → get_or after j 0 ≡ get_or memo j 0
  kept j not_key not-word = get_or-set_other (set memo at key) (at + 1) j r 0 not-word
      ∙ get_or-set_other memo at j key 0 not_key

  own_key : get_or after (2 * s) 0 ≡ key
  own_key = ap (λ (j : ℕ). get_or after j 0) (sym place)
      ∙ get_or-set_other (set memo at key) (at + 1) at r 0 (λ e. omega arith)
      ∙ get_or-set_same memo at key 0 (omega (arith, so_far.room))

  own_word : get_or after (2 * s + 1) 0 ≡ r
  own_word = ap (λ (j : ℕ). get_or after (j + 1) 0) (sym place)
      ∙ get_or-set_same (set memo at key) (at + 1) r 0 (simp length-set (omega (arith, so_far.room)))

  pub remembers_more : StepMade rows classes key r → Remembers rows classes after
  remembers_more step = record {
    room = simp (length-set, length-set) so_far.room;
    made = λ i h. elim (ℕ_discrete i s) [
      | yes e ↦ subst (λ (j : ℕ). StepMade rows classes (get_or after (2 * j) 0) (get_or after (2 * j + 1) 0)) (sym e)
          (subst₂ (λ (k v : ℕ). StepMade rows classes k v) (sym own_key) (sym own_word) step)
      | no other ↦ subst₂ (λ (k v : ℕ). StepMade rows classes k v)
          (sym (kept (2 * i) (λ e. omega arith) (λ e. omega arith)))
          (sym (kept (2 * i + 1) (λ e. omega arith) (λ e. omega arith))) (so_far.made i h)
    ];
  }

-- a step hangs on the marked leaves alone
pub after_by_leaves : {rows classes : List ℕ} {piece w b r : ℕ}
    → WordAfter rows classes piece (marked_leaves rows piece w) b r → WordAfter rows classes piece w b r
after_by_leaves {rows} {classes} {piece} {w} {b} after = record {
  moved = after.moved;
  moves = λ x narrow lays small.
      let moves = after.moves x narrow lays
      (below_of_bits (width x) (marked_leaves rows piece w)
      (λ i c. bit_below small ((bit_of_and w (leaves_mask rows piece) i).0 c).0)) in
      record {
        exactly = λ q o. (
          λ c. let (p, own, l, reads) = (moves.exactly q o).0 c in
              (p, own, ((bit_of_and w (leaves_mask rows piece) (number x p)).0 l).0, reads),
          λ (p, own, m, reads). (moves.exactly q o).1 (
            p,
            own,
            (bit_of_and w (leaves_mask rows piece) (number x p)).1 (m, reads_leaf lays classes b own reads),
            reads,
          ),
        );
        clean = moves.clean;
      };
  closes = after.closes;
}

module _ (rows classes : List ℕ) (w b key : ℕ) (is_byte_lem : b < key_bytes)
    (told : key ≡ marked_leaves rows 0 w * key_bytes + b) where
  leaves_told : key / key_bytes ≡ marked_leaves rows 0 w
  leaves_told = omega arith

  byte_told : key % key_bytes ≡ b
  byte_told = omega arith

  -- the step that was made from the leaves and the byte is the one that the key tells
  pub step_made : {r : ℕ} → WordAfter rows classes 0 (marked_leaves rows 0 w) b r → StepMade rows classes key r
  step_made {r} stepped =
      subst₂ (λ (v c : ℕ). WordAfter rows classes 0 v c r) (sym leaves_told) (sym byte_told) stepped

  -- and the other way round
  pub step_after : {r : ℕ} → StepMade rows classes key r → WordAfter rows classes 0 w b r
  step_after {r} made =
      after_by_leaves (subst₂ (λ (v c : ℕ). WordAfter rows classes 0 v c r) leaves_told byte_told made)
