-- Where an entry leads: the marks of a state, copied out and moved, are sought among those of the states.
use Rattle.std.specs.Prelude.{ℕ, ◌+◌, ◌-◌, ◌*◌, ◌≤◌, ◌<◌, ◌≡◌, ◌↔◌, List, ◌∷◌, [], ◌++◌, get_or, drop, length, take}
use Rattle.std.proofs.Common.{sym, subst, arith}
use Rattle.std.proofs.Math.Logic.Iff
use Rattle.language.specs.Nested.{origin}
use Rattle.language.specs.Tree.{Tree}
use Rattle.language.proofs.Same.{models_same}
use Rattle.tree.specs.Leaf.{Leaf}
use Rattle.tree.specs.Pieces.{cut_up}
use Rattle.tree.specs.Records.{piece_count}
use Rattle.tables.specs.Words.{Clean}
use Rattle.tables.specs.Tables.{Prepared, Holding}
use Rattle.closing.specs.BitsOfWords.Spots.{holds_held, held_at, clean_words}
use Rattle.closing.specs.BitsOfWords.KnownByMarks.{spot_onto}
use Rattle.closing.specs.BitsOfWords.Bits.{bit_below, same_bits, bit_zero}
use Rattle.closing.specs.BitsOfWords.Zero.{AllZero}
use Rattle.sweeping.specs.Twice.{front_holds, front_clean}
use Rattle.stepping.specs.Inner.{prepared_count}
use Rattle.stepping.specs.Texts.{all_words, none_marked}
use Rattle.machines.specs.Explored.{MarksAfter, NothingAfter}
use Rattle.exploring.specs.Keys.{SameUnder}
use Rattle.exploring.specs.MaskedWords.{held_bit}
use Rattle.exploring.specs.Room.{marks_of, Sought}
use Rattle.exploring.specs.RoomLaws.{marks_copied, marks_part_copied}
use Rattle.exploring.specs.FindingStates.{Leading}

-- where no state is marked, the words are 0
zero_words : {classes : List ℕ} {t : Tree Leaf} {w words : List ℕ} → Holding classes t w words
    → NothingAfter classes t w → AllZero (piece_count t) words
zero_words {classes} {t} {w} {words} holding none k inside =
    let x = cut_up t in
    same_bits (get_or words k 0) 0 (λ b. (
      λ lit.
          let (q, has, e) = spot_onto x k b (omega (arith, all_words t))
          (bit_below ((clean_words x words).0 holding.clean k (omega (arith, all_words t))) lit) in
          absurd (none (origin x q) ((holding.modelled q has).0
          ((holds_held x words q has).1 ((held_at words e).1 ((held_bit k b words).1 lit))))),
      λ lit. absurd (bit_zero b lit),
    ))

module _ {classes : List ℕ} {t : Tree Leaf} {w : List ℕ} {b : ℕ} {words : List ℕ}
    (holding : Holding classes t (w ++ (b ∷ [])) words) where
  -- nothing is left
  pub leads_nowhere : (masks : List ℕ) (count most states : ℕ) (room : List ℕ) → AllZero (piece_count t) words
      → Leading classes t w b masks count most states room words 0
  leads_nowhere masks count most states room zeros = record {
    within = omega arith;
    nothing = λ _. none_marked holding zeros;
    some = λ positive. absurd (omega arith);
    holding = holding;
    known = λ positive. absurd (omega arith);
    new = λ past. absurd (omega arith);
  }

  -- something is, and its state was sought
  pub leads_on_to : {masks : List ℕ} {count most states : ℕ} {room : List ℕ} {i : ℕ}
      → (AllZero (piece_count t) words → ⊥) → Sought masks count most states room words i
      → Leading classes t w b masks count most states room words (1 + i)
  leads_on_to {masks} {count} {most} {states} {room} {i} marked sought = record {
    within = omega (arith, sought.within);
    nothing = λ e. absurd (omega arith);
    some = λ _ none. marked (zero_words holding none);
    holding = holding;
    known = λ _ inside. subst (λ (j : ℕ). SameUnder masks count (marks_of count most room j) words)
        {x = i} {y = 1 + i - 1} (omega arith) (sought.known (omega arith));
    new = λ past. sought.new (omega arith);
  }

-- words hold marks exactly where the first of them do, one for each piece
pub holding_front : {t : Tree Leaf} {rows : List ℕ} {count : ℕ}
    → Prepared t rows count → {classes w : List ℕ} (words : List ℕ)
    → Holding classes t w (take count words) ↔ Holding classes t w words
holding_front {t} {count = count} prepared {classes} {w} words = (
  λ front. record {
    modelled = models_same (cut_up t) (MarksAfter classes t w)
        (λ q has. Iff.symm (front_holds (cut_up t) count words (prepared_count prepared) q has)) front.modelled;
    clean = (front_clean (cut_up t) count words (prepared_count prepared)).0 front.clean;
  },
  λ whole. record {
    modelled = models_same (cut_up t) (MarksAfter classes t w)
        (front_holds (cut_up t) count words (prepared_count prepared)) whole.modelled;
    clean = (front_clean (cut_up t) count words (prepared_count prepared)).1 whole.clean;
  },
)

-- words into which the marks of a state were copied have no bit past a last state, and hold what the marks hold
module _ {t : Tree Leaf} {rows : List ℕ} {count : ℕ}
    (prepared : Prepared t rows count) {words : List ℕ} (rest : List ℕ) (most : ℕ)
    (room : List ℕ) (i : ℕ) (few : i < most) (fits : most + count * most ≤ length room)
    (put : words ≡ take count (marks_of count most room i) ++ rest) where
  pub copied_clean : Clean (cut_up t) (marks_of count most room i) → Clean (cut_up t) words
  copied_clean clean = (front_clean (cut_up t) count words (prepared_count prepared)).0
      (subst (Clean (cut_up t)) (sym (marks_copied rest count most room i few fits put)) clean)

  pub copied_holding : {classes w : List ℕ} → Holding classes t w (marks_of count most room i)
      → Holding classes t w words
  copied_holding {classes} {w} holding = (holding_front prepared words).0
      (subst (Holding classes t w) (sym (marks_copied rest count most room i few fits put)) holding)

-- so have words into which the part of the room that the marks lie in was copied:
-- they have no bit past a last state, and hold what the marks hold
module _ {t : Tree Leaf} {rows : List ℕ} {count : ℕ}
    (prepared : Prepared t rows count) {words : List ℕ} (rest : List ℕ) (most : ℕ)
    (room : List ℕ) (i : ℕ) (few : i < most) (fits : most + count * most ≤ length room)
    (put : words ≡ take count (take (most + count * i + count - (most + count * i)) (drop (most + count * i) room))
    ++ rest) where
  pub part_copied_clean : Clean (cut_up t) (marks_of count most room i) → Clean (cut_up t) words
  part_copied_clean clean = (front_clean (cut_up t) count words (prepared_count prepared)).0
      (subst (Clean (cut_up t)) (sym (marks_part_copied rest count most room i few fits put)) clean)

  pub part_copied_holding : {classes w : List ℕ} → Holding classes t w (marks_of count most room i)
      → Holding classes t w words
  part_copied_holding {classes} {w} holding = (holding_front prepared words).0
      (subst (Holding classes t w) (sym (marks_part_copied rest count most room i few fits put)) holding)
