-- A step of a list of one piece, whose only word is the one after the byte.
use Rattle.std.specs.Prelude.{ℕ, ◌<◌, ◌≡◌, refl, Bool, List, length, get_or, set}
use Rattle.std.proofs.Common.{sym, ap, ◌∙◌, subst, arith, get_or-set_same}
use Rattle.language.specs.Tree.{Tree}
use Rattle.tree.specs.Leaf.{Leaf}
use Rattle.tables.specs.Tables.{Prepared}
use Rattle.tables.specs.Words.{Bit}
use Rattle.tables.specs.Plan.{top_of}
use Rattle.closing.specs.BitsOfWords.Bits.{Tells}
use Rattle.closing.specs.BitsOfWords.Zero.{AllZero}
use Rattle.moving.specs.WordsMovedClosed.{WordAfter, moved_single}
use Rattle.stepping.specs.Hold.{MarksOf}
use Rattle.stepping.specs.Inner.{Running, Advanced, advanced, moved_alone}

-- told with 1 in the place of the count
pub running_alone : {rows words : List ℕ} {count : ℕ} → count ≡ 1 → Running rows count words → Running rows 1 words
running_alone {rows} {words} one running = subst (λ (n : ℕ). Running rows n words) one running

pub prepared_alone : {t : Tree Leaf} {rows : List ℕ} {count : ℕ} → count ≡ 1 → Prepared t rows count
    → Prepared t rows 1
prepared_alone {t} {rows} one prepared = subst (λ (n : ℕ). Prepared t rows n) one prepared

-- the one word is 0 or not
single_zero : (words : List ℕ) {r : ℕ} {nothing : Bool} → 0 < length words → Tells (r ≡ 0) nothing
    → Tells (AllZero 1 (set words 0 r)) nothing
single_zero words {r} some told =
    let put = get_or-set_same words 0 r 0 some in
    record {
      holds = λ e k low. ap (λ (j : ℕ). get_or (set words 0 r) j 0) (omega arith) ∙ put ∙ told.holds e;
      fails = λ e zeros. told.fails e (sym put ∙ zeros 0 (omega arith));
    }

-- the step, from the word after the byte and what is told of it
pub advanced_alone : {t : Tree Leaf} {rows classes words : List ℕ} {byte r : ℕ} {yes' nothing : Bool}
    → Prepared t rows 1 → 0 < length words → MarksOf t words → WordAfter rows classes 0 (get_or words 0 0) byte r
    → (top : ℕ) → top ≡ top_of rows 0 → Tells (Bit r top) yes' → Tells (r ≡ 0) nothing
    → Advanced classes t byte words (set words 0 r) yes' nothing
advanced_alone {words = words} {byte = byte} {r = r} {yes' = yes'} {nothing = nothing}
    prepared some marks after top top-is told left =
    advanced prepared byte words (set words 0 r) (set words 0 r) yes' nothing marks (moved_single some after)
    (moved_alone refl) refl top top-is
    (subst (λ (v : ℕ). Tells (Bit v top) yes') (sym (get_or-set_same words 0 r 0 some)) told)
    (single_zero words some left)
