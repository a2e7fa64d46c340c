-- Two texts lead to one state exactly when the words after them agree under the masks.
use Rattle.std.specs.Prelude.{ℕ, zero, suc, ◌+◌, ◌<◌, ◌≡◌, refl, ◌↔◌, ◌⊎◌, List, ◌∷◌, get_or, drop}
use Rattle.std.proofs.Common.{sym, ap, ◌∙◌, subst, inl, inr, ⊎_elim, arith, get_or-drop}
use Rattle.std.proofs.Math.Logic.Iff
use Rattle.std.specs.Int.Bits.{bit_and}
use Rattle.language.specs.Automaton.{State, accepting}
use Rattle.language.specs.Nested.{Nested, Has, origin}
use Rattle.language.specs.TakenAsOne.{LeafStart}
use Rattle.language.specs.Tree.{Tree}
use Rattle.tree.specs.Leaf.{Leaf, meaning}
use Rattle.tree.specs.Pieces.{cut_up, stated}
use Rattle.tables.specs.Words.{Bit, width, run, Holds}
use Rattle.tables.specs.Plan.{leaves_mask, top_of}
use Rattle.tables.specs.Tables.{Prepared, Holding}
use Rattle.closing.specs.BitsOfWords.Spots.{
  bit_at,
  bit_of,
  Spot,
  own,
  under,
  spot,
  SetAt,
  SpotWithin,
  spot_within,
  holds_held,
  held_at,
  clean_words,
}
use Rattle.closing.specs.Passes.Laid.{lays_each}
use Rattle.closing.specs.BitsOfWords.KnownByMarks.{spot_at, spot_onto}
use Rattle.closing.specs.BitsOfWords.Bits.{bit_of_and, bit_with, bit_below, same_bits}
use Rattle.sweeping.specs.Visiting.{accepting_holds}
use Rattle.stepping.specs.Inner.{prepared_count}
use Rattle.machines.specs.Explored.{MarksAfter, OneState}
use Rattle.exploring.specs.LeafStarts.{LeafAt, leaf_has, leaf_origin, origin_leaf, masks_hold}
use Rattle.exploring.specs.Keys.{Keys, SameUnder}

-- then they agree in each bit of the masks
under_bit : {masks : List ℕ} {count : ℕ} {u v : List ℕ} → SameUnder masks count u v → (k b : ℕ) → k < count
    → Bit (get_or masks k 0) b → Bit (get_or u k 0) b ↔ Bit (get_or v k 0) b
under_bit {masks} {count} {u} {v} same k b inside masked = (
  λ h. ((bit_of_and (get_or v k 0) (get_or masks k 0) b).0
      ((bit_of b (same.each k inside)).0 ((bit_of_and (get_or u k 0) (get_or masks k 0) b).1 (h, masked)))).0,
  λ h. ((bit_of_and (get_or u k 0) (get_or masks k 0) b).0
      ((bit_of b (same.each k inside)).1 ((bit_of_and (get_or v k 0) (get_or masks k 0) b).1 (h, masked)))).0,
)

-- every bit of the masks that one has the other has
abbrev MaskedWithin : (masks : List ℕ) → (count : ℕ) → (u v : List ℕ) → Type 0
MaskedWithin masks count u v = (k b : ℕ) → k < count → Bit (get_or masks k 0) b → Bit (get_or u k 0) b → Bit (get_or v k 0) b

-- where they agree in each, they agree
under_of_bits : (masks : List ℕ) (count : ℕ) (u v : List ℕ) → MaskedWithin masks count u v
    → MaskedWithin masks count v u
    → SameUnder masks count u v
under_of_bits masks count u v on back = record {
  each = λ k inside. same_bits (bit_and (get_or u k 0) (get_or masks k 0)) (bit_and (get_or v k 0) (get_or masks k 0)) (λ b. (
    λ h. let (l, m) = (bit_of_and (get_or u k 0) (get_or masks k 0) b).0 h in
        (bit_of_and (get_or v k 0) (get_or masks k 0) b).1 (on k b inside m l, m),
    λ h. let (l, m) = (bit_of_and (get_or v k 0) (get_or masks k 0) b).0 h in
        (bit_of_and (get_or u k 0) (get_or masks k 0) b).1 (back k b inside m l, m),
  ));
}

-- the bit of a spot, by its word
pub held_bit : (k b : ℕ) (words : List ℕ) → SetAt (spot_at k b) words ↔ Bit (get_or words k 0) b
held_bit zero b words = (λ h. h, λ h. h)
held_bit (suc o) b words = (λ h. h, λ h. h)

module _ {t : Tree Leaf} {rows : List ℕ} {count : ℕ}
    (prepared : Prepared t rows count) {masks : List ℕ} (keys : Keys rows count masks)
  where
    abbrev x : Nested Leaf
    x = cut_up t

    -- the masks without the bit of the accepting state
    abbrev leaves : List ℕ
    leaves = leaves_mask rows 0 ∷ drop 1 masks

    -- they are the masks of the leaves
    leaves_are : (k : ℕ) → k < 1 + run x → get_or leaves k 0 ≡ leaves_mask rows k
    leaves_are zero h = refl
    leaves_are (suc o) h =
        get_or-drop 1 masks o 0 ∙ keys.others (1 + o) (omega arith) (omega (arith, prepared_count prepared))
        ∙ ap (leaves_mask rows) (omega arith)

    -- past the first they are the same
    later_leaves : (o : ℕ) → get_or leaves (suc o) 0 ≡ get_or masks (suc o) 0
    later_leaves o = get_or-drop 1 masks o 0 ∙ ap (λ (k : ℕ). get_or masks k 0) (omega arith)

    -- so they mark the starts of leaves
    leaves_hold : (q : State) → Has x q → Holds x leaves q ↔ LeafAt x q
    leaves_hold = masks_hold rows x leaves
        (lays_each rows x prepared.planned) leaves_are

    -- the masks have the bits of the masks of the leaves, and that of the accepting state
    leaf_bit : (b : ℕ) → Bit (leaves_mask rows 0) b → Bit (get_or masks 0 0) b
    leaf_bit b h = (bit_of b keys.first).1 ((bit_with (leaves_mask rows 0) (top_of rows 0) b).1 (inl h))

    top_bit : Bit (get_or masks 0 0) (top_of rows 0)
    top_bit = (bit_of (top_of rows 0) keys.first).1
        ((bit_with (leaves_mask rows 0) (top_of rows 0) (top_of rows 0)).1 (inr refl))

    -- the spot of the start of a leaf lies under the masks
    spot_same : {u v : List ℕ} → SameUnder masks count u v → (s : Spot) → SpotWithin (width x) (run x) s
        → SetAt s leaves → SetAt s u ↔ SetAt s v
    spot_same same (own b) within lit = under_bit same 0 b (omega (arith, prepared_count prepared)) (leaf_bit b lit)
    spot_same same (under o b) within lit =
        under_bit same (suc o) b (omega (arith, prepared_count prepared))
        ((bit_of b (later_leaves o)).0 lit)

    -- words that agree under the masks mark the same starts of leaves
    same_starts : {u v : List ℕ} → SameUnder masks count u v → (q : State) → LeafAt x q → Holds x u q ↔ Holds x v q
    same_starts {u} {v} same q leaf =
        let has = leaf_has x q leaf in
        Iff.trans (holds_held x u q has)
        (Iff.trans (spot_same same (spot x q) (spot_within x q has)
        ((holds_held x leaves q has).0 ((leaves_hold q has).1 leaf)))
        (Iff.symm (holds_held x v q has)))

    -- the accepting state's bit is the one that the rows tell
    accepting_bit : (words : List ℕ) → Holds x words accepting ↔ Bit (get_or words 0 0) (top_of rows 0)
    accepting_bit words = Iff.trans (accepting_holds x words)
        (bit_at (get_or words 0 0) (sym prepared.planned.0.topped))

    -- a bit of the masks is one of the masks of the leaves, or that of the accepting state
    leaf_or_top : (k b : ℕ) → k < count → Bit (get_or masks k 0) b
        → Bit (get_or leaves k 0) b ⊎ ((k ≡ 0) × (b ≡ top_of rows 0))
    leaf_or_top zero b inside lit = ⊎_elim inl (λ e. inr (refl, e))
        ((bit_with (leaves_mask rows 0) (top_of rows 0) b).0 ((bit_of b keys.first).0 lit))
    leaf_or_top (suc o) b inside lit =
        inl ((bit_of b (later_leaves o)).1 lit)

    -- a bit of the masks that is set after one text is set after one that leads to the same state
    follows : {classes v w before after : List ℕ} → Holding classes t v before → Holding classes t w after
        → OneState classes t v w → MaskedWithin masks count before after
    follows {classes} {v} {w} {before} {after} first second one k b inside masked lit =
        elim (leaf_or_top k b inside masked) [
          | inl at_leaf ↦
              let (q, has, e) = spot_onto x k b (omega (arith, prepared_count prepared))
              (bit_below ((clean_words x before).0 first.clean k (omega (arith, prepared_count prepared))) lit) in
              let here : LeafAt x q = (leaves_hold q has).0
              ((holds_held x leaves q has).1 ((held_at leaves e).1 ((held_bit k b leaves).1 at_leaf))) in
              let held : Holds x before q =
              (holds_held x before q has).1 ((held_at before e).1 ((held_bit k b before).1 lit)) in
              let then : Holds x after q =
              (second.modelled q has).1 ((one.starts (origin x q)
              (subst (λ (s : Tree Leaf). LeafStart (meaning classes) s (origin x q)) (stated t).same_tree
              (leaf_origin classes x q here))).0 ((first.modelled q has).0 held)) in
              (held_bit k b after).0 ((held_at after e).0 ((holds_held x after q has).0 then))
          | inr (none, top) ↦
              subst (λ (j : ℕ). Bit (get_or after j 0) b) (sym none) ((bit_at (get_or after 0 0) top).1
              ((accepting_bit after).0 ((second.modelled accepting tt).1 (one.accepts.0
              ((first.modelled accepting tt).0 ((accepting_bit before).1 ((bit_at (get_or before 0 0) top).0
              (subst (λ (j : ℕ). Bit (get_or before j 0) b) none lit))))))))
        ]

    module _ {classes v w : List ℕ} {before after : List ℕ} (first : Holding classes t v before)
        (second : Holding classes t w after) where
      -- words that agree under the masks are those of texts that lead to one state
      pub one_state : SameUnder masks count before after → OneState classes t v w
      one_state same = record {
        starts = λ p leaf.
            let (q, here, e) = origin_leaf classes x p
            (subst (λ (s : Tree Leaf). LeafStart (meaning classes) s p) (sym (stated t).same_tree) leaf) in
            let has = leaf_has x q here in
            subst (λ (s : State). MarksAfter classes t v s ↔ MarksAfter classes t w s) e
            (Iff.trans (Iff.symm (first.modelled q has))
            (Iff.trans (same_starts same q here) (second.modelled q has)));
        accepts =
            Iff.trans (Iff.symm (first.modelled accepting tt))
            (Iff.trans (accepting_bit before)
            (Iff.trans (under_bit same 0 (top_of rows 0) (omega (arith, prepared_count prepared)) top_bit)
            (Iff.trans (Iff.symm (accepting_bit after)) (second.modelled accepting tt))));
      }

      -- and the other way round
      pub same_under : OneState classes t v w → SameUnder masks count before after
      same_under one = under_of_bits masks count before after (follows first second one)
          (follows second first
          (record { starts = λ p leaf. Iff.symm (one.starts p leaf); accepts = Iff.symm one.accepts }))
