-- Where marks are left after a move: gathered word by word, as each piece is moved and closed.
use Rattle.std.specs.Prelude.{ℕ, ◌+◌, ◌-◌, ◌≤◌, ◌<◌, ◌≡◌, refl, ◌⊎◌, Bool, true, false, Option, None, Some, List, length, get_or, set}
use Rattle.std.proofs.Common.{sym, ap, ◌∙◌, subst, inl, inr, ⊎_elim, arith, get_or-set_same, get_or-set_other}
use Rattle.std.proofs.Math.Decide.{ℕ_discrete}
use Rattle.closing.specs.BitsOfWords.Bits.{Tells}
use Rattle.moving.specs.declared.moves.WordSpan.{WordSpan}

-- of the first n words those before `from` are 0 and those from `to` on; where there is a mark, the word before `to`
-- has one
pub record Spans (words : List ℕ) (n from to : ℕ) : Type 0 where
  pub none_before : (o : ℕ) → o < from → get_or words o 0 ≡ 0
  pub none_after : (o : ℕ) → to ≤ o → o < n → get_or words o 0 ≡ 0
  pub some_last : 0 < to → get_or words (to - 1) 0 ≡ 0 → ⊥
  pub within : to ≤ n
  pub ordered : from ≤ to

-- where the first n words have marks, or that they have none
abbrev pub SpansOf : (words : List ℕ) (n : ℕ) → Option WordSpan → Type 0
SpansOf words n None = Spans words n 0 0
SpansOf words n (Some span) = Spans words n span.from span.to × (0 < span.to)

-- the first piece with a mark, where that of the pieces before is given and `piece` comes after them
abbrev pub first_marked : Option WordSpan → (piece : ℕ) → ℕ
first_marked None piece = piece
first_marked (Some span) piece = span.from

-- what one piece more makes of a span, by its word
pub data SpanLonger (before : Option WordSpan) (piece word : ℕ) : Option WordSpan → Type 0 where
  stays : word ≡ 0 → SpanLonger before piece word before
  grows : {from : ℕ} → (word ≡ 0 → ⊥) → from ≡ first_marked before piece
      → SpanLonger before piece word (Some (record { from = from; to = piece + 1 }))

-- what one piece more makes of `from` and `to`, by whether its word is zero
pub data SpanWidened (from to piece : ℕ) (zero : Bool) : (from' to' : ℕ) → Type 0 where
  no_mark : zero ≡ true → SpanWidened from to piece zero from to
  first_mark : zero ≡ false → to ≡ 0 → SpanWidened from to piece zero piece (piece + 1)
  later_mark : zero ≡ false → (to ≡ 0 → ⊥) → SpanWidened from to piece zero from (piece + 1)

-- at first there are none
pub spans_none : (words : List ℕ) → Spans words 0 0 0
spans_none words = record {
  none_before = λ o l. absurd (omega arith);
  none_after = λ o l h. absurd (omega arith);
  some_last = λ some e. omega arith;
  within = omega arith;
  ordered = omega arith;
}

module _ {words : List ℕ} {n from to : ℕ} (word : ℕ) (spans : Spans words n from to) (inside : n < length words) where
  -- a word before the new one is as it was
  kept : (o : ℕ) → o < n → get_or (set words n word) o 0 ≡ get_or words o 0
  kept o low = get_or-set_other words n o word 0 (λ e. omega arith)

  put : get_or (set words n word) n 0 ≡ word
  put = get_or-set_same words n word 0 inside

  -- a word of no mark changes nothing
  pub spans_same : word ≡ 0 → Spans (set words n word) (n + 1) from to
  spans_same none = record {
    none_before = λ o l. kept o (omega (arith, spans.ordered, spans.within)) ∙ spans.none_before o l;
    none_after = λ o l h. elim (ℕ_discrete o n) [
      | yes e ↦ ap (λ (j : ℕ). get_or (set words n word) j 0) e ∙ put ∙ none
      | no other ↦ kept o (omega arith) ∙ spans.none_after o l (omega arith)
    ];
    some_last = λ some e. spans.some_last some (sym (kept (to - 1) (omega (arith, spans.within))) ∙ e);
    within = omega (arith, spans.within);
    ordered = spans.ordered;
  }

  -- one with a mark is the last of the span, and the first where there was none before
  pub spans_longer : {from' : ℕ} → (word ≡ 0 → ⊥) → (from' ≡ from) × (0 < to) ⊎ (from' ≡ n) × (to ≡ 0)
      → Spans (set words n word) (n + 1) from' (n + 1)
  spans_longer mark starts = record {
    none_before = λ o l. ⊎_elim
        (λ (e, some). kept o (omega (arith, spans.ordered, spans.within)) ∙ spans.none_before o (omega arith))
        (λ (e, none). kept o (omega arith) ∙ spans.none_after o (omega arith) (omega arith))
        starts;
    none_after = λ o l h. absurd (omega arith);
    some_last = λ some e. mark (sym put ∙ ap (λ (j : ℕ). get_or (set words n word) j 0) (omega arith) ∙ e);
    within = omega arith;
    ordered = ⊎_elim (λ (e, some). omega (arith, spans.ordered, spans.within)) (λ (e, none). omega arith) starts;
  }

  -- so one word more is gathered
  pub spans_more : {zero : Bool} {from' to' : ℕ} → Tells (word ≡ 0) zero → SpanWidened from to n zero from' to'
      → Spans (set words n word) (n + 1) from' to'
  spans_more told (no_mark none) = record {
    none_before = λ o l. kept o (omega (arith, spans.ordered, spans.within)) ∙ spans.none_before o l;
    none_after = λ o l h. elim (ℕ_discrete o n) [
      | yes e ↦ ap (λ (j : ℕ). get_or (set words n word) j 0) e ∙ put ∙ told.holds none
      | no other ↦ kept o (omega arith) ∙ spans.none_after o l (omega arith)
    ];
    some_last = λ some e. spans.some_last some (sym (kept (to - 1) (omega (arith, spans.within))) ∙ e);
    within = omega (arith, spans.within);
    ordered = spans.ordered;
  }
  spans_more told (first_mark mark none) = record {
    none_before = λ o l. kept o l ∙ spans.none_after o (omega arith) l;
    none_after = λ o l h. absurd (omega arith);
    some_last = λ some e. told.fails mark (sym put ∙ ap (λ (j : ℕ). get_or (set words n word) j 0) (omega arith) ∙ e);
    within = omega arith;
    ordered = omega arith;
  }
  spans_more told (later_mark mark some-before) = record {
    none_before = λ o l. kept o (omega (arith, spans.ordered, spans.within)) ∙ spans.none_before o l;
    none_after = λ o l h. absurd (omega arith);
    some_last = λ some e. told.fails mark (sym put ∙ ap (λ (j : ℕ). get_or (set words n word) j 0) (omega arith) ∙ e);
    within = omega arith;
    ordered = omega (arith, spans.ordered, spans.within);
  }

-- the same for the words as they were told
pub spans_gathered : (words : List ℕ) (n : ℕ) (before : Option WordSpan) (word : ℕ) {after : Option WordSpan}
    → SpansOf words n before → n < length words → SpanLonger before n word after
    → SpansOf (set words n word) (n + 1) after
spans_gathered words n None word spans inside (stays none) = spans_same word spans inside none
spans_gathered words n None word spans inside (grows mark e) = (spans_longer word spans inside mark (inr (e, refl)), omega arith)
spans_gathered words n (Some span) word spans inside (stays none) = (spans_same word spans.0 inside none, spans.1)
spans_gathered words n (Some span) word spans inside (grows mark e) =
    (spans_longer word spans.0 inside mark (inl (e, spans.1)), omega arith)

-- all are gathered
pub spans_all : {words : List ℕ} {n m from to : ℕ} → m ≡ n → Spans words m from to → Spans words n from to
spans_all {words} {from = from} {to = to} e spans = subst (λ (k : ℕ). Spans words k from to) e spans
