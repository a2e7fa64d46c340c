-- How a search comes to its answer: for one start the latest end so far, and no part that begins before that start.
use Rattle.std.specs.Prelude.{ℕ, ◌+◌, ◌≤◌, ◌<◌, ◌≡◌, refl, Bool, true, false, ◌↔◌, List, Option, None, Some, length}
use Rattle.std.proofs.lemmas.Bool.{false≢true}
use Rattle.std.proofs.Math.Decide.{dec_lt}
use Rattle.std.proofs.Common.{arith}
use Rattle.matching.specs.Found.{PartInLanguage, NoneBefore, Found, NothingFound}

-- the latest end so far, once a test has looked at the end e
abbrev pub better : Bool → ℕ → Option ℕ → Option ℕ
better true e best = Some e
better false e best = best

module _ (L : List ℕ → Type 0) (text : List ℕ) where
  -- a test says whether the part from s to e lies in the language
  abbrev pub SaysPart : Bool → ℕ → ℕ → Type 0
  SaysPart test s e = (test ≡ true) ↔ PartInLanguage L text s e

  -- no part from s ends at one of the places from i to e
  abbrev pub NoneEnds : ℕ → ℕ → ℕ → Type 0
  NoneEnds s i e = (j : ℕ) → i ≤ j → j ≤ e → PartInLanguage L text s j → ⊥

  -- no part from s ends after e
  abbrev pub NoneAfter : ℕ → ℕ → Type 0
  NoneAfter s e = (j : ℕ) → e < j → PartInLanguage L text s j → ⊥

  -- of the parts from s that end at e or before, the one from s to best ends latest
  pub record Latest (s e best : ℕ) : Type 0 where
    pub reached : best ≤ e
    pub here : PartInLanguage L text s best
    pub latest : NoneEnds s (best + 1) e

  -- the latest end so far, at e: of no part, or of one
  abbrev pub BestSoFar : ℕ → ℕ → Option ℕ → Type 0
  BestSoFar s e None = NoneEnds s s e
  BestSoFar s e (Some best) = Latest s e best

  -- the latest end of all parts from s
  pub record Best (s best : ℕ) : Type 0 where
    pub here : PartInLanguage L text s best
    pub latest : NoneAfter s best

  -- no part begins at s, or the latest end is known
  abbrev pub Furthest : ℕ → Option ℕ → Type 0
  Furthest s None = (j : ℕ) → PartInLanguage L text s j → ⊥
  Furthest s (Some best) = Best s best

  -- one place further where no part ends
  none_ends_next : (s i e : ℕ) → NoneEnds s i e → SaysPart false s (e + 1) → NoneEnds s i (e + 1)
  none_ends_next s i e so_far says j h k p =
      elim (dec_lt e j) [
        | yes l ↦ let at : j ≡ e + 1 = omega arith in false≢true (says.1 (rw at at p))
        | no l
            ↦ so_far j h (omega arith) p
      ]

  -- a part that ends at e ends latest so far
  hit : (s e : ℕ) → SaysPart true s e → Latest s e e
  hit s e says = record { reached = omega arith; here = says.0 refl; latest = λ j h k p. absurd (omega arith) }

  -- the first place where a part from s can end is s
  pub so_far_first : (test : Bool) (s : ℕ) → SaysPart test s s → BestSoFar s s (better test s None)
  so_far_first true s says = hit s s says
  so_far_first false s says = λ j h k p. let at : j ≡ s = omega arith in false≢true (says.1 (rw at at p))

  -- one place further
  pub so_far_next : (test : Bool) (best : Option ℕ) (s e : ℕ) → BestSoFar s e best → SaysPart test s (e + 1)
      → BestSoFar s (e + 1) (better test (e + 1) best)
  so_far_next true best s e far says = hit s (e + 1) says
  so_far_next false None s e far says = none_ends_next s s e far says
  so_far_next false (Some best) s e far says =
      record {
        reached = omega (arith, far.reached);
        here = far.here;
        latest =
            none_ends_next s (best + 1) e far.latest says;
      }

  -- where no part ends any later, the latest end so far is the latest of all
  pub so_far_settled : (best : Option ℕ) (s e : ℕ) → BestSoFar s e best → NoneAfter s e → Furthest s best
  so_far_settled None s e far after =
      λ j p. elim (dec_lt e j) [ yes l ↦ after j l p | no l ↦ far j p.ordered (omega arith) p ]
  so_far_settled (Some best) s e far after =
      record {
        here = far.here;
        latest =
            λ j h p. elim (dec_lt e j) [ yes l ↦ after j l p | no l ↦ far.latest j (omega arith) (omega arith) p ];
      }

  -- no part ends after the text's end
  pub none_past_end : (s : ℕ) → NoneAfter s (length text)
  none_past_end s j h p = absurd (omega (arith, p.inside))

  -- no part begins before the first place
  pub none_before_first : NoneBefore L text 0
  none_before_first i j h p = absurd (omega arith)

  -- where no part begins before s and the latest end from s is known, that is the answer
  pub settled_found : (s e : ℕ) → NoneBefore L text s → Furthest s (Some e) → Found L text s e
  settled_found s e before best = record { here = best.here; earliest = before; latest = best.latest }

  -- where none begins at s either, none begins before the next place
  pub settled_next : (s : ℕ) → NoneBefore L text s → Furthest s None → NoneBefore L text (s + 1)
  settled_next s before here i j h p =
      elim (dec_lt i s) [ yes l ↦ before i j l p | no l ↦ let at : i ≡ s = omega arith in here j (rw at at p) ]

  -- where none begins up to the text's end, there is none
  pub none_before_end : NoneBefore L text (length text + 1) → NothingFound L text
  none_before_end before i j p = before i j (omega (arith, p.ordered, p.inside)) p
