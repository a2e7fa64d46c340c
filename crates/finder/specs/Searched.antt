-- Every text has a right answer, and it can be computed: the starts from the first on, for each the ends from the start
-- on.
use Prim.Native.Nat.{ℕ, zero, suc, ◌+◌, ◌-◌, ◌≤◌}
use Rattle.std.specs.Prelude.{◌≡◌, Bool, true, ◌↔◌, List, Option, None, Some}
use native.Mathlib.Omega.{arith}
use Rattle.std.proofs.Math.ListN.{length}
use Rattle.matching.specs.Found.{part, NoneBefore, SearchOutcome, at, nothing, Answers}
use Rattle.finder.specs.SearchUnique.{search_unique}
use Rattle.matching.specs.Progress.{
  better,
  SaysPart,
  BestSoFar,
  Furthest,
  so_far_first,
  so_far_next,
  so_far_settled,
  none_past_end,
  none_before_first,
  settled_found,
  settled_next,
  none_before_end,
}

-- the latest end among the n + 1 places from s on
unfoldable pub latest_end : (List ℕ → Bool) → List ℕ → ℕ → ℕ → Option ℕ
latest_end test text s zero = better (test (part s s text)) s None
latest_end test text s (suc n) = better (test (part s (s + n + 1) text)) (s + n + 1) (latest_end test text s n)

-- the answer where a part begins at s: with its latest end, or as it is from the next start on
abbrev pub answer_at : ℕ → Option ℕ → SearchOutcome → SearchOutcome
answer_at s None later = later
answer_at s (Some e) later = at s e

-- the answer among the n starts from s on
unfoldable pub answer_from : (List ℕ → Bool) → List ℕ → ℕ → ℕ → SearchOutcome
answer_from test text s zero = nothing
answer_from test text s (suc n) =
    answer_at s (latest_end test text s (length text - s)) (answer_from test text (s + 1) n)

-- the answer of a search in a text for what passes the test
abbrev pub searched : (List ℕ → Bool) → List ℕ → SearchOutcome
searched test text = answer_from test text 0 (length text + 1)

module _ (L : List ℕ → Type 0) (test : List ℕ → Bool) (exactly : (w : List ℕ) → (test w ≡ true) ↔ L w) (text : List ℕ)
  where
    -- the test on a part says whether it lies in the language
    part_says : (s e : ℕ) → s ≤ e → e ≤ length text → SaysPart L text (test (part s e text)) s e
    part_says s e h k = (
      λ p. record { ordered = h; inside = k; belongs = (exactly (part s e text)).0 p },
      λ p. (exactly (part s e text)).1 p.belongs,
    )

    -- the latest end among some places is the latest so far
    latest_so_far : (s n : ℕ) → s + n ≤ length text → BestSoFar L text s (s + n) (latest_end test text s n)
    unfolding latest_end
    latest_so_far s zero h =
        let same : s + 0 ≡ s = omega arith in
        rw same (so_far_first L text (test (part s s text)) s (part_says s s (omega arith) (omega arith)))
    latest_so_far s (suc n) h =
        let same : s + suc n ≡ s + n + 1 = omega arith in
        rw same (so_far_next L text (test (part s (s + n + 1) text)) (latest_end test text s n) s (s + n)
        (latest_so_far s n (omega arith)) (part_says s (s + n + 1) (omega arith) (omega arith)))

    -- among all places up to the end of the text it is the latest of all
    latest_settled : (s : ℕ) → s ≤ length text → Furthest L text s (latest_end test text s (length text - s))
    latest_settled s h =
        let all : s + (length text - s) ≡ length text = omega arith in
        so_far_settled L text (latest_end test text s (length text - s)) s (length text)
        (rw all at (latest_so_far s (length text - s) (omega arith))) (none_past_end L text s)

    -- at one start: the answer there, or one from the next start on
    answer_settled : (s : ℕ) (best : Option ℕ) (later : SearchOutcome) → NoneBefore L text s → Furthest L text s best
        → (NoneBefore L text (s + 1) → Answers L text later) → Answers L text (answer_at s best later)
    answer_settled s None later before settled go = go (settled_next L text s before settled)
    answer_settled s (Some e) later before settled go = settled_found L text s e before settled

    -- by induction on the starts that are left
    answers_from : (s n : ℕ) → s + n ≡ length text + 1 → NoneBefore L text s
        → Answers L text (answer_from test text s n)
    unfolding answer_from
    answers_from s zero h before = let end : s ≡ length text + 1 =
        omega arith in none_before_end L text (rw end at before)
    answers_from s (suc n) h before =
        answer_settled s (latest_end test text s (length text - s)) (answer_from test text (s + 1) n) before
        (latest_settled s (omega arith)) (answers_from (s + 1) n (omega arith))

    -- the computed answer is right
    pub searched_answers : Answers L text (searched test text)
    searched_answers = answers_from 0 (length text + 1) (omega arith) (none_before_first L text)

    -- and it is the only one
    pub searched_exactly : (a : SearchOutcome) → Answers L text a ↔ (searched test text ≡ a)
    searched_exactly a =
        (λ f. search_unique L text (searched test text) a searched_answers f, λ e. rw e at searched_answers)
