-- From what the marks answer to what search has found so far.
use Rattle.std.specs.Prelude.{ℕ, ◌+◌, ◌≤◌, ◌<◌, ◌≡◌, ◌↔◌, Bool, true, List, [], ◌∷◌, ◌++◌, Option, None, length, get_or}
use Rattle.std.proofs.Common.{arith}
use Rattle.language.specs.Tree.{Tree}
use Rattle.tree.specs.Leaf.{Leaf, Matches}
use Rattle.tables.specs.Tables.{Holding, Answered}
use Rattle.matching.specs.Found.{part}
use Rattle.matching.specs.PartLaws.{part_empty, part_next, part_join}
use Rattle.matching.specs.Progress.{
  better,
  SaysPart,
  BestSoFar,
  Furthest,
  so_far_first,
  so_far_next,
  so_far_settled,
}

-- where search stands at the end e of parts from s: the words hold the marks after the part, and `best` is the latest
-- end so far
pub record Looking (classes : List ℕ) (t : Tree Leaf) (text : List ℕ) (s e : ℕ) (words : List ℕ) (best : Option ℕ)
    : Type 0 where
  pub holding : Holding classes t (part s e text) words
  pub so_far : BestSoFar (Matches classes t) text s e best

module _ (classes : List ℕ) (t : Tree Leaf) (text : List ℕ) where
  -- an answer about the bytes from s to e is one about the part
  says : (test : Bool) (s e : ℕ) → s ≤ e → e ≤ length text → (test ≡ true) ↔ Matches classes t (part s e text)
      → SaysPart (Matches classes t) text test s e
  says test s e ordered inside answer = (
    λ passes. record { ordered = ordered; inside = inside; belongs = answer.0 passes },
    λ found. answer.1 found.belongs,
  )

  -- at the beginning the part is empty
  pub standing_first : (s : ℕ) (words : List ℕ) (yes' : Bool) → s ≤ length text → Answered classes t [] words yes'
      → Looking classes t text s s words (better yes' s None)
  standing_first s words yes' inside answered =
      let here : Answered classes t (part s s text) words yes' = rw (part_empty s text) answered in
      record {
        holding = here.holding;
        so_far = so_far_first (Matches classes t) text yes' s (says yes' s s (omega arith) inside here.answer);
      }

  -- one byte further
  pub standing_next : (s e : ℕ) (words : List ℕ) (yes' : Bool) (best : Option ℕ) → s ≤ e → e < length text
      → BestSoFar (Matches classes t) text s e best
      → Answered classes t (part s e text ++ (get_or text e 0 ∷ [])) words yes'
      → Looking classes t text s (e + 1) words (better yes' (e + 1) best)
  standing_next s e words yes' best ordered inside so_far answered =
      let here : Answered classes t (part s (e + 1) text) words yes' = rw (part_next s e text ordered inside)
      answered in
      record {
        holding = here.holding;
        so_far = so_far_next (Matches classes t) text yes' best s e so_far
            (says yes' s (e + 1) (omega arith) (omega arith) here.answer);
      }

  -- where no text that goes on from the part is in the language, the latest end so far is the latest
  pub settled_early : {s e : ℕ} {words : List ℕ} {best : Option ℕ} → Looking classes t text s e words best → s ≤ e
      → e ≤ length text
      → ((v : List ℕ) → Matches classes t (part s e text ++ v) → ⊥) → Furthest (Matches classes t) text s best
  settled_early {s} {e} {words} {best} standing ordered inside none-on =
      so_far_settled (Matches classes t) text best s e standing.so_far
      (λ j later found.
      none-on (part e j text) (rw (part_join s e j text ordered (omega arith) inside) at found.belongs))

  -- at the end of the text the latest end so far is the latest
  pub settled_at_end : {s e : ℕ} {words : List ℕ} {best : Option ℕ} → Looking classes t text s e words best
      → length text ≤ e
      → Furthest (Matches classes t) text s best
  settled_at_end {s} {e} {words} {best} standing past =
      so_far_settled (Matches classes t) text best s e standing.so_far
      (λ j later found. absurd (omega (arith, found.inside)))
