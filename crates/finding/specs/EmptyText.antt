-- An empty text is in a language exactly when a part of it is: it has no other part than itself.
use Rattle.std.specs.Prelude.{ℕ, ◌≡◌, refl, true, ◌↔◌, List, [], ◌∷◌, Option, None, Some, is_some, length}
use Rattle.std.proofs.Common.{sym, subst, ◌∙◌, arith}
use Rattle.std.proofs.lemmas.Bool.{false≢true}
use Rattle.matching.specs.Found.{part, Answers}
use Rattle.matching.specs.PartLaws.{part_empty, part_length}
use Rattle.matching.specs.SearchAnswers.{answer_of}
use Rattle.matching.specs.declared.part.Span.{Span}

-- no bytes are the empty text
no_bytes : (l : List ℕ) → length l ≡ 0 → l ≡ []
no_bytes [] none = refl
no_bytes (b ∷ l) none = absurd (omega arith)

pub found_in_empty : (L : List ℕ → Type 0) (text : List ℕ) → length text ≡ 0 → (found : Option Span)
    → Answers L text (answer_of found) → (is_some found ≡ true) ↔ L text
found_in_empty L text none (Some span) answer =
    let here = answer.here in
    let short : length (part span.start span.end text) ≡ 0 = part_length span.start span.end text here.inside ∙ omega (arith, here.inside) in
    (λ yes. subst L (no_bytes (part span.start span.end text) short ∙ sym (no_bytes text none)) here.belongs, λ belongs. refl)
found_in_empty L text none None answer = (
  λ e. absurd (false≢true e),
  λ belongs. absurd (answer 0 0 (record {
    ordered = omega arith;
    inside = omega arith;
    belongs = subst L (no_bytes text none ∙ sym (part_empty 0 text)) belongs;
  })),
)
