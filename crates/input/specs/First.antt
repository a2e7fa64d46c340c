-- The first line as the iterator over the lines gives it, and an empty one where there is none.
use Rattle.std.specs.Prelude.{ℕ, ◌≡◌, Option, Some, None, List, []}
use Rattle.std.specs.Iterator.{YieldsFirstRef}
use Rattle.std.specs.Option.{unwrap_or}
use Rattle.std.proofs.Common.{Bor, sym, ap, ◌∙◌}
use Rattle.input.specs.Lines.{expression, texts}
use Rattle.input.specs.Left.{lines_left}
use Rattle.input.specs.declared.line.Lines.{Lines}

-- the line is the expression of all lines, and the texts come later
pub record FirstGiven (all : List (List ℕ)) (line : List ℕ) (later : List (List ℕ)) : Type 0 where
  pub is_expression : expression all ≡ line
  pub are_texts : texts all ≡ later

-- what the iterator gives first
pub first_given : (all : List (List ℕ)) (before after : Lines) (given : Option (Bor (List ℕ)))
    (otherwise line : Bor (List ℕ)) → lines_left before ≡ all → YieldsFirstRef lines_left before given after
    → line ≡ unwrap_or given otherwise → otherwise.now ≡ [] → FirstGiven all line.now (lines_left after)
first_given all before after None otherwise line same none e empty = record {
  is_expression = ap expression (sym same ∙ none.0) ∙ sym empty ∙ sym (ap (λ (b : Bor (List ℕ)). b.now) e);
  are_texts = ap texts (sym same ∙ none.0) ∙ sym none.1;
}
first_given all before after (Some given) otherwise line same one e empty = record {
  is_expression = ap expression (sym same ∙ one) ∙ sym (ap (λ (b : Bor (List ℕ)). b.now) e);
  are_texts = ap texts (sym same ∙ one);
}
