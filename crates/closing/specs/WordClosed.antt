-- Closed words of a piece: closing again changes nothing, and no marks are closed.
use Rattle.std.specs.Prelude.{ℕ}
use Rattle.std.proofs.Common.{pow_pos}
use Rattle.language.specs.Automaton.{here}
use Rattle.language.specs.Nested.{Nested}
use Rattle.language.specs.Simulation.{then}
use Rattle.tree.specs.Leaf.{Leaf}
use Rattle.tables.specs.Words.{width, number}
use Rattle.tables.specs.Plan.{Closes}
use Rattle.closing.specs.BitsOfWords.Bits.{bit_zero}

-- what was closed is closed
pub closes_again : {x : Nested Leaf} {w r : ℕ} → Closes x w r → Closes x r r
closes_again closes = record {
  exactly = λ q o. (
    λ b. (q, o, b, here),
    λ (p, o', b, way). let (first, o'', c, begun) =
        (closes.exactly p o').0 b in (closes.exactly q o).1 (first, o'', c, then begun way),
  );
  clean = closes.clean;
}

-- no marks are closed
pub closes_none : (x : Nested Leaf) → Closes x 0 0
closes_none x = record {
  exactly = λ q o. (λ b. absurd (bit_zero (number x q) b), λ (p, o', b, way). absurd (bit_zero (number x p) b));
  clean = pow_pos (width x);
}
