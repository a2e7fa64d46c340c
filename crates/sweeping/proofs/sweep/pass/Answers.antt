-- `sweeping::sweep::pass` meets its contract: masked by 1, the word shifted down is its bit, which shifted up stays
-- within 64 bits.
use mathlib.Core.Path.{◌≡◌, ap, ◌∙◌}
use Prim.Native.Nat.{ℕ, ◌*◌, ◌/◌, ◌%◌, ◌^◌, ◌<◌}
use native.Mathlib.Nat.{mod-lt}
use native.Mathlib.Omega.{arith}
use lib.Bits.{bit_and, bit_or, and_mask}
use lib.Pow.{shl_exact}
use Rattle.tables.specs.Words.{word_bits}
use Rattle.sweeping.specs.Swept.{passed}
use Rattle.sweeping.proofs.sweep.pass.Goals as goal

shifted : (v to : ℕ) → to < word_bits → (bit_and v 1 * 2 ^ to) % 2 ^ word_bits ≡ v % 2 * 2 ^ to
shifted v to h =
    ap (λ (n : ℕ). (n * 2 ^ to) % 2 ^ word_bits) (and_mask v 1)
    ∙ shl_exact {a = v % 2} 1 to word_bits (mod-lt v {m = 2} (omega arith)) (omega arith)

pub returns : goal.returns
unfolding passed
returns c =
    ap (λ (n : ℕ). bit_or c.args.word n)
    (shifted (c.args.other / 2 ^ c.args.from) c.args.to c.requires.1)
