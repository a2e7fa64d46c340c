-- `closing::bits::set_where` meets its contract: what is joined is one bit or none.
use Prim.Native.Nat.{ℕ, ◌*◌, ◌%◌, ◌^◌, ◌<◌}
use mathlib.Core.Path.{◌≡◌}
use mathlib.Core.Bool.{Bool, true, false}
use mathlib.Core.Logic.{◌⊎◌, ◌↔◌}
use mir.Val.{bool_byte}
use lib.Bits.{bit_or}
use Rattle.tables.specs.Words.{word_bits, Bit}
use Rattle.closing.specs.BitsOfWords.Bits.{joined_bit, njoined_bit}
use Rattle.closing.proofs.bits.set_where.Goals as goal

joined : (test : Bool) (w i j : ℕ) → i < word_bits
    → Bit (bit_or w (bool_byte test * 2 ^ i % 2 ^ word_bits)) j ↔ (Bit w j ⊎ ((j ≡ i) × (test ≡ true)))
joined true w i j inside = joined_bit w i j inside
joined false w i j inside = njoined_bit w i j

pub returns : goal.returns
returns c = rw c.from.ensures (λ j. joined c.args.test c.args.word c.args.i j c.requires)
