-- Taking the set bits of a word one by one, from the lowest on.
use Rattle.std.specs.Prelude.{ℕ, ◌-◌, ◌<◌, ◌≡◌, Option, None, Some}
use Rattle.std.specs.Int.Bits.{bit_and}
use Rattle.tables.specs.Words.{word_bits}
use Rattle.closing.specs.BitsOfWords.LowestBit.{Lowest}

-- what comes of a word w, and what is left of it: its lowest bit, and the word without it; of 0 nothing comes
abbrev pub LowestTaken : ℕ → Option ℕ → ℕ → Type 0
LowestTaken w None v = (w ≡ 0) × (v ≡ 0)
LowestTaken w (Some s) v = Lowest w s × (s < word_bits) × (v ≡ bit_and w (w - 1))
