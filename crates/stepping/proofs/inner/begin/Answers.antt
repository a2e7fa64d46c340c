-- `stepping::inner::begin` meets its contract: 128 words of zero are begun in, and the first of them, one for each
-- piece, are put into the lent words.
use Rattle.std.proofs.Common.{ℕ, refl, ap, arith, List, ◌++◌, drop}
use Rattle.stepping.specs.Inner.{begun_copy}
use Rattle.stepping.proofs.inner.begin.Goals as goal

pub begin_in-accepting-requires : goal.begin_in-accepting-requires
begin_in-accepting-requires c =
    record { ready = c.requires.ready; words_value = refl }

pub returns : goal.returns
returns c =
    λ classes t prepared.
    begun_copy prepared (c.begin_in-accepting.ensures classes t prepared)
    (omega (arith, c.begin_in-accepting.auto.words, prepared.counted, prepared.few))
    c.requires.count_in_bounds (ap (λ (l : List ℕ). l ++ drop c.args.count c.args.words.now) c.copy_from_slice.ensures.after)
