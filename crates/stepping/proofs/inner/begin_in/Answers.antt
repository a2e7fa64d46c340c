-- `stepping::inner::begin_in` meets its contract: the root's start alone is marked in 128 words of zero, and these are
-- closed by two sweeps.
use mathlib.Core.Path.{ap, ◌∙◌}
use native.Mathlib.Omega.{arith}
use lib.ListN.{length, length-set}
use Rattle.stepping.specs.Inner.{first_row, top_low}
use Rattle.stepping.proofs.Starting.{start_closable, begun}
use borrow.Author.Rules.{rules}
use Rattle.stepping.proofs.inner.begin_in.Goals as goal

pub bounds-words-0 : goal.bounds-words-0
bounds-words-0 c =
    rw c.requires.words_value (search rules)

pub close_twice-requires : goal.close_twice-requires
close_twice-requires c =
    rw c.requires.words_value (start_closable c.requires.ready)

pub bounds-words-0-2 : goal.bounds-words-0-2
bounds-words-0-2 c =
    search (rules, c.close_twice.auto.words, ap length c.requires.words_value)

pub invariant_of-root : goal.invariant_of-root
invariant_of-root c = record { inside = first_row c.requires.ready }

pub has_bit-requires : goal.has_bit-requires
has_bit-requires c =
    omega (arith, c.top.ensures, top_low c.requires.ready.of_tree.1)

pub returns : goal.returns
returns c =
    λ classes t prepared.
    begun prepared classes _ _ _ c.requires.words_value c.close_twice.ensures.closed_twice
    (c.close_twice.auto.words ∙ length-set c.args.words.now 0 1) _
    c.top.ensures c.has_bit.ensures
