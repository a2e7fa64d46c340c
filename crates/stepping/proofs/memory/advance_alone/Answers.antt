-- `stepping::memory::advance_alone` meets its contract: the word after the byte is the whole of the marks.
use native.Mathlib.Omega.{arith}
use Rattle.stepping.specs.Inner.{first_row, top_low}
use Rattle.stepping.specs.Alone.{advanced_alone}
use Rattle.stepping.proofs.memory.advance_alone.Goals as goal

pub bounds-words-0 : goal.bounds-words-0
bounds-words-0 c =
    omega (arith, c.requires.running.enough)

pub remembered_step-after-requires : goal.remembered_step-after-requires
remembered_step-after-requires c =
    (first_row c.requires.running.ready, c.requires.remembers)

pub bounds-words-0-2 : goal.bounds-words-0-2
bounds-words-0-2 c =
    omega (arith, c.requires.running.enough)

pub invariant_of-root : goal.invariant_of-root
invariant_of-root c = record { inside = first_row c.requires.running.ready }

pub has_bit-requires : goal.has_bit-requires
has_bit-requires c =
    omega (arith, c.top.ensures, top_low c.requires.running.ready.of_tree.1)

pub returns : goal.returns
returns c =
    record {
      advanced = λ t prepared marks. advanced_alone prepared (omega (arith, c.requires.running.enough)) marks
          c.remembered_step-after.ensures.word_after _ c.top.ensures c.has_bit.ensures
          c.none_marked.ensures;
      remembers_2 = c.remembered_step-after.ensures.remembers;
    }
