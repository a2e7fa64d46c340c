-- The invariant of `stepping::inner::copy`: the first i words are those of the one slice, the others those of the other.
use Rattle.stepping.specs.Inner.{Copying}
use Rattle.stepping.proofs.inner.copy.Given as goal

abbrev pub invariant-loop-i : goal.invariant-loop-i
invariant-loop-i l = Copying l.from l.initial.to l.count l.to l.i
