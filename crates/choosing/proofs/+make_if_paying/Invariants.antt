-- `make_if_paying` calls itself with less room. The measure is how many words of room there are.
use Rattle.choosing.proofs.+make_if_paying.Given as goal

abbrev pub decreases-make_if_paying : goal.decreases-make_if_paying
decreases-make_if_paying l = l.words
