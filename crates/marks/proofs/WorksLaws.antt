-- What is refused of a start and of steps alike.
use Rattle.std.proofs.Common.{ℕ, refl, List}
use Rattle.tree.specs.RefusalNumbers.{too_few_words}
use Rattle.preparing.specs.MadeFor.{RefusedFor, not_good, too_few_classes}
use Rattle.marks.specs.declared.Work.{Work}
use Rattle.marks.specs.declared.Work.TheVariants.{Start, Steps}
use Rattle.marks.specs.Answer.{refusing_marks}
use Rattle.marks.specs.Promise.{TooFew, start_not_good, start_too_few_classes, start_too_few}
use Rattle.marks.specs.Works.{Works}
use Rattle.marks.proofs.AlongLaws.{each_not_good, each_too_few_classes, each_too_few}

-- what making the rows refuses is refused of a start and of steps
pub works_refused : {list classes : List ℕ} (words : List ℕ) {number : ℕ} (work : Work) → RefusedFor list classes number
    → Works list classes words words work (refusing_marks number)
works_refused words Start (not_good none) = start_not_good (record { because = none; refuses = refl; unchanged = refl })
works_refused words Start (too_few_classes few) =
    start_too_few_classes (record { because = few; refuses = refl; unchanged = refl })
works_refused words (Steps bytes) (not_good none) =
    each_not_good (record { because = none; refuses = refl; unchanged = refl }) bytes.now
works_refused words (Steps bytes) (too_few_classes few) =
    each_too_few_classes (record { because = few; refuses = refl; unchanged = refl }) bytes.now

-- and so are too few words
pub works_too_few : (list classes words : List ℕ) (work : Work) → TooFew list classes words
    → Works list classes words words work (refusing_marks too_few_words)
works_too_few list classes words Start few = start_too_few (record { because = few; refuses = refl; unchanged = refl })
works_too_few list classes words (Steps bytes) few = each_too_few (record { because = few; refuses = refl; unchanged = refl }) bytes.now
