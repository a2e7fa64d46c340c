-- What is promised of a start and of steps, by which of them is to be done.
use Rattle.std.specs.Prelude.{ℕ, List}
use Rattle.marks.specs.declared.Work.{Work}
use Rattle.marks.specs.declared.Work.TheVariants.{Start, Steps}
use Rattle.marks.specs.Answer.{MarksNumbers}
use Rattle.marks.specs.Promise.{Starts}
use Rattle.marks.specs.StepsEach.{StepsEach}

-- the words afterwards and the numbers given back are those of a start, or of a step for each byte
abbrev pub Works : (list classes before after : List ℕ) → Work → MarksNumbers → Type 0
Works list classes before after Start n = Starts list classes before after n
Works list classes before after (Steps bytes) n = StepsEach list classes before bytes.now after n
