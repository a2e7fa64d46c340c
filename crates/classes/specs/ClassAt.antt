-- The class that is written at a place of an expression.
use Rattle.std.specs.Prelude.{ℕ, ◌+◌, ◌<◌, ◌≡◌, cond, List, length, drop, get_or, eqb}
use Rattle.classes.specs.Class.{Class, the_dot, unread, opened}
use Rattle.classes.specs.ClassRun.{ClassRan, found, failed, class_run}

-- the reading of the class whose `[` stands at a place
unfoldable pub run_at : List ℕ → (at : ℕ) → ClassRan
run_at bytes at = class_run (drop (at + 1) bytes) (at + 1) unread opened

-- the class that was found
abbrev pub class_of_run : ClassRan → Class
class_of_run (found class rest next) = class
class_of_run failed = unread

-- the class that is written at a place
unfoldable pub class_at : List ℕ → (at : ℕ) → Class
class_at bytes at = cond (eqb (get_or bytes at 0) 46) the_dot (class_of_run (run_at bytes at))

-- a class is written at a place: a dot, or a `[` from which the reading finds a class
pub data ClassHere (bytes : List ℕ) (at : ℕ) : Type 0 where
  dot_here : at < length bytes → get_or bytes at 0 ≡ 46 → ClassHere bytes at
  bracket_here : {class : Class} {rest : List ℕ} {next : ℕ} → at < length bytes → get_or bytes at 0 ≡ 91
      → run_at bytes at ≡ found class rest next → ClassHere bytes at
