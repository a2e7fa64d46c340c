-- The reading of a class from after its `[`, apart from what stands around it.
use Rattle.std.specs.Prelude.{ℕ, ◌+◌, List, [], ◌∷◌}
use Rattle.classes.specs.Class.{Class, Inside, ClassStep, goes_on, whole, faulty, class_step}

-- what reading a class comes to: the class, what follows its `]`, and the place there; or it is not of the form
pub data ClassRan : Type 0 where
  found : Class → (rest : List ℕ) → (next : ℕ) → ClassRan
  failed : ClassRan

-- after one byte
abbrev pub class_ran_on : ClassStep → (rest : List ℕ) → (next : ℕ) → (Class → Inside → ClassRan) → ClassRan
class_ran_on (goes_on class inside) rest next on = on class inside
class_ran_on (whole class) rest next on = found class rest next
class_ran_on faulty rest next on = failed

-- the bytes from a place on, where this much was read of the class
unfoldable pub class_run : List ℕ → ℕ → Class → Inside → ClassRan
class_run [] place class inside = failed
class_run (b ∷ rest) place class inside =
    class_ran_on (class_step b class inside) rest (place + 1) (class_run rest (place + 1))
