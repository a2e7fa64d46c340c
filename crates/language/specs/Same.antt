-- Marks matter only at the states that there are: moves and sweeps make marks that agree there of marks that agree
-- there.
use Rattle.std.specs.Prelude.{◌↔◌}
use Rattle.language.specs.Automaton.{State, States}
use Rattle.language.specs.Nested.{Nested, Has}

-- what Y marks in D, Z marks too
abbrev pub MoreIn : States → States → States → Type 0
MoreIn D Y Z = (q : State) → D q → Y q → Z q

-- Y and Z have the same marks at the states of x
abbrev pub Agree : {A : Type 0} → Nested A → States → States → Type 0
Agree x Y Z = (q : State) → Has x q → Y q ↔ Z q
