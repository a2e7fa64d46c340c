-- What `ok_or` hands on of what was asked before.
use Rattle.std.specs.Prelude.{◌≡◌, Option, Some, None, Ok, Err, ok_or}

-- it was found
pub found_so : {A E : Type 0} (P : Option A → Type 0) (answer : Option A) (refusal : E) {a : A}
    → ok_or answer refusal ≡ Ok a → P answer → P (Some a)
found_so P (Some b) refusal {a = a} e p = let same : b ≡ a = cc in rw same at p
found_so P None refusal e p = absurd cc

-- it was not, and this is the refusal
pub none_so : {A E : Type 0} (P : Option A → Type 0) (answer : Option A) {refusal fault : E}
    → ok_or answer refusal ≡ Err fault → P answer → P None × (fault ≡ refusal)
none_so P (Some b) e p = absurd cc
none_so P None e p = (p, cc)
