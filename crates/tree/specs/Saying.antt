-- Laws of a yes or no: each answer needs its reason alone.
use Rattle.std.specs.Prelude.{ℕ, ◌≡◌, Bool, true, false}
use Rattle.std.proofs.Common.{arith}
use Rattle.tree.specs.Says.{Says}

-- true is not false
pub true_false : true ≡ false → ⊥
true_false e = let z : ◌≡◌ {A = ℕ} 0 1 = cc in omega arith

-- yes, where it holds
pub says_yes : {P : Type 0} → P → Says P true
says_yes p = record { if_so = λ e. p; if_not = λ e q. true_false e }

-- no, where it does not
pub says_no : {P : Type 0} → (P → ⊥) → Says P false
says_no n = record { if_so = λ e. absurd (let z : ◌≡◌ {A = ℕ} 0 1 = cc in omega arith); if_not = λ e. n }

-- the same of something that holds exactly when P does
pub says_of : {P Q : Type 0} {b : Bool} → (P → Q) → (Q → P) → Says P b → Says Q b
says_of there back s = record { if_so = λ e. there (s.if_so e); if_not = λ e q. s.if_not e (back q) }
