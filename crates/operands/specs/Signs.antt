-- Which byte has which sign: a sign other than `plain` belongs to one byte alone.
use Rattle.std.specs.Prelude.{ℕ, ◌≡◌, refl, Bool, true, false, cond, eqb}
use Rattle.std.proofs.Common.{eqb-true}
use Rattle.operands.specs.Bytes.{
  Syntax,
  first,
  second,
  Sign,
  opening,
  closing,
  bar,
  asterisk,
  backslash,
  dot,
  bracket,
  end_bracket,
  plus,
  question,
  brace,
  end_brace,
  plain,
  sign_of,
  sign_of_second,
}

-- the byte that a special sign belongs to; seven belong to the second syntax
abbrev pub Means : Syntax → ℕ → Sign → Type 0
Means syntax b opening = b ≡ 40
Means syntax b closing = b ≡ 41
Means syntax b bar = b ≡ 124
Means syntax b asterisk = b ≡ 42
Means syntax b backslash = b ≡ 92
Means syntax b dot = (syntax ≡ second) × (b ≡ 46)
Means syntax b bracket = (syntax ≡ second) × (b ≡ 91)
Means syntax b end_bracket = (syntax ≡ second) × (b ≡ 93)
Means syntax b plus = (syntax ≡ second) × (b ≡ 43)
Means syntax b question = (syntax ≡ second) × (b ≡ 63)
Means syntax b brace = (syntax ≡ second) × (b ≡ 123)
Means syntax b end_brace = (syntax ≡ second) × (b ≡ 125)
Means syntax b plain = Unit {0}

-- what holds of the first sign where the test passes, and of the other, holds of the one picked
picked : (P : Sign → Type 0) (test : Bool) (s r : Sign) → (test ≡ true → P s) → P r → P (cond test s r)
picked P true s r taken other = taken refl
picked P false s r taken other = other

-- the byte of a sign that only the second syntax has
second_means : (syntax : Syntax) (b : ℕ) → Means syntax b (sign_of_second syntax b)
second_means first b = tt
second_means second b =
    picked (Means second b) (eqb b 46) dot _ (λ e. (refl, eqb-true b 46 e))
    (picked (Means second b) (eqb b 91) bracket _ (λ e. (refl, eqb-true b 91 e))
    (picked (Means second b) (eqb b 93) end_bracket _ (λ e. (refl, eqb-true b 93 e))
    (picked (Means second b) (eqb b 43) plus _ (λ e. (refl, eqb-true b 43 e))
    (picked (Means second b) (eqb b 63) question _ (λ e. (refl, eqb-true b 63 e))
    (picked (Means second b) (eqb b 123) brace _ (λ e. (refl, eqb-true b 123 e))
    (picked (Means second b) (eqb b 125) end_brace plain (λ e. (refl, eqb-true b 125 e)) tt))))))

-- every byte is the one that its sign belongs to: each test in `sign_of` compares with that byte
pub sign_means : (syntax : Syntax) (b : ℕ) → Means syntax b (sign_of syntax b)
sign_means syntax b =
    picked (Means syntax b) (eqb b 40) opening _ (eqb-true b 40)
    (picked (Means syntax b) (eqb b 41) closing _ (eqb-true b 41)
    (picked (Means syntax b) (eqb b 124) bar _ (eqb-true b 124)
    (picked (Means syntax b) (eqb b 42) asterisk _ (eqb-true b 42)
    (picked (Means syntax b) (eqb b 92) backslash _ (eqb-true b 92) (second_means syntax b)))))
