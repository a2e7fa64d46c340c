-- Where the reading of an operand, a catenation or a union stops, and which bytes begin the next operand.
use Rattle.std.specs.Prelude.{ℕ, ◌<◌, ◌≡◌, refl, Bool, true, false, List, length, get_or}
use Rattle.std.proofs.Common.{arith, ap, ◌∙◌}
use Rattle.operands.specs.Bytes.{
  Syntax,
  second,
  Sign,
  opening,
  closing,
  bar,
  asterisk,
  backslash,
  dot,
  bracket,
  end_bracket,
  plus,
  question,
  brace,
  end_brace,
  plain,
  sign_of,
  special,
}
use Rattle.operands.specs.Signs.{Means, sign_means}
use Rattle.operands.specs.Grammar.{Level, single, starred, joined, united}

-- whether a reading of this level stops before a byte: an operand takes every sign after it, a catenation goes on to
-- `|` or `)`, a union to `)`
abbrev pub stopping : Level → Sign → Bool
stopping single s = true
stopping starred asterisk = false
stopping starred opening = true
stopping starred closing = true
stopping starred bar = true
stopping starred backslash = true
stopping starred dot = true
stopping starred bracket = true
stopping starred end_bracket = true
stopping starred plus = false
stopping starred question = false
stopping starred brace = false
stopping starred end_brace = true
stopping starred plain = true
stopping joined closing = true
stopping joined bar = true
stopping joined opening = false
stopping joined asterisk = false
stopping joined backslash = false
stopping joined dot = false
stopping joined bracket = false
stopping joined end_bracket = false
stopping joined plus = false
stopping joined question = false
stopping joined brace = false
stopping joined end_brace = false
stopping joined plain = false
stopping united closing = true
stopping united bar = false
stopping united opening = false
stopping united asterisk = false
stopping united backslash = false
stopping united dot = false
stopping united bracket = false
stopping united end_bracket = false
stopping united plus = false
stopping united question = false
stopping united brace = false
stopping united end_brace = false
stopping united plain = false

-- where a reading of this level stops: at the end, or before such a byte
pub data Stops (syntax : Syntax) (level : Level) (bytes : List ℕ) (place : ℕ) : Type 0 where
  at_end : place ≡ length bytes → Stops syntax level bytes place
  at_sign : place < length bytes → stopping level (sign_of syntax (get_or bytes place 0)) ≡ true
      → Stops syntax level bytes place

-- a sign after which the next operand is due, after an operand: what begins one, and a `]` or `}`, where it is faulty
abbrev pub beginning : Sign → Bool
beginning opening = true
beginning backslash = true
beginning dot = true
beginning bracket = true
beginning end_bracket = true
beginning end_brace = true
beginning plain = true
beginning asterisk = false
beginning plus = false
beginning question = false
beginning brace = false
beginning bar = false
beginning closing = false

-- a byte that is not special stands for itself
pub not_special : (sign : Sign) → special sign ≡ false → sign ≡ plain
not_special plain e = refl
not_special opening e = cc
not_special closing e = cc
not_special bar e = cc
not_special asterisk e = cc
not_special backslash e = cc
not_special dot e = cc
not_special bracket e = cc
not_special end_bracket e = cc
not_special plus e = cc
not_special question e = cc
not_special brace e = cc
not_special end_brace e = cc

-- after an operand with its signs, a byte other than `|` and `)` begins the next operand
next_begins : (syntax : Syntax) (sign : Sign) (b : ℕ) → Means syntax b sign → (b ≡ 124 → ⊥) → (b ≡ 41 → ⊥)
    → stopping starred sign ≡ true
    → beginning sign ≡ true
next_begins syntax opening b means no-bar no-closing e = refl
next_begins syntax backslash b means no-bar no-closing e = refl
next_begins syntax dot b means no-bar no-closing e = refl
next_begins syntax bracket b means no-bar no-closing e = refl
next_begins syntax end_bracket b means no-bar no-closing e = refl
next_begins syntax end_brace b means no-bar no-closing e = refl
next_begins syntax plain b means no-bar no-closing e = refl
next_begins syntax plus b means no-bar no-closing e = cc
next_begins syntax question b means no-bar no-closing e = cc
next_begins syntax brace b means no-bar no-closing e = cc
next_begins syntax asterisk b means no-bar no-closing e = cc
next_begins syntax bar b means no-bar no-closing e = absurd (no-bar means)
next_begins syntax closing b means no-bar no-closing e = absurd (no-closing means)

-- a catenation that stops at a byte other than `|` stops at a `)`
only_closing : (syntax : Syntax) (sign : Sign) (b : ℕ) → Means syntax b sign → (b ≡ 124 → ⊥)
    → stopping joined sign ≡ true
    → stopping united sign ≡ true
only_closing syntax closing b means no-bar e = refl
only_closing syntax bar b means no-bar e = absurd (no-bar means)
only_closing syntax opening b means no-bar e = cc
only_closing syntax asterisk b means no-bar e = cc
only_closing syntax backslash b means no-bar e = cc
only_closing syntax dot b means no-bar e = cc
only_closing syntax bracket b means no-bar e = cc
only_closing syntax end_bracket b means no-bar e = cc
only_closing syntax plus b means no-bar e = cc
only_closing syntax question b means no-bar e = cc
only_closing syntax brace b means no-bar e = cc
only_closing syntax end_brace b means no-bar e = cc
only_closing syntax plain b means no-bar e = cc

-- a byte other than `*` and the three signs of the second syntax ends an operand
no_sign : (syntax : Syntax) (sign : Sign) (b : ℕ) → Means syntax b sign → (b ≡ 42 → ⊥)
    → ((syntax ≡ second) → (b ≡ 43 → ⊥) × (b ≡ 63 → ⊥) × (b ≡ 123 → ⊥)) → stopping starred sign ≡ true
no_sign syntax asterisk b means no-asterisk others = absurd (no-asterisk means)
no_sign syntax plus b means no-asterisk others = absurd ((others means.0).0 means.1)
no_sign syntax question b means no-asterisk others = absurd ((others means.0).1 means.1)
no_sign syntax brace b means no-asterisk others = absurd ((others means.0).2 means.1)
no_sign syntax opening b means no-asterisk others = refl
no_sign syntax closing b means no-asterisk others = refl
no_sign syntax bar b means no-asterisk others = refl
no_sign syntax backslash b means no-asterisk others = refl
no_sign syntax dot b means no-asterisk others = refl
no_sign syntax bracket b means no-asterisk others = refl
no_sign syntax end_bracket b means no-asterisk others = refl
no_sign syntax end_brace b means no-asterisk others = refl
no_sign syntax plain b means no-asterisk others = refl

-- a union stops at a `)`
closes : (syntax : Syntax) (sign : Sign) (b : ℕ) → Means syntax b sign → stopping united sign ≡ true → b ≡ 41
closes syntax closing b means e = means
closes syntax opening b means e = cc
closes syntax bar b means e = cc
closes syntax asterisk b means e = cc
closes syntax backslash b means e = cc
closes syntax dot b means e = cc
closes syntax bracket b means e = cc
closes syntax end_bracket b means e = cc
closes syntax plus b means e = cc
closes syntax question b means e = cc
closes syntax brace b means e = cc
closes syntax end_brace b means e = cc
closes syntax plain b means e = cc

module _ (syntax : Syntax) (bytes : List ℕ) where
  -- the same at a place
  pub stops_starred : (place : ℕ) → place < length bytes → (get_or bytes place 0 ≡ 42 → ⊥)
      → ((syntax ≡ second)
      → (get_or bytes place 0 ≡ 43 → ⊥) × (get_or bytes place 0 ≡ 63 → ⊥) × (get_or bytes place 0 ≡ 123 → ⊥))
      → Stops syntax starred bytes place
  stops_starred place h no-asterisk others =
      at_sign h (no_sign syntax (sign_of syntax (get_or bytes place 0)) (get_or bytes place 0) (sign_means syntax
      (get_or bytes place 0))
      no-asterisk others)

  pub stops_at : {level : Level} {b : ℕ} (place : ℕ) → place < length bytes → get_or bytes place 0 ≡ b
      → stopping level (sign_of syntax b) ≡ true → Stops syntax level bytes place
  stops_at {level} place h e stop = at_sign h (ap (λ (x : ℕ). stopping level (sign_of syntax x)) e ∙ stop)

  pub stops_united : (place : ℕ) → place < length bytes → (get_or bytes place 0 ≡ 124 → ⊥)
      → Stops syntax joined bytes place
      → Stops syntax united bytes place
  stops_united place h no-bar (at_end e) = at_end e
  stops_united place h no-bar (at_sign h' e) =
      at_sign h (only_closing syntax (sign_of syntax (get_or bytes place 0)) (get_or bytes place 0) (sign_means syntax
      (get_or bytes place 0))
      no-bar e)

  pub begins_next : (place : ℕ) → place < length bytes → (get_or bytes place 0 ≡ 124 → ⊥) → (get_or bytes place 0 ≡ 41 → ⊥)
      → Stops syntax starred bytes place → beginning (sign_of syntax (get_or bytes place 0)) ≡ true
  begins_next place h no-bar no-closing (at_end e) = absurd (omega arith)
  begins_next place h no-bar no-closing (at_sign h' e) =
      next_begins syntax (sign_of syntax (get_or bytes place 0)) (get_or bytes place 0) (sign_means syntax
      (get_or bytes place 0)) no-bar
      no-closing e

  pub closes_united : (place : ℕ) → Stops syntax united bytes place → place < length bytes → get_or bytes place 0 ≡ 41
  closes_united place (at_end e) h = absurd (omega arith)
  closes_united place (at_sign h' e) h =
      closes syntax (sign_of syntax (get_or bytes place 0)) (get_or bytes place 0) (sign_means syntax
      (get_or bytes place 0)) e
