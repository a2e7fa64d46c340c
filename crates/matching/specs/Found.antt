-- What search answers: the part of the text that begins earliest and then ends latest among those in the language, or
-- nothing.
use Rattle.std.specs.Prelude.{ℕ, ◌≤◌, ◌<◌, List, length}
pub use Rattle.input.specs.Part.{part}

module _ (L : List ℕ → Type 0) (text : List ℕ) where
  -- the part from s to e lies in the language
  pub record PartInLanguage (s e : ℕ) : Type 0 where
    pub ordered : s ≤ e
    pub inside : e ≤ length text
    pub belongs : L (part s e text)

  -- no part that begins before s lies in the language
  abbrev pub NoneBefore : ℕ → Type 0
  NoneBefore s = (i j : ℕ) → i < s → PartInLanguage i j → ⊥

  -- the part from s to e lies in the language, none that begins earlier does, and none from s that ends later
  pub record Found (s e : ℕ) : Type 0 where
    pub here : PartInLanguage s e
    pub earliest : NoneBefore s
    pub latest : (j : ℕ) → e < j → PartInLanguage s j → ⊥

  -- no part lies in the language
  abbrev pub NothingFound : Type 0
  NothingFound = (i j : ℕ) → PartInLanguage i j → ⊥

-- what search answers but for a refusal
pub data SearchOutcome : Type 0 where
  at : (start end : ℕ) → SearchOutcome
  nothing : SearchOutcome

module _ (L : List ℕ → Type 0) (text : List ℕ) where
  -- an answer is right
  abbrev pub Answers : SearchOutcome → Type 0
  Answers (at s e) = Found L text s e
  Answers nothing = NothingFound L text
