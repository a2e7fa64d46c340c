-- What `explain` promises of a lent buffer: every byte of it.
use Rattle.std.specs.Prelude.{ℕ, ◌≤◌, ◌<◌, ◌≡◌, Result, Ok, Err, List, ◌++◌, length, drop}
use Rattle.tree.specs.declared.refusal.Refusal.{Refusal}
use Rattle.tree.specs.declared.refusal.Refusal.TheVariants.{BufferTooShort}
use Rattle.explaining.specs.Explained.{explained, most_explained}

-- the output stands at the front of the buffer, and what stood after it is kept
pub record ExplanationWritten (input before after : List ℕ) (size : ℕ) : Type 0 where
  pub room : most_explained ≤ length before
  pub sized : size ≡ length (explained input)
  pub inside : size ≤ length before
  pub whole : after ≡ explained input ++ drop size before

-- the buffer is shorter than the longest output, and is kept
pub record NoRoomToExplain (before after : List ℕ) : Type 0 where
  pub short : length before < most_explained
  pub kept : after ≡ before

-- what each answer says
abbrev pub Explains : (input before after : List ℕ) → Result ℕ Refusal → Type 0
Explains input before after (Ok size) = ExplanationWritten input before after size
Explains input before after (Err refusal) = (refusal ≡ BufferTooShort) × NoRoomToExplain before after
