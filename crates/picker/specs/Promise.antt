-- What `pick` promises of a lent buffer: every byte of it.
use Rattle.std.specs.Prelude.{ℕ, ◌≤◌, ◌<◌, ◌≡◌, Result, Ok, Err, List, ◌++◌, length, drop}
use Rattle.tree.specs.declared.refusal.Refusal.{Refusal}
use Rattle.tree.specs.declared.refusal.Refusal.TheVariants.{BufferTooShort}
use Rattle.printing.specs.OutputLimits.{most_output}
use Rattle.reporting.specs.Print.{picked}

-- the output stands at the front of the buffer, and what stood after it is kept
pub record Wrote (input before after : List ℕ) (size : ℕ) : Type 0 where
  pub room : most_output ≤ length before
  pub sized : size ≡ length (picked input)
  pub whole : after ≡ picked input ++ drop size before

-- the buffer is shorter than the longest output, and is kept
pub record HasNoRoom (before after : List ℕ) : Type 0 where
  pub short : length before < most_output
  pub kept : after ≡ before

-- what each answer says
abbrev pub Picks : (input before after : List ℕ) → Result ℕ Refusal → Type 0
Picks input before after (Ok size) = Wrote input before after size
Picks input before after (Err refusal) = (refusal ≡ BufferTooShort) × HasNoRoom before after
