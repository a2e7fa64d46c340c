-- What the scanner gives, the grammar reads: at every place the scanner's state says what was read from the beginning
-- up to there.
use Rattle.std.specs.Prelude.{ℕ, ◌<◌, ◌≡◌, List, [], ◌∷◌, length}
use Rattle.std.proofs.Math.Option.{Option, none, some}
use Rattle.language.specs.SignedTree.{SignedTree}
use Rattle.tree.specs.Limits.{most_groups}
use Rattle.operands.specs.Bytes.{Syntax, bracket, brace, sign_of}
use Rattle.classes.specs.Class.{Class, Inside}
use Rattle.classes.specs.ClassSound.{ClassSoFar}
use Rattle.counts.specs.Count.{Counting}
use Rattle.counts.specs.CountSound.{CountSoFar}
use Rattle.operands.specs.Scanner.{Atom, Phase, due, escaping, in_class, in_count, after, Waiting, Before, Group}
use Rattle.operands.specs.Grammar.{Level, starred, joined, united, BeginsAt, Spells}

-- the bytes hold the tree that waits, and the rest begins at the place that waits with it
pub record Collected (syntax : Syntax) (size depth : ℕ) (level : Level) (bytes rest : List ℕ) (s : Waiting) : Type 0
  where
    pub begins : BeginsAt size s.place rest
    pub spelled : Spells syntax size depth level bytes rest s.left

module _ (syntax : Syntax) (size depth : ℕ) where
  -- the union collected: the bytes hold it up to a `|` and go on with `between`, or nothing is collected
  abbrev pub Branches : List ℕ → List ℕ → Option Waiting → Type 0
  Branches bytes between none = bytes ≡ between
  Branches bytes between (some s) = Collected syntax size depth united bytes (124 ∷ between) s

  -- the catenation collected: the bytes hold it and go on with the rest, or nothing is collected
  abbrev pub Factors : List ℕ → List ℕ → Option Waiting → Type 0
  Factors between rest none = between ≡ rest
  Factors between rest (some s) = Collected syntax size depth joined between rest s

-- what stands before the rest, within the group that holds it, is already read
pub record ReadBefore (syntax : Syntax) (size depth : ℕ) (bytes rest : List ℕ) (before : Before) : Type 0 where
  pub between : List ℕ
  pub branches : Branches syntax size depth bytes between before.unions
  pub factors : Factors syntax size depth between rest before.factors

-- what stands before each open group's inside is already read: `inside` is where the innermost one's begins
pub data ReadAround (syntax : Syntax) (whole : List ℕ) : List Group → List ℕ → Type 0 where
  outermost : ReadAround syntax whole [] whole
  in_group : {g : Group} {groups : List Group} {outer inside : List ℕ} → length groups < most_groups
      → ReadAround syntax whole groups outer
      → ReadBefore syntax (length whole) (length groups) outer (40 ∷ inside) g.outside
      → ReadAround syntax whole (g ∷ groups) inside

-- what the scanner's state says of the bytes before the rest, by its phase: where an operand is due, after a `\`, in a
-- class, in a count, after an operand
pub data ReadSoFar (syntax : Syntax) (whole : List ℕ) : List ℕ → Phase → Before → List Group → Type 0 where
  at_operand : {inside rest : List ℕ} {before : Before} {groups : List Group} → ReadAround syntax whole groups inside
      → ReadBefore syntax (length whole) (length groups) inside rest before
      → ReadSoFar syntax whole rest due before groups
  at_escape : {place : ℕ} {inside rest : List ℕ} {before : Before} {groups : List Group}
      → ReadAround syntax whole groups inside
      → ReadBefore syntax (length whole) (length groups) inside (92 ∷ rest) before
      → BeginsAt (length whole) place (92 ∷ rest)
      → ReadSoFar syntax whole rest (escaping place) before groups
  at_class : {place b : ℕ} {class : Class} {inner : Inside} {inside from rest : List ℕ} {before : Before}
      {groups : List Group} → ReadAround syntax whole groups inside
      → ReadBefore syntax (length whole) (length groups) inside (b ∷ from) before → sign_of syntax b ≡ bracket
      → BeginsAt (length whole) place (b ∷ from)
      → ClassSoFar from rest class.all_but class.items inner
      → ReadSoFar syntax whole rest (in_class place class inner) before groups
  at_count : {place b : ℕ} {counting : Counting} {inside from after-sign rest : List ℕ} {before : Before}
      {groups : List Group} {t : SignedTree Atom} → ReadAround syntax whole groups inside
      → ReadBefore syntax (length whole) (length groups) inside from before
      → Spells syntax (length whole) (length groups) starred from (b ∷ after-sign) t → sign_of syntax b ≡ brace
      → BeginsAt (length whole) place (b ∷ after-sign)
      → CountSoFar after-sign rest counting
      → ReadSoFar syntax whole rest (in_count place t counting) before groups
  past_operand : {inside from rest : List ℕ} {before : Before} {groups : List Group} {t : SignedTree Atom}
      → ReadAround syntax whole groups inside
      → ReadBefore syntax (length whole) (length groups) inside from before
      → Spells syntax (length whole) (length groups) starred from rest t
      → ReadSoFar syntax whole rest (after t) before groups
