-- The written syntax, as the prose has it: the signs after an operand bind tightest, then catenation, then `|`; both
-- group to the left. The dot, classes, `+`, `?` and counts stand where `.`, `[`, `+`, `?` and `{` are signs. And the
-- place of each node: of a character its byte or its `\`, of a class its `[`, of a dot the dot, of a sign the sign (`{`
-- of a count), of a catenation the first byte of its right operand, with its `(`.
use Rattle.std.specs.Prelude.{ℕ, ◌+◌, ◌<◌, ◌≡◌, true, List, [], ◌∷◌, length}
use Rattle.language.specs.SignedTree.{
  SignedTree,
  leaf,
  catenation,
  union,
  star,
  one_or_more as more,
  optional,
  counted,
}
use Rattle.tree.specs.Limits.{most_groups}
use Rattle.operands.specs.Bytes.{Syntax, dot, bracket, plus, question, brace, plain, sign_of, special}
use Rattle.classes.specs.Class.{Class, the_dot}
use Rattle.classes.specs.ClassGrammar.{SpellsClass}
use Rattle.counts.specs.CountGrammar.{SpellsCount}
use Rattle.operands.specs.Scanner.{Atom, literal, one_of}

-- what is read: an operand, an operand with the signs after it, a catenation of these, a union of those
pub data Level : Type 0 where
  single starred joined united : Level

-- in an expression of `size` bytes the last ones, these, begin at this place
abbrev pub BeginsAt : (size place : ℕ) → List ℕ → Type 0
BeginsAt size place bytes = place + length bytes ≡ size

-- `Spells syntax size depth level bytes rest t`: in an expression of `size` bytes, with `depth` groups open, the last
-- bytes begin with a written t of this level, and `rest` follows it
pub data Spells (syntax : Syntax) (size : ℕ) : ℕ → Level → List ℕ → List ℕ → SignedTree Atom → Type 0 where
  itself : {depth b place : ℕ} {rest : List ℕ} → sign_of syntax b ≡ plain → BeginsAt size place (b ∷ rest)
      → Spells syntax size depth single (b ∷ rest) rest (leaf place (literal b))
  escaped : {depth b place : ℕ} {rest : List ℕ} → special (sign_of syntax b) ≡ true
      → BeginsAt size place (92 ∷ b ∷ rest)
      → Spells syntax size depth single (92 ∷ b ∷ rest) rest (leaf place (literal b))
  any_but_line_end : {depth b place : ℕ} {rest : List ℕ} → sign_of syntax b ≡ dot → BeginsAt size place (b ∷ rest)
      → Spells syntax size depth single (b ∷ rest) rest (leaf place (one_of the_dot))
  bracketed : {depth b place : ℕ} {bytes rest : List ℕ} {class : Class} → sign_of syntax b ≡ bracket
      → BeginsAt size place (b ∷ bytes) → SpellsClass bytes rest class
      → Spells syntax size depth single (b ∷ bytes) rest (leaf place (one_of class))
  group : {depth : ℕ} {bytes rest : List ℕ} {t : SignedTree Atom} → depth < most_groups
      → Spells syntax size (depth + 1) united bytes (41 ∷ rest) t
      → Spells syntax size depth single (40 ∷ bytes) rest t
  no_sign : {depth : ℕ} {bytes rest : List ℕ} {t : SignedTree Atom} → Spells syntax size depth single bytes rest t
      → Spells syntax size depth starred bytes rest t
  one_star : {depth place : ℕ} {bytes rest : List ℕ} {t : SignedTree Atom} → BeginsAt size place (42 ∷ rest)
      → Spells syntax size depth starred bytes (42 ∷ rest) t
      → Spells syntax size depth starred bytes rest (star place t)
  one_or_more : {depth b place : ℕ} {bytes rest : List ℕ} {t : SignedTree Atom} → sign_of syntax b ≡ plus
      → BeginsAt size place (b ∷ rest) → Spells syntax size depth starred bytes (b ∷ rest) t
      → Spells syntax size depth starred bytes rest (more place t)
  none_or_one : {depth b place : ℕ} {bytes rest : List ℕ} {t : SignedTree Atom} → sign_of syntax b ≡ question
      → BeginsAt size place (b ∷ rest) → Spells syntax size depth starred bytes (b ∷ rest) t
      → Spells syntax size depth starred bytes rest (optional place t)
  so_many : {depth b place fewest most : ℕ} {bytes between rest : List ℕ} {t : SignedTree Atom}
      → sign_of syntax b ≡ brace → BeginsAt size place (b ∷ between)
      → Spells syntax size depth starred bytes (b ∷ between) t → SpellsCount between rest fewest most
      → Spells syntax size depth starred bytes rest (counted place fewest most t)
  one_factor : {depth : ℕ} {bytes rest : List ℕ} {t : SignedTree Atom} → Spells syntax size depth starred bytes rest t
      → Spells syntax size depth joined bytes rest t
  next_factor : {depth place : ℕ} {bytes between rest : List ℕ} {s t : SignedTree Atom}
      → BeginsAt size place between → Spells syntax size depth joined bytes between s
      → Spells syntax size depth starred between rest t
      → Spells syntax size depth joined bytes rest (catenation place s t)
  one_branch : {depth : ℕ} {bytes rest : List ℕ} {t : SignedTree Atom} → Spells syntax size depth joined bytes rest t
      → Spells syntax size depth united bytes rest t
  next_branch : {depth place : ℕ} {bytes between rest : List ℕ} {s t : SignedTree Atom}
      → BeginsAt size place (124 ∷ between) → Spells syntax size depth united bytes (124 ∷ between) s
      → Spells syntax size depth joined between rest t
      → Spells syntax size depth united bytes rest (union place s t)

-- the bytes are a written expression with the tree t
abbrev pub Written : Syntax → List ℕ → SignedTree Atom → Type 0
Written syntax bytes t = Spells syntax (length bytes) 0 united bytes [] t
